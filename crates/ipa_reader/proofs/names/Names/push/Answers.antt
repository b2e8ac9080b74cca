use Rattle.ipa_reader.proofs.MoreLemmas.{pushed}
use Rattle.ipa_reader.proofs.names.Names.push.Goals as goal

pub returns : goal.returns
returns c =
    let put = pushed c.equal_names.ensures c.args.self.now c.args.name c.requires in
    cc (put, c.in_ok-_new.ensures.keys, c.self.view_is)
