use Rattle.ipa_sets.proofs.IndexLemmas.{index_stays}
use Rattle.ipa_sets.proofs.index.Index.prepare.Goals as goal

pub returns-in_err-make_room-clause-indexed : goal.returns-in_err-make_room-clause-indexed
returns-in_err-make_room-clause-indexed c = index_stays c.args.spec.now c.args.self.now c.make_room.new.self c.make_room.ensures.same
    c.requires.indexed

pub returns-clause-indexed : goal.returns-clause-indexed
returns-clause-indexed c = index_stays c.args.spec.now c.args.self.now c.make_room.new.self c.make_room.ensures.same
    c.requires.indexed
