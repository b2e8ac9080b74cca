use Rattle.std.proofs.Common.{arith}
use Rattle.ipa_sets.proofs.IndexLemmas.{some_member}
use Rattle.ipa_sets.proofs.index.Index.rules.Goals as goal

pub returns-else-len-eq0 : goal.returns-else-len-eq0
returns-else-len-eq0 c p =
    let some = some_member c.args.self.now.entries (omega arith) in
    let is = c.requires in
    is.rules some.0 p some.1
