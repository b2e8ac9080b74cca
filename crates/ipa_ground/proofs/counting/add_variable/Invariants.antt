use Rattle.ipa_ground.proofs.CountLemmas.{AreNextBelow}
use Rattle.ipa_ground.proofs.counting.add_variable.Given as goal

-- the first places are those for one variable more
abbrev pub invariant-loop-used : goal.invariant-loop-used
invariant-loop-used l = AreNextBelow l.row l.count l.used
