use Rattle.ipa_pairs.specs.Collecting.{ExtendsConflicts}
use Rattle.ipa_pairs.proofs.OrderLemmas.{IsBelow}
use Rattle.ipa_pairs.specs.Grounded.{AreOf}
use Rattle.ipa_pairs.proofs.collecting.push_conflicts.Given as goal

-- the list has grown by the examples of the left actions so far
abbrev pub invariant-loop-place : goal.invariant-loop-place
invariant-loop-place l = ExtendsConflicts l.spec (IsBelow l.spec l.place) l.initial.conflicts l.conflicts × AreOf l.spec l.grounded
