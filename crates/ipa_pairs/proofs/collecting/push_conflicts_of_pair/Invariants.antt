use Rattle.ipa_pairs.specs.Collecting.{ExtendsConflicts}
use Rattle.ipa_pairs.proofs.OrderLemmas.{IsOfPairBelow}
use Rattle.ipa_pairs.specs.Grounded.{AreOf}
use Rattle.ipa_pairs.proofs.collecting.push_conflicts_of_pair.Given as goal

-- the list has grown by the examples of the clauses so far
abbrev pub invariant-loop-number : goal.invariant-loop-number
invariant-loop-number l = ExtendsConflicts l.spec (IsOfPairBelow l.left l.right l.number) l.initial.conflicts l.conflicts × AreOf l.spec l.grounded
