use Rattle.ipa_pairs.specs.Collecting.{ExtendsDrops}
use Rattle.ipa_pairs.proofs.OrderLemmas.{IsOfBoundBelow}
use Rattle.ipa_pairs.specs.Grounded.{AreOf}
use Rattle.ipa_pairs.proofs.collecting.push_unsafe_drops_of_bound.Given as goal

-- the list has grown by the examples of the clauses so far
abbrev pub invariant-loop-number : goal.invariant-loop-number
invariant-loop-number l = ExtendsDrops l.spec (IsOfBoundBelow l.bound l.number) l.initial.unsafe_drops l.unsafe_drops × AreOf l.spec l.grounded
