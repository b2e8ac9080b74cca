use Rattle.ipa_pairs.specs.Collecting.{ExtendsDrops}
use Rattle.ipa_pairs.proofs.OrderLemmas.{IsDropBelow}
use Rattle.ipa_pairs.specs.Grounded.{AreOf}
use Rattle.ipa_pairs.proofs.collecting.push_unsafe_drops.Given as goal

-- the list has grown by the examples of the bounds so far
abbrev pub invariant-loop-bound : goal.invariant-loop-bound
invariant-loop-bound l = ExtendsDrops l.spec (IsDropBelow l.spec l.bound) l.initial.unsafe_drops l.unsafe_drops × AreOf l.spec l.grounded
