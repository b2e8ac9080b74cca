use Rattle.std.proofs.Common.{◌≡◌, []}
use Rattle.std.specs.List.{flat_map}
use Rattle.ipa_ground.specs.Enumeration.{numbers}
use Rattle.ipa_repair.specs.Chosen.{Gains}
use Rattle.ipa_repair.specs.Greedy.{action_at}
use Rattle.ipa_repair.specs.Showing.{IsClash, clashes_of_left}
use Rattle.ipa_repair.proofs.changing.all_clashes_after.Given as goal

abbrev pub invariant-loop-place : goal.invariant-loop-place
invariant-loop-place l =
    Gains (IsClash l.next) (flat_map (λ i. clashes_of_left l.next (action_at l.next i)) (numbers l.place)) [] l.found
    × (l.search ≡ l.initial.search)
