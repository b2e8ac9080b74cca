use Rattle.std.proofs.Common.{◌≡◌}
use Rattle.std.specs.List.{flat_map}
use Rattle.ipa_ground.specs.Enumeration.{numbers}
use Rattle.ipa_repair.specs.Chosen.{Gains}
use Rattle.ipa_repair.specs.Greedy.{action_at}
use Rattle.ipa_repair.specs.Showing.{IsClash, clashes_of_pair}
use Rattle.ipa_repair.proofs.changing.push_clashes_of_left.Given as goal

abbrev pub invariant-loop-place : goal.invariant-loop-place
invariant-loop-place l =
    Gains (IsClash l.next) (flat_map (λ j. clashes_of_pair l.next l.left (action_at l.next j)) (numbers l.place)) l.initial.found l.found
    × (l.search ≡ l.initial.search)
