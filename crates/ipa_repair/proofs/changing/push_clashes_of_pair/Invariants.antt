use Rattle.std.proofs.Common.{[], ◌∷◌, ◌≡◌}
use Rattle.std.specs.List.{flat_map}
use Rattle.ipa_ground.specs.Enumeration.{numbers}
use Rattle.ipa_repair.specs.Chosen.{Gains}
use Rattle.ipa_repair.specs.Showing.{IsClash, clash}
use Rattle.ipa_repair.proofs.changing.push_clashes_of_pair.Given as goal

abbrev pub invariant-loop-number : goal.invariant-loop-number
invariant-loop-number l =
    Gains (IsClash l.next) (flat_map (λ k. clash l.left l.right k ∷ []) (numbers l.number)) l.initial.found l.found × (l.search ≡ l.initial.search)
