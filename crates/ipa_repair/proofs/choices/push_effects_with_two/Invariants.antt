use Rattle.std.proofs.Common.{◌≡◌, ◌++◌, ◌∷◌, [], take}
use Rattle.std.specs.List.{flat_map}
use Rattle.ipa_repair.specs.Candidates.{effect_of}
use Rattle.ipa_repair.proofs.choices.push_effects_with_two.Given as goal

abbrev pub invariant-loop-third : goal.invariant-loop-third
invariant-loop-third l = l.effects ≡ l.initial.effects ++ flat_map (λ z. effect_of l.number l.add l.first l.second z ∷ []) (take l.third-index l.thirds)
