use Rattle.std.proofs.Common.{◌≡◌, ◌++◌, take}
use Rattle.std.specs.List.{flat_map}
use Rattle.ipa_repair.specs.Candidates.{effects_with_two}
use Rattle.ipa_repair.proofs.choices.push_effects_with_one.Given as goal

abbrev pub invariant-loop-second : goal.invariant-loop-second
invariant-loop-second l = l.effects ≡ l.initial.effects ++ flat_map (effects_with_two l.number l.add l.thirds l.first) (take l.second-index l.seconds)
