use Rattle.std.proofs.Common.{◌≡◌, ◌++◌, take}
use Rattle.std.specs.List.{flat_map}
use Rattle.ipa_repair.specs.Candidates.{effects_with_one}
use Rattle.ipa_repair.proofs.choices.push_effects_with.Given as goal

abbrev pub invariant-loop-first : goal.invariant-loop-first
invariant-loop-first l = l.effects ≡ l.initial.effects ++ flat_map (effects_with_one l.number l.add l.seconds l.thirds) (take l.first-index l.firsts)
