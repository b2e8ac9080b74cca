use Rattle.std.proofs.Common.{◌≡◌, ◌++◌, take}
use Rattle.std.specs.List.{flat_map}
use Rattle.ipa_repair.specs.Candidates.{candidate_if}
use Rattle.ipa_repair.proofs.listing.push_effect_candidates.Given as goal

abbrev pub invariant-loop-effect : goal.invariant-loop-effect
invariant-loop-effect l = l.found ≡ l.initial.found ++ flat_map (candidate_if l.number l.operation) (take l.effect-index l.effect-items)
