use Rattle.std.proofs.Common.{◌≡◌, ◌++◌, take}
use Rattle.std.specs.List.{flat_map}
use Rattle.ipa_repair.specs.Candidates.{effect_candidates}
use Rattle.ipa_repair.proofs.listing.push_candidates_for_all.Given as goal

abbrev pub invariant-loop-literal : goal.invariant-loop-literal
invariant-loop-literal l = l.found ≡ l.initial.found ++ flat_map (effect_candidates l.spec l.number l.operation) (take l.literal-index l.literals)
