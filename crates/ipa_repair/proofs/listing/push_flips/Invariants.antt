use Rattle.std.proofs.Common.{◌≡◌, ◌++◌, take}
use Rattle.std.specs.List.{flat_map}
use Rattle.ipa_repair.specs.Candidates.{flip_of}
use Rattle.ipa_repair.proofs.listing.push_flips.Given as goal

abbrev pub invariant-loop-literal : goal.invariant-loop-literal
invariant-loop-literal l = l.found ≡ l.initial.found ++ flat_map flip_of (take l.literal-index l.literals)
