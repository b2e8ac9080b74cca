use Rattle.std.proofs.Common.{◌≡◌, ◌++◌, take}
use Rattle.ipa_repair.proofs.listing.push_all.Given as goal

abbrev pub invariant-loop-literal : goal.invariant-loop-literal
invariant-loop-literal l = l.literals ≡ l.initial.literals ++ take l.literal-index l.added
