use Rattle.std.proofs.Common.{◌≡◌, length, take}
use Rattle.ipa_ground.proofs.cursor.sizes_of.Given as goal

abbrev pub invariant-loop-sort : goal.invariant-loop-sort
invariant-loop-sort l = record { front : take l.sort l.sizes ≡ take l.sort l.constants; width : length l.sizes ≡ 8 }
