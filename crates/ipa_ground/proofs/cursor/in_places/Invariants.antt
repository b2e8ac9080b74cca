use Rattle.std.proofs.Common.{◌≡◌, ℕ, ◌<◌, length, take}
use Rattle.std.specs.List.{slice_index}
use Rattle.ipa_ground.proofs.cursor.in_places.Given as goal

abbrev pub invariant-loop-place : goal.invariant-loop-place
invariant-loop-place l = record {
  front : take l.place l.places ≡ take l.place l.sorts;
  width : length l.places ≡ 12;
  below : (j : ℕ) → slice_index l.places j < 8;
}
