use Rattle.std.proofs.Common.{◌≡◌, ℕ, ◌<◌, ◌≤◌, length, None, get_or}
use Rattle.ipa_clock.specs.Cut.{count_of}
use Rattle.ipa_sets.specs.ByOrigins.{numbers_at}
use Rattle.ipa_sets.specs.Numbers.{greater, greatest_upto}
use Rattle.ipa_sets.proofs.by_origin.ByOrigin.raise.Given as goal

abbrev pub invariant-loop-origin : goal.invariant-loop-origin
invariant-loop-origin l = record {
  sized : length l.found ≡ 16;
  below : (o : ℕ) → o < l.origin → get_or l.found o None
      ≡ greater (get_or l.initial.found o None) (greatest_upto (count_of l.cut o) (numbers_at l.self o));
  above : (o : ℕ) → l.origin ≤ o → get_or l.found o None ≡ get_or l.initial.found o None;
}
