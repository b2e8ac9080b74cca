use Rattle.std.proofs.Common.{◌≡◌, ℕ, ◌<◌, length, min, get_or}
use Rattle.ipa_sets.specs.ByOrigins.{numbers_at}
use Rattle.ipa_sets.proofs.index.Index.clock.Given as goal

abbrev pub invariant-loop-origin : goal.invariant-loop-origin
invariant-loop-origin l = record {
  sized : length l.counts ≡ 16;
  below : (o : ℕ) → o < l.origin → get_or l.counts o 0 ≡ min (length (numbers_at l.self.places o)) 4294967295;
}
