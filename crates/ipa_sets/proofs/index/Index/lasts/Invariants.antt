use Rattle.std.proofs.Common.{◌≡◌, ℕ, ◌<◌, length, None, get_or}
use Rattle.ipa_sets.specs.AtCuts.{last_at}
use Rattle.ipa_sets.proofs.index.Index.lasts.Given as goal

abbrev pub invariant-loop-origin : goal.invariant-loop-origin
invariant-loop-origin l = record {
  sized : length l.lasts ≡ 16;
  below : (o : ℕ) → o < l.origin → get_or l.lasts o None ≡ last_at l.self l.cut l.fact o;
}
