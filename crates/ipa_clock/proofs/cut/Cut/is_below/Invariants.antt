use Rattle.std.proofs.Common.{ℕ, ◌<◌, ◌≤◌, get_or}
use Rattle.ipa_clock.proofs.cut.Cut.is_below.Given as goal

abbrev pub invariant-loop-origin : goal.invariant-loop-origin
invariant-loop-origin l = (k : ℕ) → k < l.origin → get_or l.self.counts k 0 ≤ get_or l.other.counts k 0
