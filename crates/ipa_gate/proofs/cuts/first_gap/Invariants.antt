use Rattle.std.proofs.Common.{ℕ, ◌<◌, ◌≤◌, get_or}
use Rattle.ipa_gate.proofs.cuts.first_gap.Given as goal

abbrev pub invariant-loop-origin : goal.invariant-loop-origin
invariant-loop-origin l = (k : ℕ) → k < l.origin → get_or l.cut.counts k 0 ≤ get_or l.clock.counts k 0
