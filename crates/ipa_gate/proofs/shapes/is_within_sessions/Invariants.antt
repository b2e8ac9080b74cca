use Rattle.std.proofs.Common.{◌≡◌, ℕ, ◌<◌, ◌≤◌, get_or}
use Rattle.ipa_gate.proofs.shapes.is_within_sessions.Given as goal

abbrev pub invariant-loop-origin : goal.invariant-loop-origin
invariant-loop-origin l = (o : ℕ) → o < l.origin → l.sessions ≤ o → get_or l.cut.counts o 0 ≡ 0
