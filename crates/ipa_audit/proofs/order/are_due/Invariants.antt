use Rattle.std.proofs.Common.{ℕ, ◌<◌}
use Rattle.ipa_audit.specs.Steps.{IsDueAt}
use Rattle.ipa_audit.proofs.order.are_due.Given as goal

abbrev pub invariant-loop-session : goal.invariant-loop-session
invariant-loop-session l = (i : ℕ) → i < l.session → IsDueAt l.sessions l.counts l.out i
