use Rattle.std.proofs.Common.{ℕ, ◌<◌}
use Rattle.ipa_audit.specs.Finals.{AreIn}
use Rattle.ipa_audit.proofs.finals.are_in_up_to.Given as goal

abbrev pub invariant-loop-predicate : goal.invariant-loop-predicate
invariant-loop-predicate g l = (p : ℕ) → p < l.predicate → AreIn p (g.V.View.facts l.view) l.state
