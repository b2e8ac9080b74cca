use Rattle.std.proofs.Common.{ℕ, ◌<◌}
use Rattle.ipa_gate.specs.Cuts.{LastBelow}
use Rattle.ipa_audit.proofs.cuts.are_lasts_below.Given as goal

abbrev pub invariant-loop-origin : goal.invariant-loop-origin
invariant-loop-origin l = (o : ℕ) → o < l.origin → LastBelow l.index.entries l.cut o
