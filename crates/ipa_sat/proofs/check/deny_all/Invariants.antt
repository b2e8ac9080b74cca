-- The literals so far were denied.
use Rattle.std.proofs.Common.{take}
use Rattle.ipa_sat.specs.Checking.{Denies}
use Rattle.ipa_sat.proofs.check.deny_all.Given as goal

abbrev pub invariant-loop-lit : goal.invariant-loop-lit
invariant-loop-lit l = Denies l.initial.trail l.trail (take l.lit-index l.clause)
