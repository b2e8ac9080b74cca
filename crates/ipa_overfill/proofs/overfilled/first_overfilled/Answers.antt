use Rattle.std.proofs.Common.{arith}
use Rattle.ipa_overfill.proofs.OverfillLemmas.{below_none, below_next, below_all, first_from}
use Rattle.ipa_overfill.proofs.overfilled.first_overfilled.Goals as goal

pub loop-number-init : goal.loop-number-init
loop-number-init g c = below_none _ _ _ _

pub loop-number-preserved : goal.loop-number-preserved
loop-number-preserved g c = below_next _ _ _ _ _ c.loop-number.invariant c.if-overfills_at.ensures

pub returns-then-overfills_at : goal.returns-then-overfills_at
returns-then-overfills_at g c = first_from _ _ _ _ _ c.loop-number.invariant c.if-overfills_at.ensures

pub returns : goal.returns
returns g c = below_all _ _ _ _ _ (omega (arith, c.bound_count-number-end.ensures)) c.loop-number.invariant
