-- One more literal was denied, or is the opposite of an earlier one.
use Rattle.std.proofs.Common.{take, refl, false}
use Rattle.std.proofs.lemmas.List.{take_more}
use Rattle.ipa_sat.proofs.Checked.{Clashes-seen}
use Rattle.ipa_sat.proofs.check.deny_all.Goals as goal

pub returns-then-not-branch-clause-clash : goal.returns-then-not-branch-clause-clash
returns-then-not-branch-clause-clash c =
    Clashes-seen c.args.trail.now c.loop-lit.trail c.args.clause.now c.loop-lit.lit-index _ c.loop-lit.invariant c.loop-lit-test.true refl
    (rw c.if-not-branch.true at c.in_ok-deny.ensures.clash)

pub loop-lit-preserved : goal.loop-lit-preserved
loop-lit-preserved c =
    rw (take_more c.args.clause.now c.loop-lit.lit-index (record { var = 0; positive = false }) c.loop-lit-test.true)
    ((rw c.if-not-branch.false at c.in_ok-deny.ensures.denied).more c.args.trail.now (take c.loop-lit.lit-index c.args.clause.now) c.loop-lit.invariant)
