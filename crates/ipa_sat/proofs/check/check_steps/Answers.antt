-- One more step is derived, or one is not.
use Rattle.std.proofs.Common.{sym, ◌∙◌}
use Rattle.std.proofs.lemmas.Bool.{false≢true}
use Rattle.ipa_sat.proofs.Stepping.{ChecksSoFar-none, ChecksSoFar-step, range_known, refuted_not, refuted_all, unsatisfiable_told}
use Rattle.ipa_sat.proofs.check.check_steps.Goals as goal

pub loop-step-init : goal.loop-step-init
loop-step-init c = ChecksSoFar-none c.args.cnf.now c.in_ok-known.known c.in_ok-known.ensures

pub follows-requires : goal.follows-requires
follows-requires c = range_known c.args.cnf.now c.loop-step.known c.args.steps.now c.loop-step.step-index c.step-item.result c.as_slice-clause.result.now c.loop-step.ends
    (rw c.as_slice-step-items.ensures at c.loop-step-test.true) (rw c.as_slice-step-items.ensures at c.step-item.is) c.as_slice-clause.ensures c.loop-step.invariant c.requires

pub returns-then-not-branch-clause-exact : goal.returns-then-not-branch-clause-exact
returns-then-not-branch-clause-exact c = (
  λ h. absurd (false≢true h),
  λ r. absurd (refuted_not c.args.cnf.now c.loop-step.known c.args.steps.now c.loop-step.step-index c.step-item.result c.as_slice-clause.result.now c.loop-step.ends
      (rw c.as_slice-step-items.ensures at c.loop-step-test.true) (rw c.as_slice-step-items.ensures at c.step-item.is) c.as_slice-clause.ensures c.loop-step.invariant
      (λ f. false≢true (sym c.if-not-branch.true ∙ c.in_ok-follows.ensures.1 f)) r),
)

pub add_clause-requires : goal.add_clause-requires
add_clause-requires c = range_known c.args.cnf.now c.loop-step.known c.args.steps.now c.loop-step.step-index c.step-item.result c.as_slice-clause.result.now c.loop-step.ends
    (rw c.as_slice-step-items.ensures at c.loop-step-test.true) (rw c.as_slice-step-items.ensures at c.step-item.is) c.as_slice-clause.ensures c.loop-step.invariant c.requires

pub loop-step-preserved : goal.loop-step-preserved
loop-step-preserved c = ChecksSoFar-step c.args.cnf.now c.loop-step.known c.add_clause.new.self c.args.steps.now c.loop-step.step-index c.step-item.result c.as_slice-clause.result.now c.loop-step.ends c.is_empty-ends.result
    (rw c.as_slice-step-items.ensures at c.loop-step-test.true) (rw c.as_slice-step-items.ensures at c.step-item.is) c.as_slice-clause.ensures c.loop-step.invariant
    (c.in_ok-follows.ensures.0 c.if-not-branch.false) c.in_ok-add_clause.ensures.ok c.is_empty-ends.ensures

pub returns-clause-sound : goal.returns-clause-sound
returns-clause-sound c = unsatisfiable_told c.args.cnf.now c.loop-step.known c.args.steps.now c.loop-step.step-index c.loop-step.ends (rw c.as_slice-step-items.ensures at c.loop-step-test.false) c.loop-step.invariant

pub returns-clause-exact : goal.returns-clause-exact
returns-clause-exact c = refuted_all c.args.cnf.now c.loop-step.known c.args.steps.now c.loop-step.step-index c.loop-step.ends (rw c.as_slice-step-items.ensures at c.loop-step-test.false) c.loop-step.invariant
