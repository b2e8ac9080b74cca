-- A step is taken back: of no concern, refuted, or put in by its reason.
use Rattle.std.proofs.Common.{◌∙◌, List, sym, ap}
use Rattle.ipa_sat.specs.declared.cnf.Lit.{Lit}
use Rattle.ipa_sat.specs.Refutation.{has}
use Rattle.ipa_sat.proofs.Jumping.{IsLearned-uip}
use Rattle.ipa_sat.proofs.Explained.{Explains-kept, Explains-resolved, IsLearned-decided, no_literal}
use Rattle.ipa_sat.proofs.explain.explain.Goals as goal

pub returns-then-step-clause-learned : goal.returns-then-step-clause-learned
returns-then-step-clause-learned c =
    IsLearned-decided c.args.cnf.now.clauses c.args.trail.now c.steps.trail c.pop.new.self c.in-Some.step _ c.steps.invariant
    c.opposite-denied.ensures c.in-Some.ensures.vars c.in-Some.ensures.steps c.in-Some.ensures.new c.in-Some.ensures.all c.if-step.true

pub steps-preserved-then-contains : goal.steps-preserved-then-contains
steps-preserved-then-contains c =
    Explains-resolved c.args.cnf.now.clauses c.args.trail.now c.steps.trail c.pop.new.self c.in-Some.step c.steps.clause.items c.in-Some-clause.reason.now _ c.steps.invariant
    c.in-Some.ensures.vars c.in-Some.ensures.steps c.in-Some.ensures.new c.requires.reasons c.if-step.false (sym c.in-Some-clause.ensures.value)
    (rw (← c.as_slice-then-contains-2.ensures.value) c.in_ok-clause.ensures)

pub steps-preserved : goal.steps-preserved
steps-preserved c =
    Explains-kept c.args.cnf.now.clauses c.args.trail.now c.steps.trail c.pop.new.self c.in-Some.step c.steps.clause.items c.steps.invariant
    c.in-Some.ensures.vars c.in-Some.ensures.steps c.in-Some.ensures.new
    (ap (has c.steps.clause.items) (sym c.opposite-denied.ensures) ∙ ap (λ (u : List Lit). has u c.opposite-denied.result) (sym c.as_slice.ensures.value) ∙ sym c.contains.ensures ∙ c.if-contains.false)

pub returns-clause-refuted : goal.returns-clause-refuted
returns-clause-refuted c =
    let empty = no_literal c.steps.clause.items (rw c.in_default.ensures.none at c.steps.invariant.is_broken) in
    rw empty at c.steps.invariant.follows

pub returns-in-Some-last_level-clause-learned : goal.returns-in-Some-last_level-clause-learned
returns-in-Some-last_level-clause-learned c =
    IsLearned-uip c.args.cnf.now.clauses c.args.trail.now c.steps.trail c.pop.new.self c.cut.new.trail c.in-Some.step _ c.in-Some-last_level.place c.steps.invariant
    c.opposite-denied.ensures c.in-Some.ensures.vars c.in-Some.ensures.steps c.in-Some.ensures.new c.in-Some.ensures.all
    (rw c.as_slice-then-contains.ensures.value at c.in-Some-last_level.ensures) c.cut.ensures.vars c.cut.ensures.steps
