use Rattle.std.proofs.Common.{◌<◌, length, arith, sym}
use Rattle.std.proofs.lemmas.Option.{slice_get_within}
use Rattle.ipa_logic.specs.VariableLaws.{variables-past, variable-at}
use Rattle.ipa_logic.specs.ValueLaws.{partial-next}
use Rattle.ipa_touch.specs.Turns.{holds_after}
use Rattle.ipa_touch.proofs.DecidedLemmas.{settled-passes}
use Rattle.ipa_touch.proofs.SearchLemmas.{pass-done, first-done, pass-settled, below-first, below-next, first-below, below-leap, pass-all}
use Rattle.ipa_touch.proofs.search.+first_pinned.Goals as goal

pub returns-then-passes_after : goal.returns-then-passes_after
returns-then-passes_after g t c = pass-done _ _ _ _ _ _ c.requires.partial (variables-past c.args.clause.now.vars c.args.at c.in_default.ensures) (sym c.if-passes_after.ensures)

pub returns-else-passes_after : goal.returns-else-passes_after
returns-else-passes_after g t c = first-done _ _ _ _ _ _ c.requires.partial (variables-past c.args.clause.now.vars c.args.at c.in_default.ensures) (sym c.if-passes_after.ensures)

pub returns-then-is_settled : goal.returns-then-is_settled
returns-then-is_settled g t c = pass-settled _ _ _ _ _ _ (λ v a.
    settled-passes c.args.step.now.spec.now c.args.at v c.args.values a (holds_after c.args.step.now.spec.now c.args.step.now.action c.args.step.now.args.now (g.V.View.facts c.args.step.now.view.now)) c.args.clause.now (sym c.if-is_settled.ensures))

pub loop-element-init : goal.loop-element-init
loop-element-init g t c = below-leap _ _ _ _ _ _ _ _ (below-first _ _ _ _ _ _ _ _ _ _ (variable-at c.args.clause.now.vars c.args.at c.in-Some.variable.now c.in-Some.ensures) c.size_of.ensures c.elements_to_try-elements.ensures.all) c.leap-element.ensures

pub bounds-next-at : goal.bounds-next-at
bounds-next-at g t c = let inside : c.args.at < length c.args.clause.now.vars = slice_get_within _ _ _ (sym c.in-Some.ensures) in omega (arith, c.requires.short)

pub first_pinned-requires : goal.first_pinned-requires
first_pinned-requires g t c κs within =
    let inside : c.args.at < length c.args.clause.now.vars = slice_get_within _ _ _ (sym c.in-Some.ensures) in
    let small = c.elements_to_try-elements.ensures.within in
    (omega arith, (within, (c.requires.short, partial-next _ _ _ _ _ _ c.requires.partial (omega (arith, c.requires.short)) (variable-at c.args.clause.now.vars c.args.at c.in-Some.variable.now c.in-Some.ensures) (omega (arith, c.size_of.ensures)))))

pub returns-in-Some-first_pinned : goal.returns-in-Some-first_pinned
returns-in-Some-first_pinned g t c =
    let inside : c.args.at < length c.args.clause.now.vars = slice_get_within _ _ _ (sym c.in-Some.ensures) in
    first-below _ _ _ _ _ _ _ (omega (arith, c.requires.short, c.requires.partial.width)) c.loop-element.invariant _ c.in-Some-first_pinned.ensures

pub loop-element-preserved : goal.loop-element-preserved
loop-element-preserved g t c =
    let inside : c.args.at < length c.args.clause.now.vars = slice_get_within _ _ _ (sym c.in-Some.ensures) in
    below-leap _ _ _ _ _ _ _ _ (below-next _ _ _ _ _ _ _ (omega (arith, c.requires.short, c.requires.partial.width)) c.loop-element.invariant c.in_default-first_pinned.ensures) c.leap-element-in-loop-element.ensures

pub returns : goal.returns
returns g t c = pass-all _ _ _ _ _ _ _ _ _ _ _ (variable-at c.args.clause.now.vars c.args.at c.in-Some.variable.now c.in-Some.ensures) c.size_of.ensures c.elements_to_try-elements.ensures.all c.loop-element-test.false c.loop-element.invariant
