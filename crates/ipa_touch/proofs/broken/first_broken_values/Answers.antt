use Rattle.std.proofs.Common.{take}
use Rattle.std.proofs.lemmas.List.Folds.{list_any_more}
use Rattle.ipa_logic.specs.Facts.{has}
use Rattle.ipa_touch.specs.Turns.{is_turned, is_touched}
use Rattle.ipa_touch.proofs.BestLemmas.{improves-both}
use Rattle.ipa_touch.proofs.ClauseLemmas.{values-broken}
use Rattle.ipa_touch.proofs.broken.first_broken_values.Goals as goal

pub loop-literal-preserved : goal.loop-literal-preserved
loop-literal-preserved g c =
    let spec = c.args.step.now.spec.now in
    let action = c.args.step.now.action in
    let args = c.args.step.now.args.now in
    let items = c.as_slice-literal-items.result.now in
    improves-both _ _ _ (λ v. is_touched spec action args v (take c.loop-literal.literal-index items)) _ _ _ _ _
    c.loop-literal.invariant c.better_by_literal-best.ensures
    (λ v. list_any_more (is_turned spec action args v) items c.loop-literal.literal-index _ c.loop-literal-test.true)

pub returns : goal.returns
returns g c =
    values-broken c.args.step.now.spec.now c.args.step.now.action c.args.step.now.args.now (has (g.V.View.facts c.args.step.now.view.now))
    c.args.step.now.universe.now.sizes c.args.clause.now c.as_slice-literal-items.result.now c.loop-literal.literal-index c.loop-literal.best c.as_slice-literal-items.ensures c.loop-literal-test.false c.requires.kept c.loop-literal.invariant
