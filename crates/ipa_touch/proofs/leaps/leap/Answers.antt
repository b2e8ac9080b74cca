use Rattle.std.proofs.Common.{take, ap, ◌∙◌, sym}
use Rattle.std.proofs.lemmas.List.{take_all}
use Rattle.std.proofs.lemmas.List.Folds.{list_any_more}
use Rattle.std.specs.List.{list_any}
use Rattle.ipa_logic.specs.Truth.{literal_true}
use Rattle.ipa_touch.specs.Turns.{holds_after}
use Rattle.ipa_touch.proofs.LeapLemmas.{leaps-none, leaps-both, leaps-same}
use Rattle.ipa_touch.proofs.leaps.leap.Goals as goal

pub loop-literal-init : goal.loop-literal-init
loop-literal-init g c = leaps-none c.args.at c.args.values.now _ c.args.from

pub loop-literal-preserved : goal.loop-literal-preserved
loop-literal-preserved g c =
    let step = c.args.step.now in
    let truth = literal_true step.spec.now (holds_after step.spec.now step.action step.args.now (g.V.View.facts step.view.now)) in
    let items = c.as_slice-literal-items.result.now in
    leaps-both c.args.at c.args.values.now (λ v. list_any (truth v) (take c.loop-literal.literal-index items)) _ _ _ _ _
    c.loop-literal.invariant c.leap_by_literal-next.ensures
    (λ v. list_any_more (truth v) items c.loop-literal.literal-index _ c.loop-literal-test.true)

pub returns : goal.returns
returns g c =
    let step = c.args.step.now in
    let truth = literal_true step.spec.now (holds_after step.spec.now step.action step.args.now (g.V.View.facts step.view.now)) in
    let items = c.as_slice-literal-items.result.now in
    leaps-same c.args.at c.args.values.now (λ v. list_any (truth v) (take c.loop-literal.literal-index items)) _ _ _
    (λ v. ap (list_any (truth v)) (sym (take_all c.loop-literal.literal-index items c.loop-literal-test.false ∙ c.as_slice-literal-items.ensures)))
    c.loop-literal.invariant
