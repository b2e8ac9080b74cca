use Rattle.std.proofs.Common.{◌≡◌, List, Some, sym, ◌∙◌, ap, slice_get}
use Rattle.ipa_spec.specs.declared.bounds.Bound.{Bound}
use Rattle.ipa_spec.specs.declared.operations.Effect.{Effect}
use Rattle.ipa_logic.specs.Acceptance.{drop_fact}
use Rattle.ipa_logic.specs.Touches.{fact_given}
use Rattle.ipa_gate.proofs.DropLemmas.{due_as, due_from}
use Rattle.ipa_gate.proofs.verdicts.is_due.Goals as goal

pub returns-in-Some : goal.returns-in-Some
returns-in-Some g c =
    let s = c.args.spec.now in
    let facts = g.V.View.facts c.args.view.now in
    let ages = g.V.AgedView.ages c.args.view.now in
    let declared : slice_get s.bounds c.args.number ≡ Some c.in-Some.bound.now = sym (c.in-Some.ensures ∙ ap (λ (bs : List Bound). slice_get bs c.args.number) c.bounds.ensures) in
    let same : c.fact_given.result ≡ drop_fact s c.in-Some.bound.now c.args.args.now = c.fact_given.ensures ∙ ap (λ (e : Effect). fact_given s c.args.args.now e) c.drop_effect.ensures in (
      λ h. due_as s facts ages c.args.number c.args.args.now c.in-Some.bound.now c.fact_given.result declared same
          (c.is_dropped.ensures.0 h),
      λ is. c.is_dropped.ensures.1
          (due_from s facts ages c.args.number c.args.args.now c.in-Some.bound.now c.fact_given.result declared same is),
    )
