use Rattle.std.proofs.Common.{Bool, ap, ◌∙◌}
use Rattle.ipa_logic.specs.Truth.{literal_true}
use Rattle.ipa_logic.specs.AppliedLaws.{applied-test}
use Rattle.ipa_logic.specs.declared.facts.Fact.{Fact}
use Rattle.ipa_touch.proofs.step.literal_holds_after.Goals as goal

pub returns : goal.returns
returns g c =
    let step = c.args.step.now in
    c.holds_literal.ensures ∙ ap (λ (t : Fact → Bool). literal_true step.spec.now t c.args.values.now c.args.literal.now)
    (applied-test step.spec.now step.action step.args.now (g.V.View.facts step.view.now))
