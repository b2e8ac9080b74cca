use Rattle.std.proofs.Common.{◌≡◌, Bool, sym, subst}
use Rattle.ipa_logic.specs.Facts.{has}
use Rattle.ipa_logic.specs.Truth.{Keeps, IsFirstBroken}
use Rattle.ipa_logic.specs.Touches.{plain_application}
use Rattle.ipa_logic.specs.declared.facts.Fact.{Fact}
use Rattle.ipa_gate.proofs.verdicts.reason_besides.Goals as goal

pub returns-in-Some-first_broken : goal.returns-in-Some-first_broken
returns-in-Some-first_broken g c after is = record {
  within_before = c.requires.within;
  needs = c.in_default.ensures;
  first =
      let b = c.in-Some-first_broken.broken in
      let same : has after ≡ plain_application c.args.spec.now c.args.tx.now.action c.args.tx.now.args
      (has (g.V.View.facts c.args.view.now)) = λ i f. is.facts f i in
      subst (λ (t : Fact → Bool). IsFirstBroken c.args.spec.now c.args.universe.now.sizes t b.clause b.values) (sym same)
      c.in-Some-first_broken.ensures;
}

pub returns-in-Some-first_over_after : goal.returns-in-Some-first_over_after
returns-in-Some-first_over_after g c after is = record {
  within_before = c.requires.within;
  needs = c.in_default.ensures;
  keeps =
      let same : has after ≡ plain_application c.args.spec.now c.args.tx.now.action c.args.tx.now.args
      (has (g.V.View.facts c.args.view.now)) = λ i f. is.facts f i in
      subst (λ (t : Fact → Bool). Keeps c.args.spec.now c.args.universe.now.sizes t) (sym same)
      c.in_default-first_broken.ensures;
  first = c.in-Some-first_over_after.ensures after is;
}

pub returns : goal.returns
returns g c after is = record {
  within_before = c.requires.within;
  needs = c.in_default.ensures;
  keeps =
      let same : has after ≡ plain_application c.args.spec.now c.args.tx.now.action c.args.tx.now.args
      (has (g.V.View.facts c.args.view.now)) = λ i f. is.facts f i in
      subst (λ (t : Fact → Bool). Keeps c.args.spec.now c.args.universe.now.sizes t) (sym same)
      c.in_default-first_broken.ensures;
  within_after = c.in_default-first_over_after.ensures after is;
}
