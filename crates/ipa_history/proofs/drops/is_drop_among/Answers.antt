use Rattle.std.proofs.Common.{◌≡◌, List, sym, ◌∙◌, ap, Some, slice_get}
use Rattle.std.proofs.lemmas.Bool.{eqb-true, false≢true}
use Rattle.ipa_spec.specs.declared.bounds.Bound.{Bound}
use Rattle.ipa_logic.specs.Acceptance.{drop_fact}
use Rattle.ipa_logic.specs.Touches.{fact_given}
use Rattle.ipa_logic.specs.declared.facts.Fact.{Fact}
use Rattle.ipa_history.specs.Ages.{age_of}
use Rattle.ipa_history.specs.PlainDrops.{is_due}
use Rattle.ipa_history.proofs.DropLemmas.{drop_from, drop_to, drop_first, none_due}
use Rattle.ipa_history.proofs.drops.is_drop_among.Goals as goal

pub returns-then-first-number : goal.returns-then-first-number
returns-then-first-number c =
    let s = c.args.spec.now in
    let members = c.args.members.now in
    let t = c.args.tx.now in
    let facts = c.args.facts.now in
    let b = c.in-Some.bound.now in
    let declared : slice_get s.bounds c.args.number ≡ Some b =
    sym (c.in-Some.ensures ∙ ap (λ (xs : List Bound). slice_get xs c.args.number) c.bounds.ensures) in
    let fact : c.fact_given-fact.result ≡ drop_fact s b t.args =
    c.fact_given-fact.ensures ∙ ap (fact_given s t.args) c.drop_effect.ensures in
    let test : c.is_due.result ≡ is_due b (age_of s members) facts (drop_fact s b t.args) =
    c.is_due.ensures ∙ ap (λ (f : Fact). is_due b (age_of s members) facts f) fact in (
      λ h. drop_from s members t facts c.args.number b declared c.in-Some-first_over_among.first c.in-Some-first_over_among.ensures
          c.if-first-number.true (sym test ∙ h),
      λ is. test ∙ drop_to s members t facts c.args.number b declared is,
    )

pub returns-else-first-number : goal.returns-else-first-number
returns-else-first-number c =
    let s = c.args.spec.now in
    let b = c.in-Some.bound.now in
    let declared : slice_get s.bounds c.args.number ≡ Some b =
    sym (c.in-Some.ensures ∙ ap (λ (xs : List Bound). slice_get xs c.args.number) c.bounds.ensures) in (
      λ h. absurd (c.if-first-number.false (eqb-true c.in-Some-first_over_among.first c.args.number h)),
      λ is. absurd (c.if-first-number.false (drop_first s c.args.members.now c.args.tx.now c.args.facts.now c.args.number b declared
          c.in-Some-first_over_among.first c.in-Some-first_over_among.ensures is)),
    )

pub returns-in-None : goal.returns-in-None
returns-in-None c = (
  λ h. absurd (false≢true h),
  λ is. absurd (none_due c.args.spec.now c.args.members.now c.args.tx.now c.args.facts.now c.args.number c.in-None.ensures is),
)
