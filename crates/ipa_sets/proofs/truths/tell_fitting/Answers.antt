use Rattle.std.proofs.Common.{◌≡◌, ◌∙◌, ℕ, [], true, refl, arith, sym, subst, inl, inr}
use Rattle.std.specs.Prelude.{slice_index_or}
use Rattle.std.proofs.lemmas.Bool.{cases_eq}
use Rattle.ipa_sets.specs.Fitting.{fits, IsTold}
use Rattle.ipa_sets.proofs.FittingLemmas.{fits-from, fits-to}
use Rattle.ipa_sets.proofs.truths.tell_fitting.Goals as goal

pub loop-place-init : goal.loop-place-init
loop-place-init g c = record {
  long = refl;
  kept = λ i t. t;
  told = λ i d less fit.
      let low = fits-from c.args.pattern.now c.args.facts.now i d fit c.place_before-place.result c.place_before-place.ensures in
      absurd {A = IsTold (g.T.Test.passes c.args.test.now) c.args.facts.now c.args.truths.now i} (omega (arith, less, low));
}

pub returns-then-not-is_within : goal.returns-then-not-is_within
returns-then-not-is_within g c = record {
  long = c.loop-place.invariant.long;
  kept = c.loop-place.invariant.kept;
  told = λ i d within fit. c.loop-place.invariant.told i d (fits-to c.args.pattern.now c.args.facts.now i d fit c.loop-place.place
      (record { predicate = 0; args = [] }) c.requires.rising within (sym c.is_within.ensures ∙ c.if-not-is_within.true)) fit;
}

pub loop-place-preserved : goal.loop-place-preserved
loop-place-preserved g c = record {
  long = c.tell_at.ensures.long ∙ c.loop-place.invariant.long;
  kept = λ i t. c.tell_at.ensures.kept i (c.loop-place.invariant.kept i t);
  told = λ i d less fit. elim (cases_eq i c.loop-place.place) [
    | inl same ↦ subst (λ (k : ℕ). IsTold (g.T.Test.passes c.args.test.now) c.args.facts.now c.tell_at.new.truths k) (sym same)
        (c.tell_at.ensures.told d (subst (λ (k : ℕ). fits c.args.pattern.now (slice_index_or c.args.facts.now k d) ≡ true) same fit))
    | inr other ↦ c.tell_at.ensures.kept i (c.loop-place.invariant.told i d (omega (arith, less, other)) fit)
  ];
}

pub returns : goal.returns
returns g c = record {
  long = c.loop-place.invariant.long;
  kept = c.loop-place.invariant.kept;
  told = λ i d within fit. let past = c.loop-place-test.false in
      c.loop-place.invariant.told i d (omega (arith, within, past)) fit;
}
