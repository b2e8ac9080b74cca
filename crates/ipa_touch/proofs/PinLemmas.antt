-- Pins.
use Rattle.std.proofs.Common.{◌≡◌, ℕ, Bool, true, false, ◌&&◌, ◌==◌, List, [], ◌∷◌, Option, None, Some, get_or, suc, zero, refl, sym, ap, subst, ◌∙◌, unwrap_or, inl, inr}
use Rattle.std.proofs.lemmas.Bool.{cases_Bool, and_parts, and_from, and_right, eq-eqb, false≢true}
use Rattle.std.specs.Option.{option_map_or, MatchOption}
use Rattle.std.specs.Ordering.{is_eq}
use Rattle.ipa_spec.specs.declared.specification.Specification.{Specification}
use Rattle.ipa_spec.specs.declared.operations.Effect.{Effect}
use Rattle.ipa_logic.specs.Facts.{fact_cmp}
use Rattle.ipa_logic.specs.FactLaws.{same_fact}
use Rattle.ipa_logic.specs.Touches.{stands_for, arg_at, fact_given, matches_at, matches, gives}
use Rattle.ipa_logic.specs.declared.facts.Fact.{Fact}
use Rattle.ipa_touch.specs.Searches.{Fits}

-- all values fit where nothing is pinned
pub fits-none : (v : List ℕ) → Fits (None ∷ None ∷ None ∷ None ∷ []) v
fits-none v = record { at = λ k x e. absurd (none k x e) }
  where
    none : (k x : ℕ) → get_or (None ∷ None ∷ None ∷ None ∷ []) k None ≡ Some x → ⊥
    none zero x e = cc
    none (suc zero) x e = cc
    none (suc (suc zero)) x e = cc
    none (suc (suc (suc zero))) x e = cc
    none (suc (suc (suc (suc k)))) x e = cc

module _ (s : Specification) (args : List ℕ) (e : Effect) where
  -- an add matches the fact that it gives
  given-matches : matches s args e (fact_given s args e) ≡ true
  given-matches =
      and_from _ _ (and_from _ _ (and_from _ _ (eq-eqb e.predicate e.predicate refl) (own (stands_for s args (arg_at e 0)))) (own (stands_for s args (arg_at e 1))))
      (own (stands_for s args (arg_at e 2)))
    where
      own : (o : Option ℕ) → option_map_or (λ x. x == unwrap_or o 0) o true ≡ true
      own None = refl
      own (Some x) = eq-eqb x x refl

  pub gives-matches : (f : Fact) → gives s args f e ≡ true → matches s args e f ≡ true
  gives-matches f h = subst (λ (g : Fact). matches s args e g ≡ true)
      (same_fact (fact_given s args e) f (and_parts e.add (is_eq (fact_cmp (fact_given s args e) f)) h).1) given-matches

  -- an effect that does not match a fact in a place does not match it
  module _ (f : Fact) where
    pub matches-not_first : matches_at s args e f 0 ≡ false → matches s args e f ≡ false
    matches-not_first h = ap (λ (b : Bool). (((e.predicate == f.predicate) && b) && matches_at s args e f 1) && matches_at s args e f 2) h
        ∙ ap (λ (b : Bool). (b && matches_at s args e f 1) && matches_at s args e f 2) (and_right (e.predicate == f.predicate) false refl)

    pub matches-not_second : matches_at s args e f 1 ≡ false → matches s args e f ≡ false
    matches-not_second h = ap (λ (b : Bool). b && matches_at s args e f 2) (and_right ((e.predicate == f.predicate) && matches_at s args e f 0) _ h)

    pub matches-not_third : matches_at s args e f 2 ≡ false → matches s args e f ≡ false
    matches-not_third h = and_right (((e.predicate == f.predicate) && matches_at s args e f 0) && matches_at s args e f 1) _ h

-- pins of the values that pass a test serve for those that pass a stronger one
pub pins-weaker : (p q : List ℕ → Bool) (found : Option (List (Option ℕ))) → ((v : List ℕ) → q v ≡ true → p v ≡ true)
    → MatchOption found ((v : List ℕ) → p v ≡ false) (λ pins. (v : List ℕ) → p v ≡ true → Fits pins v)
    → MatchOption found ((v : List ℕ) → q v ≡ false) (λ pins. (v : List ℕ) → q v ≡ true → Fits pins v)
pins-weaker p q None stronger h = λ v. elim (cases_Bool (q v)) [ inl passes ↦ absurd (false≢true (sym (h v) ∙ stronger v passes)) | inr fails ↦ fails ]
pins-weaker p q (Some pins) stronger h = λ v passes. h v (stronger v passes)

-- pins by one test and then by another
pub pins-both : (p q : List ℕ → Bool) (first : List (Option ℕ)) (found : Option (List (Option ℕ))) → ((v : List ℕ) → p v ≡ true → Fits first v)
    → MatchOption found ((v : List ℕ) → q v ≡ false) (λ pins. (v : List ℕ) → Fits first v → q v ≡ true → Fits pins v)
    → MatchOption found ((v : List ℕ) → (p v && q v) ≡ false) (λ pins. (v : List ℕ) → (p v && q v) ≡ true → Fits pins v)
pins-both p q first None fits h = λ v. and_right (p v) (q v) (h v)
pins-both p q first (Some pins) fits h = λ v both. let parts = and_parts (p v) (q v) both in h v (fits v parts.0) parts.1
