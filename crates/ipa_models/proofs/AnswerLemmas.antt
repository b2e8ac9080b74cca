-- The state of the facts that an assignment makes true, fact by fact.
use Rattle.std.proofs.Common.{◌≡◌, ℕ, ◌+◌, ◌<◌, ◌≤◌, Bool, true, false, ◌||◌, ◌&&◌, List, [], ◌∷◌, ◌++◌, length, take, refl, sym, ap, ◌∙◌, get_or, inl, inr, ◌⊎◌}
use Rattle.std.specs.Ordering.{is_eq}
use Rattle.std.proofs.Math.Bool.{or-false}
use Rattle.std.proofs.lemmas.Bool.{cases_Bool, and_left}
use Rattle.std.proofs.lemmas.List.{take_more, take_all}
use Rattle.std.proofs.lemmas.Option.{slice_get_read}
use Rattle.ipa_sat.specs.Formula.{value}
use Rattle.ipa_logic.specs.Facts.{fact_cmp, has, IsRising}
use Rattle.ipa_logic.specs.FactLaws.{same_fact, same-turned, has-append}
use Rattle.ipa_logic.specs.declared.facts.Fact.{Fact}
use Rattle.ipa_ground.specs.ListLaws.{Rises-none}
use Rattle.ipa_ground.specs.Grounding.{test_of}
use Rattle.ipa_ground.specs.GroundingLaws.{test_of-listed, test_of-unlisted}
use Rattle.ipa_models.specs.Answers.{StandsFor}

-- the state's facts are those of the first n that the assignment makes true
pub record StandsForFirst (facts : List Fact) (a : List Bool) (n : ℕ) (state : List Fact) : Type 0 where
  pub rising : IsRising state
  pub same : (f : Fact) → has state f ≡ (has (take n facts) f && test_of 6 a facts f)

pub first-none : (facts : List Fact) (a : List Bool) → StandsForFirst facts a 0 []
first-none facts a = record { rising = Rises-none fact_cmp; same = λ f. refl }

-- the facts before the next one, and that one
has-more : (facts : List Fact) (n : ℕ) (g f : Fact) → n < length facts → g ≡ get_or facts n g → has (take (n + 1) facts) f ≡ (has (take n facts) f || is_eq (fact_cmp f g))
has-more facts n g f l at =
    ap (λ (gs : List Fact). has gs f) (take_more facts n g l ∙ ap (λ (x : Fact). take n facts ++ x ∷ []) (sym at))
    ∙ (has-append (take n facts) (g ∷ []) f ∙ ap (λ (b : Bool). has (take n facts) f || b) (or-false (is_eq (fact_cmp f g))))

-- the next fact is true as its variable is
next-value : (facts : List Fact) (a : List Bool) (n : ℕ) (g f : Fact) → IsRising facts → n < length facts → g ≡ get_or facts n g → is_eq (fact_cmp f g) ≡ true → test_of 6 a facts f ≡ value a (6 + n)
next-value facts a n g f rising l at same =
    ap (test_of 6 a facts) (same_fact f g same) ∙ test_of-listed 6 a facts n g rising (slice_get_read facts (length facts) n g refl l at)

-- a true fact more
pub first-put : (facts : List Fact) (a : List Bool) (n : ℕ) (g : Fact) (state next : List Fact) → IsRising facts → n < length facts → g ≡ get_or facts n g → value a (6 + n) ≡ true
    → IsRising next → ((f : Fact) → has next f ≡ (is_eq (fact_cmp g f) || has state f)) → StandsForFirst facts a n state → StandsForFirst facts a (n + 1) next
first-put facts a n g state next rising l at t rises put h = record {
  rising = rises;
  same = λ f.
      put f
      ∙ ((λ i. same-turned g f i || h.same f i)
      ∙ (joined (is_eq (fact_cmp f g)) (has (take n facts) f) (test_of 6 a facts f) (λ e. next-value facts a n g f rising l at e ∙ t)
      ∙ ap (λ (b : Bool). b && test_of 6 a facts f) (sym (has-more facts n g f l at))));
}
  where
    joined : (e h v : Bool) → (e ≡ true → v ≡ true) → (e || (h && v)) ≡ ((h || e) && v)
    joined true true true is = refl
    joined true true false is = sym (is refl)
    joined true false true is = refl
    joined true false false is = sym (is refl)
    joined false true v is = refl
    joined false false v is = refl

-- a fact that is not true
pub first-skip : (facts : List Fact) (a : List Bool) (n : ℕ) (g : Fact) (state : List Fact) → IsRising facts → n < length facts → g ≡ get_or facts n g → value a (6 + n) ≡ false
    → StandsForFirst facts a n state → StandsForFirst facts a (n + 1) state
first-skip facts a n g state rising l at t h = record {
  rising = h.rising;
  same = λ f.
      h.same f
      ∙ (joined (is_eq (fact_cmp f g)) (has (take n facts) f) (test_of 6 a facts f) (λ e. next-value facts a n g f rising l at e ∙ t)
      ∙ ap (λ (b : Bool). b && test_of 6 a facts f) (sym (has-more facts n g f l at)));
}
  where
    joined : (e h v : Bool) → (e ≡ true → v ≡ false) → (h && v) ≡ ((h || e) && v)
    joined true true v is = refl
    joined true false v is = sym (is refl)
    joined false true v is = refl
    joined false false v is = refl

pub first-all : (facts : List Fact) (a : List Bool) (n : ℕ) (state : List Fact) → length facts ≤ n → StandsForFirst facts a n state → StandsFor facts a state
first-all facts a n state l h = record {
  rising = h.rising;
  facts = λ f. h.same f ∙ (ap (λ (gs : List Fact). has gs f && test_of 6 a facts f) (take_all n facts l) ∙ listed f (cases_Bool (has facts f)));
}
  where
    listed : (f : Fact) → (has facts f ≡ true) ⊎ (has facts f ≡ false) → (has facts f && test_of 6 a facts f) ≡ test_of 6 a facts f
    listed f (inl there) = ap (λ (b : Bool). b && test_of 6 a facts f) there
    listed f (inr none) = and_left (has facts f) (test_of 6 a facts f) none ∙ sym (test_of-unlisted 6 a facts f none)
