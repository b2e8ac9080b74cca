-- The next fact that matches, found by leaps.
use Rattle.std.proofs.Common.{◌≡◌, ℕ, ◌+◌, ◌<◌, ◌≤◌, Bool, true, false, cond, ◌&&◌, ◌==◌, List, [], ◌∷◌, length, filter, find, Option, Some, None, refl, sym, ◌∙◌, ap, arith}
use Rattle.std.proofs.lemmas.Bool.{and_parts, false≢true}
use Rattle.std.specs.Ordering.{is_lt}
use Rattle.ipa_logic.specs.Facts.{fact_cmp, IsRising}
use Rattle.ipa_logic.specs.Views.{next_fact, is_left}
use Rattle.ipa_logic.specs.declared.facts.Fact.{Fact}
use Rattle.ipa_logic.specs.FilterLaws.{find-both, find-turned}
use Rattle.ipa_logic.specs.WalkLaws.{walk-some, filter-find_none}

module _ (p : ℕ) (test : Fact → Bool) (s : List Fact) (rising : IsRising s) where
  -- the next fact that passes is the next fact, where that passes
  pub match-next : (after : Option Fact) (g : Fact) → Some g ≡ next_fact s p after → test g ≡ true → Some g ≡ next_fact (filter test s) p after
  match-next after g e q = sym (find-turned (is_left p after) test s
      ∙ (ap (find test) (walk-some (λ f. f.predicate == p) s after g rising (sym e))
      ∙ ap (λ (c : Bool). cond c (Some g) (find test (filter (is_left p (Some g)) s))) q))

  -- there is none where there is no next fact
  pub match-none : (after : Option Fact) → None ≡ next_fact s p after → None ≡ next_fact (filter test s) p after
  match-none after e = sym (find-turned (is_left p after) test s ∙ ap (find test) (filter-find_none (is_left p after) s (sym e)))

  -- past a fact that does not pass, and as far as none that passes lies between
  pub match-leap : (after : Option Fact) (g t : Fact) → Some g ≡ next_fact s p after → test g ≡ false
      → ((f : Fact) → is_lt (fact_cmp t f) ≡ true → is_lt (fact_cmp g f) ≡ true)
      → ((f : Fact) → test f ≡ true → is_lt (fact_cmp g f) ≡ true → is_lt (fact_cmp t f) ≡ true)
      → next_fact (filter test s) p after ≡ next_fact (filter test s) p (Some t)
  match-leap after g t e q on none = find-turned (is_left p after) test s
      ∙ (ap (find test) (walk-some (λ f. f.predicate == p) s after g rising (sym e))
      ∙ (ap (λ (c : Bool). cond c (Some g) (find test (filter (is_left p (Some g)) s))) q
      ∙ (find-turned test (is_left p (Some g)) s
      ∙ (find-both (is_left p (Some g)) test s
      ∙ (ap (λ (r : Fact → Bool). find r s) (λ i f. same f i)
      ∙ sym (find-both (is_left p (Some t)) test s))))))
    where
      same : (f : Fact) → (test f && ((f.predicate == p) && is_lt (fact_cmp g f))) ≡ (test f && ((f.predicate == p) && is_lt (fact_cmp t f)))
      same f = here (test f) (f.predicate == p) (is_lt (fact_cmp g f)) (is_lt (fact_cmp t f)) (λ h. on f h) (λ h k. none f h k)
        where
          here : (a c d e : Bool) → (e ≡ true → d ≡ true) → (a ≡ true → d ≡ true → e ≡ true) → (a && (c && d)) ≡ (a && (c && e))
          here true true true e m n = sym (n refl refl)
          here true true false true m n = m refl
          here true true false false m n = refl
          here true false d e m n = refl
          here false c d e m n = refl

  -- fewer facts are left
  pub leap-fewer : (after : Option Fact) (g t : Fact) → Some g ≡ next_fact s p after → ((f : Fact) → is_lt (fact_cmp t f) ≡ true → is_lt (fact_cmp g f) ≡ true)
      → length (filter (is_left p (Some t)) s) < length (filter (is_left p after) s)
  leap-fewer after g t e on =
      let whole : length (filter (is_left p after) s) ≡ 1 + length (filter (is_left p (Some g)) s) = ap length (walk-some (λ f. f.predicate == p) s after g rising (sym e)) ∙ omega arith in
      let few = fewer (is_left p (Some t)) (is_left p (Some g)) (λ f h. let parts = and_parts (f.predicate == p) (is_lt (fact_cmp t f)) h in ap (λ (c : Bool). c && is_lt (fact_cmp g f)) parts.0 ∙ on f parts.1) s in
      omega arith
    where
      fewer : (q r : Fact → Bool) → ((f : Fact) → q f ≡ true → r f ≡ true) → (s : List Fact) → length (filter q s) ≤ length (filter r s)
      fewer q r h [] = omega arith
      fewer q r h (x ∷ xs) = here (q x) (r x) refl refl (fewer q r h xs)
        where
          here : (a c : Bool) → q x ≡ a → r x ≡ c → length (filter q xs) ≤ length (filter r xs) → length (cond a (x ∷ filter q xs) (filter q xs)) ≤ length (cond c (x ∷ filter r xs) (filter r xs))
          here true true e k l = omega arith
          here true false e k l = absurd (false≢true (sym k ∙ h x e))
          here false true e k l = omega arith
          here false false e k l = l
