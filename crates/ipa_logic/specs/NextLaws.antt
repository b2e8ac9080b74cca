-- Laws of the next fact that passes a test.
--
--   next-same     tests that are the same on the facts that are left have the same next fact
--   next-found    the next fact of a list in order is the first that is left
use Rattle.std.proofs.Common.{◌≡◌, ℕ, Bool, true, false, cond, ◌||◌, List, [], ◌∷◌, find, Option, None, Some, refl, sym, ◌∙◌, ap, subst, inl, inr}
use Rattle.std.proofs.lemmas.Bool.{cases_Bool, or_cases, false≢true}
use Rattle.std.specs.List.{AllByRecursion}
use Rattle.std.specs.List.Sorted.{IsStrictlySortedBy}
use Rattle.std.specs.Ordering.{is_eq, is_lt}
use Rattle.std.specs.declared.cmp.Ordering.TheVariants.{Less}
use Rattle.ipa_logic.specs.Facts.{fact_cmp, has, IsRising}
use Rattle.ipa_logic.specs.FactLaws.{fact_cmp_total, same_fact, fact_itself}
use Rattle.ipa_logic.specs.OrderLaws.{lt-itself, lt-turned}
use Rattle.ipa_logic.specs.Views.{is_left, IsNextOf}
use Rattle.ipa_logic.specs.declared.facts.Fact.{Fact}

-- what follows the head of a list in order
above-head : (x : Fact) (xs : List Fact) (f : Fact) → AllByRecursion (λ y. fact_cmp x y ≡ Less) xs → has xs f ≡ true → fact_cmp x f ≡ Less
above-head x [] f a h = absurd (false≢true h)
above-head x (y ∷ ys) f a h = elim (or_cases (is_eq (fact_cmp f y)) (has ys f) h) [
  | inl same ↦ subst (λ (z : Fact). fact_cmp x z ≡ Less) (sym (same_fact f y same)) a.0
  | inr among ↦ above-head x ys f a.1 among
]

module _ (p : ℕ) (after : Option Fact) where
  -- tests that are the same on the facts that are left have the same next fact
  pub next-same : (t u : Fact → Bool) (r : Option Fact) → ((f : Fact) → is_left p after f ≡ true → t f ≡ u f) → IsNextOf t p after r → IsNextOf u p after r
  next-same t u None e n = record { none = λ f h. elim (cases_Bool (is_left p after f)) [ inl left ↦ n.none f (e f left ∙ h) | inr gone ↦ gone ] }
  next-same t u (Some g) e n = record {
    passes = sym (e g n.left) ∙ n.passes;
    left = n.left;
    least = λ f h l. n.least f (e f l ∙ h) l;
  }

  -- the next fact of a list in order is the first that is left
  pub next-found : (s : List Fact) → IsRising s → IsNextOf (has s) p after (find (is_left p after) s)
  unfolding IsStrictlySortedBy
  next-found [] r = record { none = λ f h. absurd (false≢true h) }
  next-found (x ∷ xs) r = here (is_left p after x) refl (next-found xs r.1)
    where
      here : (b : Bool) → is_left p after x ≡ b → IsNextOf (has xs) p after (find (is_left p after) xs) → IsNextOf (has (x ∷ xs)) p after (cond b (Some x) (find (is_left p after) xs))
      here true e n = record {
        passes = ap (λ (c : Bool). c || has xs x) (fact_itself x);
        left = e;
        least = λ f h l. elim (or_cases (is_eq (fact_cmp f x)) (has xs f) h) [
          | inl same ↦ subst (λ (z : Fact). is_lt (fact_cmp z x) ≡ false) (sym (same_fact f x same)) (lt-itself fact_cmp_total x)
          | inr among ↦ lt-turned fact_cmp_total x f (above-head x xs f r.0 among)
        ];
      }
      here false e n = next-same (has xs) (has (x ∷ xs)) (find (is_left p after) xs) (λ f l. other f l (is_eq (fact_cmp f x)) refl) n
        where
          other : (f : Fact) → is_left p after f ≡ true → (b : Bool) → is_eq (fact_cmp f x) ≡ b → has xs f ≡ (b || has xs f)
          other f l true k = absurd (false≢true (sym e ∙ (ap (is_left p after) (sym (same_fact f x k)) ∙ l)))
          other f l false k = refl
