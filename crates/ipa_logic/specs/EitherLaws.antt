-- Laws of the next fact that passes one of two tests.
--
--   same-from_neither              two facts of which neither comes before the other are the same
--   next-one                       there is but one next fact
--   either-other, either-one       the next to pass either test, where none passes the one, or the other
--   lesser-first, lesser-second    it is the lesser of the next to pass each
use Rattle.std.proofs.Common.{◌≡◌, ℕ, Bool, true, false, ◌||◌, Option, None, Some, refl, sym, ◌∙◌, ap, subst, inl, inr}
use Rattle.std.proofs.lemmas.Bool.{or_cases, or_left, or_right, false≢true}
use Rattle.std.specs.Ordering.{is_eq, is_lt, ordering_reverse}
use Rattle.std.specs.declared.cmp.Ordering.{Ordering}
use Rattle.std.specs.declared.cmp.Ordering.TheVariants.{Less, Equal, Greater}
use Rattle.ipa_logic.specs.Facts.{fact_cmp}
use Rattle.ipa_logic.specs.FactLaws.{fact_cmp_total, same_fact}
use Rattle.ipa_logic.specs.OrderLaws.{lt-through, lt-past}
use Rattle.ipa_logic.specs.Views.{is_left, IsNext, NoNext, IsNextOf}
use Rattle.ipa_logic.specs.NextLaws.{next-same}
use Rattle.ipa_logic.specs.declared.facts.Fact.{Fact}

-- two facts of which neither comes before the other are the same
pub same-from_neither : (f g : Fact) → is_lt (fact_cmp f g) ≡ false → is_lt (fact_cmp g f) ≡ false → f ≡ g
same-from_neither f g a b = here (fact_cmp f g) refl a
  where
    here : (r : Ordering) → fact_cmp f g ≡ r → is_lt r ≡ false → f ≡ g
    here Less e h = absurd (false≢true (sym h))
    here Equal e h = same_fact f g (ap is_eq e)
    here Greater e h = absurd (false≢true (sym b ∙ ap is_lt (fact_cmp_total.antisymm g f ∙ ap ordering_reverse e)))

module _ (p : ℕ) (after : Option Fact) where
  -- there is but one next fact
  pub next-one : (t : Fact → Bool) (r s : Option Fact) → IsNextOf t p after r → IsNextOf t p after s → r ≡ s
  next-one t None None n m = refl
  next-one t None (Some g) n m = absurd (false≢true (sym (n.none g m.passes) ∙ m.left))
  next-one t (Some g) None n m = absurd (false≢true (sym (m.none g n.passes) ∙ n.left))
  next-one t (Some g) (Some h) n m =
      ap Some (same-from_neither g h (m.least g n.passes n.left) (n.least h m.passes m.left))

  -- the next to pass either of two tests
  pub either-other : (t u : Fact → Bool) (r : Option Fact) → NoNext t p after → IsNextOf u p after r →
      IsNextOf (λ f. t f || u f) p after r
  either-other t u r n m = next-same p after u (λ f. t f || u f) r (λ f l. other f l (t f) refl) m
    where
      other : (f : Fact) → is_left p after f ≡ true → (b : Bool) → t f ≡ b → u f ≡ (b || u f)
      other f l true k = absurd (false≢true (sym (n.none f k) ∙ l))
      other f l false k = refl

  pub either-one : (t u : Fact → Bool) (r : Option Fact) → IsNextOf t p after r → NoNext u p after →
      IsNextOf (λ f. t f || u f) p after r
  either-one t u r m n = next-same p after t (λ f. t f || u f) r (λ f l. other f l (t f) (u f) refl) m
    where
      other : (f : Fact) → is_left p after f ≡ true → (a b : Bool) → u f ≡ b → a ≡ (a || b)
      other f l true b k = refl
      other f l false true k = absurd (false≢true (sym (n.none f k) ∙ l))
      other f l false false k = refl

  module _ (t u : Fact → Bool) (one other : Option Fact) (g h : Fact) (e : one ≡ Some g) (k : other ≡ Some h) where
    -- the lesser of the two is the next to pass either test
    pub lesser-first : is_lt (fact_cmp h g) ≡ false → IsNextOf t p after one → IsNextOf u p after other →
        IsNextOf (λ f. t f || u f) p after one
    lesser-first l n m = subst (IsNextOf (λ f. t f || u f) p after) (sym e) first
      where
        first_next : IsNext t p after g
        first_next = subst (IsNextOf t p after) e n

        second_next : IsNext u p after h
        second_next = subst (IsNextOf u p after) k m

        first : IsNext (λ f. t f || u f) p after g
        first = record {
          passes = or_left (t g) (u g) first_next.passes;
          left = first_next.left;
          least = λ f is left. elim (or_cases (t f) (u f) is) [
            | inl by_one ↦ first_next.least f by_one left
            | inr by_other ↦ lt-past fact_cmp_total f h g (second_next.least f by_other left) l
          ];
        }

    pub lesser-second : is_lt (fact_cmp h g) ≡ true → IsNextOf t p after one → IsNextOf u p after other →
        IsNextOf (λ f. t f || u f) p after other
    lesser-second l n m = subst (IsNextOf (λ f. t f || u f) p after) (sym k) second
      where
        first_next : IsNext t p after g
        first_next = subst (IsNextOf t p after) e n

        second_next : IsNext u p after h
        second_next = subst (IsNextOf u p after) k m

        second : IsNext (λ f. t f || u f) p after h
        second = record {
          passes = or_right (t h) (u h) second_next.passes;
          left = second_next.left;
          least = λ f is left. elim (or_cases (t f) (u f) is) [
            | inl by_one ↦ lt-through fact_cmp_total f h g l (first_next.least f by_one left)
            | inr by_other ↦ second_next.least f by_other left
          ];
        }
