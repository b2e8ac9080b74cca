-- Laws of the facts that are left of a walk.
--
--   filter-find_none   no fact passes where none is found
--   walk-some          the first of the facts that are left, and those that are left after it
--   walk-from          what is left from the next fact on
--   walk-next          one step of a walk
use Rattle.std.proofs.Common.{◌≡◌, ℕ, Bool, true, false, cond, ◌&&◌, ◌==◌, List, [], ◌∷◌, filter, find, Option, Some, None, refl, sym, ◌∙◌, ap, subst}
use Rattle.std.proofs.lemmas.Bool.{and_parts, and_right}
use Rattle.std.specs.List.{AllByRecursion}
use Rattle.std.specs.List.Sorted.{IsStrictlySortedBy}
use Rattle.std.specs.Ordering.{is_lt}
use Rattle.std.specs.declared.cmp.Ordering.TheVariants.{Less}
use Rattle.ipa_logic.specs.Facts.{fact_cmp, IsRising}
use Rattle.ipa_logic.specs.FactLaws.{fact_cmp_total}
use Rattle.ipa_logic.specs.OrderLaws.{lt-itself, lt-turned, lt-trans}
use Rattle.ipa_logic.specs.Views.{is_above, is_left, next_fact}
use Rattle.ipa_logic.specs.declared.facts.Fact.{Fact}
use Rattle.ipa_logic.specs.Walks.{facts_after, facts_from}

-- no fact passes where none is found
pub filter-find_none : (q : Fact → Bool) (s : List Fact) → find q s ≡ None → filter q s ≡ []
filter-find_none q [] e = refl
filter-find_none q (x ∷ xs) e = here (q x) e (filter-find_none q xs)
  where
    here : (b : Bool) → cond b (Some x) (find q xs) ≡ None → (find q xs ≡ None → filter q xs ≡ []) →
        cond b (x ∷ filter q xs) (filter q xs) ≡ []
    here true h rest = cc
    here false h rest = rest h

-- what holds of all facts holds of the one that is found
found-all : (P : Fact → Type 0) (q : Fact → Bool) (s : List Fact) (g : Fact) → AllByRecursion P s → find q s ≡ Some g →
    P g
found-all P q [] g a e = absurd (let h : None ≡ Some g = e in cc)
found-all P q (x ∷ xs) g a e = (elim (q x) as (λ b. cond b (Some x) (find q xs) ≡ Some g → P g) [
  | true ↦ λ h. subst P (let same : x ≡ g = cc in same) a.0
  | false ↦ λ h. found-all P q xs g a.1 h
]) e

module _ (p : Fact → Bool) where
  -- the test of the facts that are left
  abbrev left : Option Fact → Fact → Bool
  left after f = p f && is_above after f

  -- above x the facts after x are left
  left-same : (x : Fact) (after : Option Fact) (xs : List Fact) → is_above after x ≡ true →
      AllByRecursion (λ y. fact_cmp x y ≡ Less) xs → filter (left after) xs ≡ filter (left (Some x)) xs
  left-same x after [] h a = refl
  left-same x after (y ∷ ys) h a =
      ap (λ (b : Bool). cond (p y && b) (y ∷ filter (left after) ys) (filter (left after) ys)) (same after h)
      ∙ ap (λ (s : List Fact). cond (p y && is_lt (fact_cmp x y)) (y ∷ s) s) (left-same x after ys h a.1)
    where
      same : (after : Option Fact) → is_above after x ≡ true → is_above after y ≡ is_lt (fact_cmp x y)
      same None h = sym (ap is_lt a.0)
      same (Some z) h = lt-trans fact_cmp_total z x y h (ap is_lt a.0) ∙ sym (ap is_lt a.0)

  -- the first of the facts that are left, and those that are left after it
  pub walk-some : (s : List Fact) (after : Option Fact) (g : Fact) → IsRising s → find (left after) s ≡ Some g →
      filter (left after) s ≡ g ∷ filter (left (Some g)) s
  unfolding IsStrictlySortedBy
  walk-some [] after g r e = absurd (let h : None ≡ Some g = e in cc)
  walk-some (x ∷ xs) after g r e = step (left after x) refl e (walk-some xs after g r.1)
    where
      -- the facts that are left above a fact that x is not above are those of the rest
      gone : (f : Fact) → is_lt (fact_cmp f x) ≡ false → filter (left (Some f)) xs ≡ filter (left (Some f)) (x ∷ xs)
      gone f h =
          sym (ap (λ (b : Bool). cond b (x ∷ filter (left (Some f)) xs) (filter (left (Some f)) xs)) (and_right (p x) _ h))

      step : (b : Bool) → left after x ≡ b → cond b (Some x) (find (left after) xs) ≡ Some g →
          (find (left after) xs ≡ Some g → filter (left after) xs ≡ g ∷ filter (left (Some g)) xs) →
          cond b (x ∷ filter (left after) xs) (filter (left after) xs) ≡ g ∷ filter (left (Some g)) (x ∷ xs)
      step true l h rest =
          subst (λ (y : Fact). x ∷ filter (left after) xs ≡ y ∷ filter (left (Some y)) (x ∷ xs))
          (let same : x ≡ g = cc in same)
          (ap (λ (t : List Fact). x ∷ t)
          (left-same x after xs (and_parts (p x) (is_above after x) l).1 r.0 ∙ gone x (lt-itself fact_cmp_total x)))
      step false l h rest = rest h
          ∙ ap (λ (t : List Fact). g ∷ t)
          (gone g (lt-turned fact_cmp_total x g (found-all (λ y. fact_cmp x y ≡ Less) (left after) xs g r.0 h)))

-- what is left from the next fact on
pub walk-from : (s : List Fact) (p : ℕ) (after next : Option Fact) → IsRising s → next ≡ next_fact s p after →
    facts_from s p next ≡ facts_after s p after
walk-from s p after None r e = sym (filter-find_none (is_left p after) s (sym e))
walk-from s p after (Some g) r e = sym (walk-some (λ f. f.predicate == p) s after g r (sym e))

-- one step of a walk
pub walk-next : (s : List Fact) (p : ℕ) (here next : Option Fact) (fact : Fact) → IsRising s → here ≡ Some fact →
    next ≡ next_fact s p (Some fact) → facts_from s p here ≡ fact ∷ facts_from s p next
walk-next s p here next fact r h e =
    ap (facts_from s p) h ∙ ap (λ (t : List Fact). fact ∷ t) (sym (walk-from s p (Some fact) next r e))
