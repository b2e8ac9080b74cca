-- Of two states that differ one is earlier.
--
--   same-values     lists of truths of which none is before the other have the same values
--   same-rising     two lists that rise and have the same items are the same
--   same-state      two states of which none is earlier are the same
use Rattle.std.proofs.Common.{◌≡◌, ℕ, zero, suc, ◌+◌, ◌<◌, Bool, true, false, List, [], ◌∷◌, length, map, filter, Some, refl, sym, ap, ◌∙◌, subst, arith, inl, inr, ◌⊎◌, slice_get}
use Rattle.std.specs.List.Sorted.{IsStrictlySortedBy}
use Rattle.std.specs.Ordering.{ordering_reverse}
use Rattle.std.specs.Cmp.{IsTotalOrder}
use Rattle.std.specs.declared.cmp.Ordering.{Ordering}
use Rattle.std.specs.declared.cmp.Ordering.TheVariants.{Less}
use Rattle.std.proofs.lemmas.Bool.{cases_Bool, cases_lt}
use Rattle.std.proofs.lemmas.List.{length-map}
use Rattle.std.proofs.lemmas.Option.{same_Some, slice_get-get_or, slice_get_within}
use Rattle.ipa_spec.specs.declared.specification.Specification.{Specification}
use Rattle.ipa_spec.specs.declared.clauses.Literal.{Literal}
use Rattle.ipa_sat.specs.Formula.{IsBefore, value}
use Rattle.ipa_logic.specs.Facts.{Universe, IsState, fact_cmp, has}
use Rattle.ipa_logic.specs.FactLaws.{fact_cmp_total}
use Rattle.ipa_logic.specs.Truth.{literal_true}
use Rattle.ipa_logic.specs.Touches.{is_of_fact}
use Rattle.ipa_logic.specs.declared.facts.Fact.{Fact}
use Rattle.ipa_ground.specs.Enumeration.{AreShort, IsListed, facts_over}
use Rattle.ipa_ground.specs.EnumerationLaws.{Listed-has, has-Listed}
use Rattle.ipa_ground.specs.FactsLaws.{fact-facts_over}
use Rattle.ipa_ground.specs.ListLaws.{Listed-cons, Rises-head, Rises-tail, get-map, get-right}
use Rattle.ipa_models.specs.Models.{truths}

module _ (a b : List Bool) (before : IsBefore a b → ⊥) (behind : IsBefore b a → ⊥) where
  same-next : (n : ℕ) → ((v : ℕ) → v < n → value a v ≡ value b v) → value a n ≡ value b n
  same-next n same = at (cases_Bool (value a n)) (cases_Bool (value b n))
    where
      at : ((value a n ≡ true) ⊎ (value a n ≡ false)) → ((value b n ≡ true) ⊎ (value b n ≡ false)) → value a n ≡ value b n
      at (inl x) (inl y) = x ∙ sym y
      at (inl x) (inr y) = absurd (behind (record { place = n; same = λ k l. sym (same k l); less = y; more = x }))
      at (inr x) (inl y) = absurd (before (record { place = n; same = same; less = x; more = y }))
      at (inr x) (inr y) = x ∙ sym y

  same-below : (n v : ℕ) → v < n → value a v ≡ value b v
  same-below zero v l = absurd (omega arith)
  same-below (suc n) v l = elim (cases_lt v n) [
    | inl below ↦ same-below n v below
    | inr past ↦ (let here : n ≡ v = omega arith in subst (λ (k : ℕ). value a k ≡ value b k) here (same-next n (same-below n)))
  ]

  -- where none is before the other, the values are the same
  pub same-values : (v : ℕ) → value a v ≡ value b v
  same-values v = same-below (suc v) v (omega arith)

-- what is listed stands first or behind
first_or_behind : {X : Type 0} (y : X) (ys : List X) (x : X) → IsListed (y ∷ ys) x → (y ≡ x) ⊎ IsListed ys x
first_or_behind y ys x h = at h.place h.there
  where
    at : (k : ℕ) → slice_get (y ∷ ys) k ≡ Some x → (y ≡ x) ⊎ IsListed ys x
    at zero e = inl (same_Some y x e)
    at (suc k) e = inr (record { place = k; there = e })

module _ {X : Type 0} (c : X → X → Ordering) (order : IsTotalOrder c) where
  -- of two only one is below the other
  not_both_below : (x y : X) → c x y ≡ Less → c y x ≡ Less → ⊥
  not_both_below x y h k = let back : c x y ≡ ordering_reverse (c y x) = order.antisymm x y in let turned : ordering_reverse (c y x) ≡ ordering_reverse Less = ap ordering_reverse k in cc

  same-first : (x y : X) (xs ys : List X) → IsStrictlySortedBy c (x ∷ xs) → IsStrictlySortedBy c (y ∷ ys) → IsListed (y ∷ ys) x → IsListed (x ∷ xs) y → x ≡ y
  same-first x y xs ys h k there here = elim (first_or_behind y ys x there) [
    | inl same ↦ sym same
    | inr behind ↦ elim (first_or_behind x xs y here) [
      | inl same ↦ same
      | inr before ↦ absurd (not_both_below x y (Rises-head c x xs h y before) (Rises-head c y ys k x behind))
    ]
  ]

  -- behind the same first item the same follow
  behind-first : (x y : X) (xs ys : List X) → x ≡ y → IsStrictlySortedBy c (x ∷ xs) → ((z : X) → IsListed (x ∷ xs) z → IsListed (y ∷ ys) z) → (z : X) → IsListed xs z → IsListed ys z
  behind-first x y xs ys same h to z l = elim (first_or_behind y ys z (to z (Listed-cons x xs z l))) [
    | inl first ↦ (let below : c x z ≡ Less = Rises-head c x xs h z l in
        let itself : c x x ≡ Less = subst (λ (w : X). c x w ≡ Less) (sym (same ∙ first)) below in
        absurd (not_both_below x x itself itself))
    | inr behind ↦ behind
  ]

  -- two lists that rise and have the same items are the same
  pub same-rising : (xs ys : List X) → IsStrictlySortedBy c xs → IsStrictlySortedBy c ys → ((x : X) → IsListed xs x → IsListed ys x) → ((x : X) → IsListed ys x → IsListed xs x) → xs ≡ ys
  same-rising [] [] h k to back = refl
  same-rising [] (y ∷ ys) h k to back = let none = (back y (record { place = 0; there = refl })).there in cc
  same-rising (x ∷ xs) [] h k to back = let none = (to x (record { place = 0; there = refl })).there in cc
  same-rising (x ∷ xs) (y ∷ ys) h k to back =
      let first : x ≡ y = same-first x y xs ys h k (to x (record { place = 0; there = refl })) (back y (record { place = 0; there = refl })) in
      let rest : xs ≡ ys = same-rising xs ys (Rises-tail c x xs h) (Rises-tail c y ys k) (behind-first x y xs ys first h to) (behind-first y x ys xs (sym first) k back) in
      λ i. first i ∷ rest i

module _ (s : Specification) (universe : Universe) (values : List ℕ) (literals : List Literal) where
  -- the truth of a fact has a place of its own
  truth-at : (t : Fact → Bool) (f : Fact) (h : IsListed (facts_over s.predicates universe) f) → value (truths s universe values literals t) (length (filter is_of_fact literals) + h.place) ≡ t f
  truth-at t f h =
      let front : List Bool = map (literal_true s t values) (filter is_of_fact literals) in
      let there : slice_get (truths s universe values literals t) (length front + h.place) ≡ Some (t f)
      = get-right front (map t (facts_over s.predicates universe)) h.place ∙ get-map t (facts_over s.predicates universe) h.place f h.there in
      let within : length front + h.place < length (truths s universe values literals t) = slice_get_within (truths s universe values literals t) (length front + h.place) (t f) there in
      ap (λ (n : ℕ). value (truths s universe values literals t) (n + h.place)) (sym (length-map (filter is_of_fact literals) (literal_true s t values)))
      ∙ same_Some (value (truths s universe values literals t) (length front + h.place)) (t f) (sym (slice_get-get_or (truths s universe values literals t) (length front + h.place) false within) ∙ there)

  -- a fact of the one state is one of the other
  moved : AreShort s.predicates → (one other : List Fact) → IsState s universe one → ((v : ℕ) → value (truths s universe values literals (has one)) v ≡ value (truths s universe values literals (has other)) v)
      → (f : Fact) → IsListed one f → IsListed other f
  moved short one other is same f l =
      let there : has one f ≡ true = has-Listed one f l in
      let listed : IsListed (facts_over s.predicates universe) f = fact-facts_over s universe f short (is.facts f there) in
      Listed-has other f (sym (truth-at (has other) f listed) ∙ (sym (same (length (filter is_of_fact literals) + listed.place)) ∙ (truth-at (has one) f listed ∙ there)))

  -- two states of which none is earlier are the same
  pub same-state : AreShort s.predicates → (one other : List Fact) → IsState s universe one → IsState s universe other
      → (IsBefore (truths s universe values literals (has one)) (truths s universe values literals (has other)) → ⊥)
      → (IsBefore (truths s universe values literals (has other)) (truths s universe values literals (has one)) → ⊥) → one ≡ other
  same-state short one other is are before behind =
      let same = same-values (truths s universe values literals (has one)) (truths s universe values literals (has other)) before behind in
      same-rising fact_cmp fact_cmp_total one other is.rising are.rising (moved short one other is same) (moved short other one are (λ v. sym (same v)))
