-- Facts that fit a pattern, in lists of facts in order.
use Rattle.std.proofs.Common.{◌≡◌, ℕ, suc, ◌<◌, ◌≤◌, Bool, true, false, ◌&&◌, ◌||◌, List, [], ◌∷◌, length, refl, sym, ◌∙◌, ap, subst, arith, Option, Some, None, inl, inr}
use Rattle.std.specs.Prelude.{◌==◌, nat_lt, slice_index, slice_index_or}
use Rattle.std.specs.Ordering.{nat_cmp, ordering_then}
use Rattle.std.specs.declared.cmp.Ordering.{Ordering}
use Rattle.std.specs.declared.cmp.Ordering.TheVariants.{Less, Equal, Greater}
use Rattle.std.specs.Cmp.Lexicographic.{slice_cmp}
use Rattle.std.proofs.lemmas.Bool.{cases_lt, both_ways, or_cases, or_left, or_right, and_parts, and_from, eqb-true, eq-eqb, ltb-true, lt-ltb}
use Rattle.std.proofs.lemmas.Bool.Decides.{nat_tests}
use Rattle.std.proofs.lemmas.List.{get_or_default}
use Rattle.ipa_logic.specs.Facts.{fact_cmp, IsRising}
use Rattle.ipa_logic.specs.declared.facts.Fact.{Fact}
use Rattle.ipa_sets.specs.Fitting.{fits_at, fits, leads, is_within}
use Rattle.ipa_sets.specs.Places.{IsSplit}
use Rattle.ipa_sets.specs.declared.patterns.Pattern.{Pattern}
use Rattle.ipa_sets.proofs.PlaceLemmas.{parted, predicates-rise}

-- a lesser element leads where a greater one does
leads-down : (last : Bool) (x : Option ℕ) (a b : ℕ) (r q : Bool) → a ≤ b → (a ≡ b → q ≡ true → r ≡ true) →
    leads last x b q ≡ true → leads last x a r ≡ true
leads-down last None a b r q low same h = h
leads-down last (Some n) a b r q low same h = elim (or_cases (nat_lt b n) ((b == n) && q) h) [
  | inl less ↦ let l = ltb-true b n less in or_left (nat_lt a n) ((a == n) && r) (lt-ltb a n (omega (arith, l, low)))
  | inr here ↦
      let parts = and_parts (b == n) q here in
      let e : b ≡ n = eqb-true b n parts.0 in
      elim (cases_lt a n) [
        | inl less ↦ or_left (nat_lt a n) ((a == n) && r) (lt-ltb a n less)
        | inr more ↦
            let s : a ≡ b = omega (arith, low, e, more) in
            or_right (nat_lt a n) ((a == n) && r) (and_from (a == n) r (eq-eqb a n (s ∙ e)) (same s parts.1))
      ]
]

-- an element that fits leads as the rest does
leads-fit : (last : Bool) (x : Option ℕ) (a : ℕ) (r : Bool) → fits_at x a ≡ true → r ≡ last → leads last x a r ≡ last
leads-fit last None a r h e = refl
leads-fit last (Some n) a r h e =
    let same : n ≡ a = eqb-true n a h in
    subst (λ (m : ℕ). (nat_lt a m || ((a == m) && r)) ≡ last) (sym same) (itself a r ∙ e)
  where
    itself : (a : ℕ) (r : Bool) → (nat_lt a a || ((a == a) && r)) ≡ r
    itself a r =
        let not_less : nat_lt a a ≡ false = grind (arith, nat_tests) in
        ap (λ (b : Bool). b || ((a == a) && r)) not_less ∙ ap (λ (b : Bool). b && r) (eq-eqb a a refl)

-- the elements past the first
abbrev rest : List ℕ → List ℕ
rest [] = []
rest (x ∷ xs) = xs

index-rest : (xs : List ℕ) (i : ℕ) → slice_index xs (suc i) ≡ slice_index (rest xs) i
index-rest [] i = refl
index-rest (x ∷ xs) i = refl

none-greater : (ys : List ℕ) → slice_cmp nat_cmp [] ys ≡ Greater → ⊥
none-greater [] h = let e : Equal ≡ Greater = h in absurd cc
none-greater (y ∷ ys) h = let e : Less ≡ Greater = h in absurd cc

-- of lists of which the first is not greater, its first element is not, and where they are the same its rest is not
first-low : (xs ys : List ℕ) → (slice_cmp nat_cmp xs ys ≡ Greater → ⊥) → slice_index xs 0 ≤ slice_index ys 0
first-low [] ys n = omega arith
first-low (x ∷ xs) [] n = absurd (n refl)
first-low (x ∷ xs) (y ∷ ys) n = elim (cases_lt y x) [
  | inl less ↦
      let g : nat_cmp x y ≡ Greater = grind (arith, nat_tests) in
      absurd (n (ap (λ (o : Ordering). ordering_then o (slice_cmp nat_cmp xs ys)) g))
  | inr more ↦ more
]

rest-low : (xs ys : List ℕ) → (slice_cmp nat_cmp xs ys ≡ Greater → ⊥) → slice_index xs 0 ≡ slice_index ys 0 →
    slice_cmp nat_cmp (rest xs) (rest ys) ≡ Greater → ⊥
rest-low [] [] n e h = n h
rest-low [] (y ∷ ys) n e h = none-greater ys h
rest-low (x ∷ xs) [] n e h = n refl
rest-low (x ∷ xs) (y ∷ ys) n e h =
    let g : nat_cmp x y ≡ Equal = grind (arith, nat_tests) in
    n (ap (λ (o : Ordering). ordering_then o (slice_cmp nat_cmp xs ys)) g ∙ h)

-- the elements in the places of a list that is not greater than another
record IsLow (xs ys : List ℕ) : Type 0 where
  pub first : slice_index xs 0 ≤ slice_index ys 0
  pub second : slice_index xs 0 ≡ slice_index ys 0 → slice_index xs 1 ≤ slice_index ys 1
  pub third : slice_index xs 0 ≡ slice_index ys 0 → slice_index xs 1 ≡ slice_index ys 1 → slice_index xs 2 ≤ slice_index ys 2

low-from : (xs ys : List ℕ) → (slice_cmp nat_cmp xs ys ≡ Greater → ⊥) → IsLow xs ys
low-from xs ys n = record {
  first = first-low xs ys n;
  second = λ e.
      let l = first-low (rest xs) (rest ys) (rest-low xs ys n e) in
      let a = index-rest xs 0 in let b = index-rest ys 0 in omega (arith, l, a, b);
  third = λ e d.
      let a = index-rest xs 0 in let b = index-rest ys 0 in
      let s : slice_index (rest xs) 0 ≡ slice_index (rest ys) 0 = sym a ∙ (d ∙ b) in
      let l = first-low (rest (rest xs)) (rest (rest ys)) (rest-low (rest xs) (rest ys) (rest-low xs ys n e) s) in
      let g = index-rest xs 1 ∙ index-rest (rest xs) 0 in let h = index-rest ys 1 ∙ index-rest (rest ys) 0 in
      omega (arith, l, g, h);
}

-- of facts of one predicate the lesser has no greater elements
elements-low : (f g : Fact) → fact_cmp f g ≡ Less → f.predicate ≡ g.predicate → IsLow f.args g.args
elements-low f g e same = low-from f.args g.args (λ h.
    let q : nat_cmp f.predicate g.predicate ≡ Equal = grind (arith, nat_tests) in
    let k : slice_cmp nat_cmp f.args g.args ≡ Less = sym (ap (λ (o : Ordering). ordering_then o (slice_cmp nat_cmp f.args g.args)) q) ∙ e in
    let both : Greater ≡ Less = sym h ∙ k in absurd cc)

-- what comes before a fact that is within a pattern is too
pub within-down : (last : Bool) (p : Pattern) (f g : Fact) → fact_cmp f g ≡ Less → is_within last p g ≡ true → is_within last p f ≡ true
within-down last p f g e h = leads-down last (Some p.predicate) f.predicate g.predicate (by_first f) (by_first g) (predicates-rise f g e)
    (λ same. let low = elements-low f g e same in
    leads-down last (slice_index_or p.places 0 None) (slice_index f.args 0) (slice_index g.args 0) (by_second f) (by_second g) low.first
    (λ one. leads-down last (slice_index_or p.places 1 None) (slice_index f.args 1) (slice_index g.args 1) (by_third f) (by_third g) (low.second one)
    (λ two. leads-down last (slice_index_or p.places 2 None) (slice_index f.args 2) (slice_index g.args 2) last last (low.third one two)
    (λ three t. t)))) h
  where
    by_third : Fact → Bool
    by_third f = leads last (slice_index_or p.places 2 None) (slice_index f.args 2) last

    by_second : Fact → Bool
    by_second f = leads last (slice_index_or p.places 1 None) (slice_index f.args 1) (by_third f)

    by_first : Fact → Bool
    by_first f = leads last (slice_index_or p.places 0 None) (slice_index f.args 0) (by_second f)

-- a fact that fits is within the pattern just with the last
fits-within : (last : Bool) (p : Pattern) (f : Fact) → fits p f ≡ true → is_within last p f ≡ last
fits-within last p f h =
    let one = and_parts (p.predicate == f.predicate) (fits_at (slice_index_or p.places 0 None) (slice_index f.args 0)
    && (fits_at (slice_index_or p.places 1 None) (slice_index f.args 1)
    && fits_at (slice_index_or p.places 2 None) (slice_index f.args 2))) h in
    let two = and_parts (fits_at (slice_index_or p.places 0 None) (slice_index f.args 0))
    (fits_at (slice_index_or p.places 1 None) (slice_index f.args 1)
    && fits_at (slice_index_or p.places 2 None) (slice_index f.args 2)) one.1 in
    let three = and_parts (fits_at (slice_index_or p.places 1 None) (slice_index f.args 1))
    (fits_at (slice_index_or p.places 2 None) (slice_index f.args 2)) two.1 in
    leads-fit last (Some p.predicate) f.predicate _ one.0
    (leads-fit last (slice_index_or p.places 0 None) (slice_index f.args 0) _ two.0
    (leads-fit last (slice_index_or p.places 1 None) (slice_index f.args 1) _ three.0
    (leads-fit last (slice_index_or p.places 2 None) (slice_index f.args 2) last three.1 refl)))

module _ (p : Pattern) (facts : List Fact) (k : ℕ) (d : Fact) (fit : fits p (slice_index_or facts k d) ≡ true) where
  -- so such a fact does not stand before those that begin as the pattern does
  pub fits-from : (start : ℕ) → IsSplit (is_within false p) facts start → start ≤ k
  fits-from start split = elim (cases_lt k start) [
    | inl less ↦ absurd (both_ways (is_within false p (slice_index_or facts k d))
        (fits-within false p (slice_index_or facts k d) fit) (split.before k d less))
    | inr more ↦ more
  ]

  -- and not past them
  pub fits-to : (end : ℕ) (e : Fact) → IsRising facts → k < length facts → is_within true p (slice_index_or facts end e) ≡ false →
      k < end
  fits-to end e rises within past = elim (cases_lt k end) [
    | inl less ↦ less
    | inr more ↦ absurd (both_ways (is_within true p (slice_index_or facts end e)) past
        (ap (is_within true p) (get_or_default facts end e d (omega (arith, more, within)))
        ∙ parted (is_within true p) (within-down true p) facts rises end k d more within
        (fits-within true p (slice_index_or facts k d) fit)))
  ]
