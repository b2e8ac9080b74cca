-- The first instance that is broken, if there is one.
--
--   IsBelow bounds values     a value below each bound
--   FailsFirst bounds test    the first of these values that fail the test
--   first_failing             all of them pass it, or one is the first that fails
--   Breaks s universe t       the first instance that is broken
--   keeps_or_breaks           all clauses are kept, or there is such an instance
use Rattle.std.proofs.Common.{◌≡◌, ℕ, zero, suc, ◌<◌, ◌≤◌, ◌⊎◌, inl, inr, Bool, true, false, List, [], ◌∷◌, length, Option, Some, None, refl, sym, ap, subst, ◌∙◌, arith}
use Rattle.std.specs.List.{slice_get}
use Rattle.std.specs.Option.{option_map_or}
use Rattle.std.proofs.lemmas.Bool.{cases_lt}
use Rattle.std.proofs.lemmas.Option.{same_Some, slice_get_within, slice_get-get_or}
use Rattle.ipa_spec.specs.Actions.{sorts_of_vars}
use Rattle.ipa_spec.specs.declared.clauses.Clause.{Clause}
use Rattle.ipa_spec.specs.declared.specification.Specification.{Specification}
use Rattle.ipa_logic.specs.Facts.{Universe, size_of}
use Rattle.ipa_logic.specs.Truth.{value_at, instance_true, IsOver, IsValues, IsEarlier, KeepsClause, Keeps, IsFirstBroken}
use Rattle.ipa_logic.specs.declared.facts.Fact.{Fact}

-- a value below each bound
record IsBelow (bounds values : List ℕ) : Type 0 where
  each : (k bound : ℕ) → slice_get bounds k ≡ Some bound → value_at values k < bound
  width : length values ≡ length bounds

-- the first of these values that fail the test
record FailsFirst (bounds : List ℕ) (test : List ℕ → Bool) : Type 0 where
  values : List ℕ
  below : IsBelow bounds values
  fails : test values ≡ false
  earlier : (v : List ℕ) → IsBelow bounds v → IsEarlier v values → test v ≡ true

abbrev AllPass : List ℕ → (List ℕ → Bool) → Type 0
AllPass bounds test = (v : List ℕ) → IsBelow bounds v → test v ≡ true

-- the values behind the first one
tail_below : (bound : ℕ) (bounds : List ℕ) (k : ℕ) (v : List ℕ) → IsBelow (bound ∷ bounds) (k ∷ v) → IsBelow bounds v
tail_below bound bounds k v h = record {
  each = λ n b e. h.each (suc n) b e;
  width = omega (arith, h.width);
}

grown_below : (bound : ℕ) (bounds : List ℕ) (k : ℕ) (v : List ℕ) → k < bound → IsBelow bounds v → IsBelow (bound ∷ bounds) (k ∷ v)
grown_below bound bounds k v l h = record { each = each; width = omega (arith, h.width) }
  where
    each : (n b : ℕ) → slice_get (bound ∷ bounds) n ≡ Some b → value_at (k ∷ v) n < b
    each zero b e = subst (λ m. k < m) (same_Some bound b e) l
    each (suc n) b e = h.each n b e

-- where the first values are the same, the later ones decide
tail_earlier : (k : ℕ) (v w : List ℕ) → (e : IsEarlier (k ∷ v) (k ∷ w)) → IsEarlier v w
tail_earlier k v w e = at e.place e.same e.less
  where
    at : (place : ℕ) → ((n : ℕ) → n < place → value_at (k ∷ v) n ≡ value_at (k ∷ w) n) → value_at (k ∷ v) place < value_at (k ∷ w) place → IsEarlier v w
    at zero same less = absurd (omega (arith, less))
    at (suc place) same less = record { place = place; same = λ n l. same (suc n) (omega (arith, l)); less = less }

first_failing : (bounds : List ℕ) (test : List ℕ → Bool) → AllPass bounds test ⊎ FailsFirst bounds test
first_failing [] test = decided (test []) refl
  where
    nothing : (v : List ℕ) → IsBelow [] v → v ≡ []
    nothing [] h = refl
    nothing (k ∷ v) h = absurd (omega (arith, h.width))

    decided : (b : Bool) → test [] ≡ b → AllPass [] test ⊎ FailsFirst [] test
    decided true is = inl (λ v h. ap test (nothing v h) ∙ is)
    decided false is = inr (record {
      values = [];
      below = record { each = λ k b e. cc; width = refl };
      fails = is;
      earlier = λ v h e. absurd (none_earlier v (nothing v h) e);
    })
      where
        none_earlier : (v : List ℕ) → v ≡ [] → IsEarlier v [] → ⊥
        none_earlier v same e = not_less e.place e.less
          where
            not_less : (place : ℕ) → value_at v place < value_at [] place → ⊥
            not_less zero less = omega (arith, less)
            not_less (suc place) less = omega (arith, less)
first_failing (bound ∷ bounds) test = elim (up_to (λ later. first_failing bounds later) bound (omega arith)) [ inl all ↦ inl (λ v h. whole all v h) | inr found ↦ inr found ]
  where
    PassTo : ℕ → Type 0
    PassTo n = (k : ℕ) (v : List ℕ) → k < n → IsBelow bounds v → test (k ∷ v) ≡ true

    whole : PassTo bound → (v : List ℕ) → IsBelow (bound ∷ bounds) v → test v ≡ true
    whole all [] h = absurd (omega (arith, h.width))
    whole all (k ∷ v) h = all k v (h.each 0 bound refl) (tail_below bound bounds k v h)

    one_more : (n : ℕ) → PassTo n → AllPass bounds (λ v. test (n ∷ v)) → PassTo (suc n)
    one_more n before here k v l h = elim (cases_lt k n) [
      | inl less ↦ before k v less h
      | inr more ↦
          let same : n ≡ k = omega (arith, l, more) in
          subst (λ m. test (m ∷ v) ≡ true) same (here v h)
    ]

    found_here : (n : ℕ) → n < bound → PassTo n → FailsFirst bounds (λ v. test (n ∷ v)) → FailsFirst (bound ∷ bounds) test
    found_here n l before f = record {
      values = n ∷ f.values;
      below = grown_below bound bounds n f.values l f.below;
      fails = f.fails;
      earlier = λ v h e. passes v h e;
    }
      where
        passes : (v : List ℕ) → IsBelow (bound ∷ bounds) v → IsEarlier v (n ∷ f.values) → test v ≡ true
        passes [] h e = absurd (omega (arith, h.width))
        passes (k ∷ v) h e = elim (cases_lt k n) [
          | inl less ↦ before k v less (tail_below bound bounds k v h)
          | inr more ↦
              let same : k ≡ n = at_first e.place e.same e.less more in
              subst (λ m. test (m ∷ v) ≡ true) (sym same)
              (f.earlier v (tail_below bound bounds k v h) (tail_earlier n v f.values (subst (λ m. IsEarlier (m ∷ v) (n ∷ f.values)) same e)))
        ]
          where
            at_first : (place : ℕ) → ((m : ℕ) → m < place → value_at (k ∷ v) m ≡ value_at (n ∷ f.values) m) → value_at (k ∷ v) place < value_at (n ∷ f.values) place → n ≤ k → k ≡ n
            at_first zero same less more = absurd (omega (arith, less, more))
            at_first (suc place) same less more = same 0 (omega arith)

    up_to : ((later : List ℕ → Bool) → AllPass bounds later ⊎ FailsFirst bounds later) → (n : ℕ) → n ≤ bound → PassTo n ⊎ FailsFirst (bound ∷ bounds) test
    up_to inner zero l = inl (λ k v less h. absurd (omega (arith, less)))
    up_to inner (suc n) l = elim (up_to inner n (omega (arith, l))) [
      | inl before ↦ elim (inner (λ v. test (n ∷ v))) [
        | inl here ↦ inl (one_more n before here)
        | inr f ↦ inr (found_here n (omega (arith, l)) before f)
      ]
      | inr found ↦ inr found
    ]

module _ (s : Specification) (universe : Universe) (t : Fact → Bool) where
  -- the values of a variable are those below the size of its sort; past the variables there is one value
  abbrev bound_at : List ℕ → ℕ → ℕ
  bound_at sorts v = option_map_or (size_of universe) (slice_get sorts v) 1

  abbrev bounds_of : List ℕ → List ℕ
  bounds_of sorts = bound_at sorts 0 ∷ bound_at sorts 1 ∷ bound_at sorts 2 ∷ bound_at sorts 3 ∷ []

  nothing_past : (sorts : List ℕ) (v : ℕ) → length sorts ≤ v → slice_get sorts v ≡ None
  nothing_past [] v l = refl
  nothing_past (sort ∷ sorts) zero l = absurd (omega (arith, l))
  nothing_past (sort ∷ sorts) (suc v) l = nothing_past sorts v (omega (arith, l))

  over_below : (sorts values : List ℕ) → IsOver universe sorts values → IsBelow (bounds_of sorts) values
  over_below sorts values h = record { each = each; width = h.width }
    where
      at : (v : ℕ) → value_at values v < bound_at sorts v
      at v = elim (cases_lt v (length sorts)) [
        | inl less ↦
            let there = slice_get-get_or sorts v 0 less in
            subst (λ found. value_at values v < option_map_or (size_of universe) found 1) (sym there) (h.elements v _ there)
        | inr past ↦
            let none = nothing_past sorts v past in
            subst (λ found. value_at values v < option_map_or (size_of universe) found 1) (sym none) (omega (arith, h.unused v past))
      ]

      each : (k bound : ℕ) → slice_get (bounds_of sorts) k ≡ Some bound → value_at values k < bound
      each zero bound e = subst (λ b. value_at values 0 < b) (same_Some _ bound e) (at 0)
      each (suc zero) bound e = subst (λ b. value_at values 1 < b) (same_Some _ bound e) (at 1)
      each (suc (suc zero)) bound e = subst (λ b. value_at values 2 < b) (same_Some _ bound e) (at 2)
      each (suc (suc (suc zero))) bound e = subst (λ b. value_at values 3 < b) (same_Some _ bound e) (at 3)
      each (suc (suc (suc (suc k)))) bound e = cc

  below_over : (sorts values : List ℕ) → length sorts ≤ 4 → IsBelow (bounds_of sorts) values → IsOver universe sorts values
  below_over sorts values few h = record { elements = elements; unused = unused values h.width unused_at; width = h.width }
    where
      at : (v : ℕ) → v < 4 → value_at values v < bound_at sorts v
      at zero l = h.each 0 _ refl
      at (suc zero) l = h.each 1 _ refl
      at (suc (suc zero)) l = h.each 2 _ refl
      at (suc (suc (suc zero))) l = h.each 3 _ refl
      at (suc (suc (suc (suc v)))) l = absurd (omega (arith, l))

      elements : (v sort : ℕ) → slice_get sorts v ≡ Some sort → value_at values v < size_of universe sort
      elements v sort e =
          let within = slice_get_within sorts v sort e in
          subst (λ found. value_at values v < option_map_or (size_of universe) found 1) e (at v (omega (arith, within, few)))

      unused_at : (v : ℕ) → v < 4 → length sorts ≤ v → value_at values v ≡ 0
      unused_at v l past =
          let less = subst (λ found. value_at values v < option_map_or (size_of universe) found 1) (nothing_past sorts v past) (at v l) in
          omega (arith, less)

      unused : (vs : List ℕ) → length vs ≡ 4 → ((v : ℕ) → v < 4 → length sorts ≤ v → value_at vs v ≡ 0) → (v : ℕ) → length sorts ≤ v → value_at vs v ≡ 0
      unused [] w u v past = absurd (omega (arith, w))
      unused (a ∷ []) w u v past = absurd (omega (arith, w))
      unused (a ∷ b ∷ []) w u v past = absurd (omega (arith, w))
      unused (a ∷ b ∷ c ∷ []) w u v past = absurd (omega (arith, w))
      unused (a ∷ b ∷ c ∷ d ∷ e ∷ vs) w u v past = absurd (omega (arith, w))
      unused (a ∷ b ∷ c ∷ d ∷ []) w u zero past = u 0 (omega arith) past
      unused (a ∷ b ∷ c ∷ d ∷ []) w u (suc zero) past = u 1 (omega arith) past
      unused (a ∷ b ∷ c ∷ d ∷ []) w u (suc (suc zero)) past = u 2 (omega arith) past
      unused (a ∷ b ∷ c ∷ d ∷ []) w u (suc (suc (suc zero))) past = u 3 (omega arith) past
      unused (a ∷ b ∷ c ∷ d ∷ []) w u (suc (suc (suc (suc v)))) past = refl

  -- the first instance of the clause that is broken
  record IsBroken (c : Clause) : Type 0 where
    values : List ℕ
    over : IsValues universe c values
    broken : instance_true s t values c ≡ false
    earlier : (v : List ℕ) → IsValues universe c v → IsEarlier v values → instance_true s t v c ≡ true

  one_clause : (c : Clause) → length (sorts_of_vars c.vars) ≤ 4 → KeepsClause s universe t c ⊎ IsBroken c
  one_clause c few = elim (first_failing (bounds_of (sorts_of_vars c.vars)) (λ values. instance_true s t values c)) [
    | inl all ↦ inl (record { instances = λ values over. all values (over_below (sorts_of_vars c.vars) values over) })
    | inr f ↦ inr (record {
      values = f.values;
      over = below_over (sorts_of_vars c.vars) f.values few f.below;
      broken = f.fails;
      earlier = λ v over e. f.earlier v (over_below (sorts_of_vars c.vars) v over) e;
    })
  ]

  -- the first of some clauses that is broken
  record BreaksIn (cs : List Clause) : Type 0 where
    number : ℕ
    clause : Clause
    declared : slice_get cs number ≡ Some clause
    broken : IsBroken clause
    earlier : (j : ℕ) (c : Clause) → j < number → slice_get cs j ≡ Some c → KeepsClause s universe t c

  abbrev AllKept : List Clause → Type 0
  AllKept cs = (k : ℕ) (c : Clause) → slice_get cs k ≡ Some c → KeepsClause s universe t c

  abbrev AreShort : List Clause → Type 0
  AreShort cs = (k : ℕ) (c : Clause) → slice_get cs k ≡ Some c → length (sorts_of_vars c.vars) ≤ 4

  first_of : (cs : List Clause) → AreShort cs → AllKept cs ⊎ BreaksIn cs
  first_of [] short = inl (λ k c e. cc)
  first_of (c ∷ cs) short = elim (one_clause c (short 0 c refl)) [
    | inl kept ↦ elim (first_of cs (λ k other e. short (suc k) other e)) [
      | inl all ↦ inl (each_more kept all)
      | inr found ↦ inr (record { number = suc found.number; clause = found.clause; declared = found.declared; broken = found.broken; earlier = earlier_more kept found.number found.earlier })
    ]
    | inr broken ↦ inr (record { number = 0; clause = c; declared = refl; broken = broken; earlier = λ j other l e. absurd (omega (arith, l)) })
  ]
    where
      each_more : KeepsClause s universe t c → AllKept cs → AllKept (c ∷ cs)
      each_more kept all zero other e = subst (KeepsClause s universe t) (same_Some c other e) kept
      each_more kept all (suc k) other e = all k other e

      earlier_more : KeepsClause s universe t c → (n : ℕ) → ((j : ℕ) (other : Clause) → j < n → slice_get cs j ≡ Some other → KeepsClause s universe t other) → (j : ℕ) (other : Clause) → j < suc n → slice_get (c ∷ cs) j ≡ Some other → KeepsClause s universe t other
      earlier_more kept n all zero other l e = subst (KeepsClause s universe t) (same_Some c other e) kept
      earlier_more kept n all (suc j) other l e = all j other (omega (arith, l)) e

  pub record Breaks : Type 0 where
    pub number : ℕ
    pub values : List ℕ
    pub first : IsFirstBroken s universe t number values

  pub keeps_or_breaks : AreShort s.clauses → Keeps s universe t ⊎ Breaks
  keeps_or_breaks short = elim (first_of s.clauses short) [
    | inl all ↦ inl (record { clauses = all })
    | inr found ↦ inr (record {
      number = found.number;
      values = found.broken.values;
      first = record {
        clause = found.clause;
        declared = found.declared;
        over = found.broken.over;
        broken = found.broken.broken;
        earlier_clauses = found.earlier;
        earlier_values = found.broken.earlier;
      };
    })
  ]
