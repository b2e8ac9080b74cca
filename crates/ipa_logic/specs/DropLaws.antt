-- Laws of drops.
--
--   has-filter               a fact of a part of a state is one of the state, and passes the part's test
--   due_drop-true            the fact of a due drop is true, and of the bound's predicate
--   drop_effect-fits         the remove of a dropped fact fits the drop's arguments
--   drop_fact-drop_args      the drop with a fact's arguments removes that fact
--   IsArguments-drop_args    they are arguments over the universe of the fact
--   drop_adds_nothing        a drop adds no fact
--   drop_removes_its_fact    a drop removes its own fact
use Rattle.std.proofs.Common.{◌≡◌, ℕ, zero, suc, ◌<◌, ◌≤◌, Bool, true, false, not, ◌&&◌, nat_lt, cond, List, [], ◌∷◌, length, filter, refl, sym, ◌∙◌, ap, subst, arith, Option, Some, slice_get, inl, inr}
use Rattle.std.specs.Prelude.{◌==◌, take, slice_index, unwrap_or}
use Rattle.std.specs.Option.{option_map_or}
use Rattle.std.specs.Ordering.{is_eq}
use Rattle.std.proofs.lemmas.Bool.{false≢true, and_parts, and_from, cases_lt, lt-ltb, eq-eqb, eqb-true, or_cases, or_left, or_right}
use Rattle.std.proofs.lemmas.Option.{slice_get_within}
use Rattle.std.proofs.lemmas.Grind.{same_number_lists}
use Rattle.ipa_spec.specs.Actions.{arity_of, place_sorts, effects_of, sorts_of, drop_arg, drop_effect, drop_effects}
use Rattle.ipa_spec.specs.Fits.{EffectFits, IsFit}
use Rattle.ipa_spec.specs.FoundLaws.{none_of, take_at}
use Rattle.ipa_spec.specs.declared.specification.Specification.{Specification}
use Rattle.ipa_spec.specs.declared.predicates.Predicate.{Predicate}
use Rattle.ipa_spec.specs.declared.operations.Arg.{Arg}
use Rattle.ipa_spec.specs.declared.operations.Arg.TheVariants.{Var as Parameter, Any}
use Rattle.ipa_spec.specs.declared.operations.Effect.{Effect}
use Rattle.ipa_spec.specs.declared.operations.Action.TheVariants.{Drop}
use Rattle.ipa_spec.specs.declared.bounds.Bound.{Bound}
use Rattle.ipa_spec.specs.declared.bounds.Pick.{Pick}
use Rattle.ipa_spec.specs.declared.bounds.Pick.TheVariants.{Greatest, Youngest}
use Rattle.ipa_logic.specs.Facts.{Universe, size_of, IsFact, has, fact_cmp}
use Rattle.ipa_logic.specs.FactLaws.{same_fact}
use Rattle.ipa_logic.specs.FitLaws.{three-at}
use Rattle.ipa_logic.specs.Truth.{value_at, IsArguments}
use Rattle.ipa_logic.specs.Touches.{arg_at, stands_for, given_at, fact_given, matches_at, matches, gives, takes, some_gives, some_takes, adds, removes}
use Rattle.ipa_logic.specs.Groups.{is_in_group, group_of}
use Rattle.ipa_logic.specs.DueDrops.{IsPicked, IsDueDrop}
use Rattle.ipa_logic.specs.Acceptance.{drop_fact, drop_args}
use Rattle.ipa_logic.specs.declared.facts.Age.{Age}
use Rattle.ipa_logic.specs.declared.facts.Fact.{Fact}

-- the first is kept, or it is not
has-filter_first : (p : Fact → Bool) (x : Fact) (xs : List Fact) (f : Fact) (b : Bool) → p x ≡ b → has (cond b (x ∷ filter p xs) (filter p xs)) f ≡ true →
    (has (filter p xs) f ≡ true → (has xs f ≡ true) × (p f ≡ true)) → (has (x ∷ xs) f ≡ true) × (p f ≡ true)
has-filter_first p x xs f true is h rest = elim (or_cases (is_eq (fact_cmp f x)) (has (filter p xs) f) h) [
  | inl here ↦ (or_left (is_eq (fact_cmp f x)) (has xs f) here, ap p (same_fact f x here) ∙ is)
  | inr later ↦ let r = rest later in (or_right (is_eq (fact_cmp f x)) (has xs f) r.0, r.1)
]
has-filter_first p x xs f false is h rest = let r = rest h in (or_right (is_eq (fact_cmp f x)) (has xs f) r.0, r.1)

-- a fact of a part of a state is one of the state, and passes the part's test
pub has-filter : (p : Fact → Bool) (state : List Fact) (f : Fact) → has (filter p state) f ≡ true → (has state f ≡ true) × (p f ≡ true)
has-filter p [] f h = absurd (false≢true h)
has-filter p (x ∷ xs) f h = has-filter_first p x xs f (p x) refl h (has-filter p xs f)

-- a picked fact is one of the group
picked-among : (pick : Pick) (ages : Fact → Age) (group : List Fact) (f : Fact) → IsPicked pick ages group f → has group f ≡ true
picked-among Greatest ages group f h = h.among
picked-among Youngest ages group f h = h.among

-- the fact of a due drop is true, and of the bound's predicate
pub due_drop-true : (bounds : List Bound) (state : List Fact) (ages : Fact → Age) (n : ℕ) (f : Fact) (due : IsDueDrop bounds state ages n f) →
    (has state f ≡ true) × (f.predicate ≡ due.bound.predicate)
due_drop-true bounds state ages n f due =
    let found = has-filter (is_in_group due.bound due.key) state f (picked-among due.bound.pick ages (group_of due.bound due.key state) f due.removed) in
    let parts = and_parts (f.predicate == due.bound.predicate) _ found.1 in
    (found.0, eqb-true f.predicate due.bound.predicate parts.0)

module _ (s : Specification) (fit : IsFit s) (n : ℕ) (b : Bound) (declared : slice_get s.bounds n ≡ Some b) where
  -- the effects of the drop
  effects-drop : effects_of s (Drop n) ≡ drop_effects s.predicates b
  effects-drop = ap (λ (o : Option Bound). option_map_or (drop_effects s.predicates) o []) declared

  -- the remove of the dropped fact fits the drop's arguments
  pub drop_effect-fits : EffectFits s (sorts_of s (Drop n)) (drop_effect s.predicates b)
  drop_effect-fits = fit.effects (Drop n) 0 (drop_effect s.predicates b) (ap (λ (es : List Effect). slice_get es 0) effects-drop)

  -- what stands in a place of it, within and past the arity
  arity-drop : arity_of s.predicates b.predicate ≡ drop_effect-fits.predicate.arity
  arity-drop = ap (λ (o : Option Predicate). option_map_or (λ p. p.arity) o 0) drop_effect-fits.declared

  place-at : (k : ℕ) → k < 3 → arg_at (drop_effect s.predicates b) k ≡ drop_arg (arity_of s.predicates b.predicate) k
  place-at zero l = refl
  place-at (suc zero) l = refl
  place-at (suc (suc zero)) l = refl
  place-at (suc (suc (suc k))) l = absurd (omega arith)

  place-within : (k : ℕ) → k < drop_effect-fits.predicate.arity → arg_at (drop_effect s.predicates b) k ≡ Parameter k
  place-within k h = place-at k (omega (arith, drop_effect-fits.short))
      ∙ (ap (λ (m : ℕ). cond (nat_lt k m) (Parameter k) Any) arity-drop ∙ ap (λ (t : Bool). cond t (Parameter k) Any) (lt-ltb k drop_effect-fits.predicate.arity h))

  -- the arguments' sorts are as many as the places
  sort-within : (k : ℕ) → k < drop_effect-fits.predicate.arity → slice_get (sorts_of s (Drop n)) k ≡ Some (slice_index drop_effect-fits.predicate.sorts k)
  sort-within k h = drop_effect-fits.places k k h (place-within k h)

  past-places : (k : ℕ) → length (sorts_of s (Drop n)) ≤ k → drop_effect-fits.predicate.arity ≤ k
  past-places k h = elim (cases_lt k drop_effect-fits.predicate.arity) [
    | inl within ↦ absurd (let inside : k < length (sorts_of s (Drop n)) = slice_get_within (sorts_of s (Drop n)) k _ (sort-within k within) in omega arith)
    | inr past ↦ past
  ]

  -- the element that the remove gives in a place
  given-within : (args : List ℕ) (k : ℕ) → k < drop_effect-fits.predicate.arity → given_at s args (drop_effect s.predicates b) k ≡ value_at args k
  given-within args k h = ap (λ (a : Arg). unwrap_or (stands_for s args a) 0) (place-within k h)

  given-past : (args : List ℕ) (k : ℕ) → drop_effect-fits.predicate.arity ≤ k → k < 3 → given_at s args (drop_effect s.predicates b) k ≡ 0
  given-past args k h l = ap (λ (a : Arg). unwrap_or (stands_for s args a) 0) (drop_effect-fits.unused k h l)

  module _ (universe : Universe) (f : Fact) (is : IsFact s universe f) (own : f.predicate ≡ b.predicate) where
    -- the fact's predicate is the bound's
    same-predicate : is.predicate ≡ drop_effect-fits.predicate
    same-predicate =
        let both : Some is.predicate ≡ Some drop_effect-fits.predicate = sym is.declared ∙ (ap (slice_get s.predicates) own ∙ drop_effect-fits.declared) in
        cc

    -- the fact's elements, among its arguments
    value-drop_args : (k : ℕ) → k < 3 → value_at (drop_args f) k ≡ value_at f.args k
    value-drop_args zero l = refl
    value-drop_args (suc zero) l = refl
    value-drop_args (suc (suc zero)) l = refl
    value-drop_args (suc (suc (suc k))) l = absurd (omega arith)

    place-same : (k : ℕ) → k < 3 → given_at s (drop_args f) (drop_effect s.predicates b) k ≡ value_at f.args k
    place-same k l = elim (cases_lt k drop_effect-fits.predicate.arity) [
      | inl within ↦ given-within (drop_args f) k within ∙ value-drop_args k l
      | inr past ↦ given-past (drop_args f) k past l ∙ sym (is.unused k (subst (λ (p : Predicate). p.arity ≤ k) (sym same-predicate) past))
    ]

    -- the drop with a fact's arguments removes that fact
    pub drop_fact-drop_args : drop_fact s b (drop_args f) ≡ f
    drop_fact-drop_args =
        let elements : (drop_fact s b (drop_args f)).args ≡ f.args =
        same_number_lists (drop_fact s b (drop_args f)).args f.args (sym is.width)
        (λ k l. three-at (given_at s (drop_args f) (drop_effect s.predicates b)) k l ∙ place-same k l) in
        λ i. record { predicate = sym own i; args = elements i }

    -- they are arguments over the universe of the fact
    pub IsArguments-drop_args : IsArguments s universe (Drop n) (drop_args f)
    IsArguments-drop_args = record {
      elements = λ v sort g. elim (cases_lt v drop_effect-fits.predicate.arity) [
        | inl within ↦
            let named : Some (slice_index drop_effect-fits.predicate.sorts v) ≡ Some sort = sym (sort-within v within) ∙ g in
            let one : slice_index drop_effect-fits.predicate.sorts v ≡ sort = cc in
            let less : value_at f.args v < size_of universe (slice_index is.predicate.sorts v) = is.elements v (subst (λ (p : Predicate). v < p.arity) (sym same-predicate) within) in
            let there : value_at f.args v < size_of universe sort =
            subst (λ (x : ℕ). value_at f.args v < size_of universe x) (ap (λ (p : Predicate). slice_index p.sorts v) same-predicate ∙ one) less in
            subst (λ (x : ℕ). x < size_of universe sort) (sym (value-drop_args v (omega (arith, drop_effect-fits.short)))) there
        | inr past ↦ absurd (no-sort v sort past g)
      ];
      unused = λ v past. unused-at v (past-places v past);
      width = refl;
    }
      where
        sorts-drop : sorts_of s (Drop n) ≡ take drop_effect-fits.predicate.arity drop_effect-fits.predicate.sorts
        sorts-drop =
            ap (λ (o : Option Bound). option_map_or (λ b. place_sorts s.predicates b.predicate) o []) declared
            ∙ ap (λ (o : Option Predicate). option_map_or (λ p. take p.arity p.sorts) o []) drop_effect-fits.declared

        no-sort : (v sort : ℕ) → drop_effect-fits.predicate.arity ≤ v → slice_get (sorts_of s (Drop n)) v ≡ Some sort → ⊥
        no-sort v sort past g =
            let listed : slice_get (take drop_effect-fits.predicate.arity drop_effect-fits.predicate.sorts) v ≡ Some sort =
            ap (λ (sorts : List ℕ). slice_get sorts v) (sym sorts-drop) ∙ g in
            let inside = (take_at drop_effect-fits.predicate.arity drop_effect-fits.predicate.sorts v sort listed).0 in
            omega arith

        unused-at : (v : ℕ) → drop_effect-fits.predicate.arity ≤ v → value_at (drop_args f) v ≡ 0
        unused-at zero past = is.unused 0 (subst (λ (p : Predicate). p.arity ≤ 0) (sym same-predicate) past)
        unused-at (suc zero) past = is.unused 1 (subst (λ (p : Predicate). p.arity ≤ 1) (sym same-predicate) past)
        unused-at (suc (suc zero)) past = is.unused 2 (subst (λ (p : Predicate). p.arity ≤ 2) (sym same-predicate) past)
        unused-at (suc (suc (suc zero))) past = refl
        unused-at (suc (suc (suc (suc v)))) past = refl

  -- a drop adds no fact
  pub drop_adds_nothing : (args : List ℕ) (f : Fact) → adds s (Drop n) args f ≡ false
  drop_adds_nothing args f =
      ap (λ (es : List Effect). some_gives s es args f) effects-drop
      ∙ none_of (gives s args f) b.removes (λ k e at. ap (λ (add : Bool). add && is_eq (fact_cmp (fact_given s args e) f)) (fit.drops_remove n k e b declared at))

  -- the remove of a drop matches its own fact in a place
  own-place : (args : List ℕ) (k : ℕ) → k < 3 → matches_at s args (drop_effect s.predicates b) (drop_fact s b args) k ≡ true
  own-place args k l = elim (cases_lt k drop_effect-fits.predicate.arity) [
    | inl within ↦
        ap (λ (a : Arg). option_map_or (λ x. x == slice_index (drop_fact s b args).args k) (stands_for s args a) true) (place-within k within)
        ∙ eq-eqb (value_at args k) (slice_index (drop_fact s b args).args k)
        (sym (three-at (given_at s args (drop_effect s.predicates b)) k l ∙ given-within args k within))
    | inr past ↦ ap (λ (a : Arg). option_map_or (λ x. x == slice_index (drop_fact s b args).args k) (stands_for s args a) true) (drop_effect-fits.unused k past l)
  ]

  -- a drop removes its own fact
  pub drop_removes_its_fact : (args : List ℕ) → removes s (Drop n) args (drop_fact s b args) ≡ true
  drop_removes_its_fact args =
      let f = drop_fact s b args in
      let own : matches s args (drop_effect s.predicates b) f ≡ true =
      and_from _ (matches_at s args (drop_effect s.predicates b) f 2)
      (and_from _ (matches_at s args (drop_effect s.predicates b) f 1)
      (and_from (b.predicate == b.predicate) (matches_at s args (drop_effect s.predicates b) f 0) (eq-eqb b.predicate b.predicate refl) (own-place args 0 (omega arith)))
      (own-place args 1 (omega arith))) (own-place args 2 (omega arith)) in
      let taken : some_takes s (effects_of s (Drop n)) args f ≡ true =
      ap (λ (es : List Effect). some_takes s es args f) effects-drop ∙ or_left (takes s args f (drop_effect s.predicates b)) (some_takes s b.removes args f) own in
      and_from (some_takes s (effects_of s (Drop n)) args f) (not (adds s (Drop n) args f)) taken (ap not (drop_adds_nothing args f))
