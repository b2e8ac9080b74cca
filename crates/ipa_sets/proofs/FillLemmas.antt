-- Loops that fill an array from its first place on.
use Rattle.std.proofs.Common.{◌≡◌, ℕ, zero, suc, ◌+◌, ◌<◌, ◌≤◌, Bool, false, List, [], ◌∷◌, length, map, refl, sym, ◌∙◌, ap, arith, Option, None, slice_get, inl, inr}
use Rattle.std.specs.Prelude.{slice_index_or, slice_set}
use Rattle.std.specs.List.{range_with_len}
use Rattle.std.specs.Option.{option_map_or}
use Rattle.std.proofs.lemmas.Bool.{cases_eq, cases_lt}
use Rattle.std.proofs.lemmas.List.{get_or_past, get_or-set_same, get_or-set_other, length-set}
use Rattle.std.proofs.lemmas.List.FromFn.{fill_by_all}
use Rattle.ipa_spec.specs.declared.predicates.Predicate.{Predicate}
use Rattle.ipa_spec.specs.declared.specification.Specification.{Specification}
use Rattle.ipa_logic.specs.Touches.{has_rule, is_add_wins}

-- the places before i have what f gives
pub record AreFilled {X : Type 0} (f : ℕ → X) (n : ℕ) (xs : List X) (i : ℕ) : Type 0 where
  pub wide : length xs ≡ n
  pub below : (k : ℕ) (d : X) → k < i → slice_index_or xs k d ≡ f k

pub fill-more : {X : Type 0} (f : ℕ → X) (n : ℕ) (xs : List X) (i : ℕ) (x : X) → i < n → x ≡ f i → AreFilled f n xs i → AreFilled f n (slice_set xs i x) (i + 1)
fill-more f n xs i x l e is = let wide = is.wide in record {
  wide = length-set xs i x ∙ wide;
  below = λ k d less. elim (cases_eq k i) [
    | inl same ↦ ap (λ (j : ℕ). slice_index_or (slice_set xs i x) j d) same ∙ (get_or-set_same xs i x d (omega (arith, l, wide)) ∙ (e ∙ sym (ap f same)))
    | inr other ↦ get_or-set_other xs i k x d other ∙ is.below k d (omega (arith, less, other))
  ];
}

pub fill-end : {X : Type 0} (f : ℕ → X) (n : ℕ) (xs : List X) (i : ℕ) (d : X) → n ≤ i → AreFilled f n xs i → xs ≡ map f (range_with_len 0 n)
fill-end f n xs i d l is = fill_by_all f xs n d is.wide (λ k less. is.below k d (omega (arith, less, l)))

-- there is nothing past the last place
get-past : {X : Type 0} (xs : List X) (i : ℕ) → length xs ≤ i → slice_get xs i ≡ None
get-past [] i l = refl
get-past (x ∷ xs) zero l = absurd (omega arith)
get-past (x ∷ xs) (suc i) l = get-past xs i (omega arith)

-- the rules of all predicates
pub rules-all : (s : Specification) → length s.predicates ≤ 32 → (xs : List Bool) (i : ℕ) → 256 ≤ i
    → AreFilled (λ (p : ℕ). has_rule is_add_wins s p) 256 xs i → (p : ℕ) → slice_index_or xs p false ≡ has_rule is_add_wins s p
rules-all s few xs i l is p = elim (cases_lt p 256) [
  | inl within ↦ is.below p false (omega (arith, within, l))
  | inr past ↦ let wide = is.wide in get_or_past xs p false (omega (arith, past, wide))
      ∙ sym (ap (λ (x : Option Predicate). option_map_or (λ q. is_add_wins q.rule) x false) (get-past s.predicates p (omega (arith, past, few))))
]
