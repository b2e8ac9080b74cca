-- Counts of instances, and the state that facts make.
--
--   count_is      the number of values of at most four variables
--   sum_more      a sum with one more item
--   state_more    the state with one more fact
use Rattle.std.proofs.Common.{◌≡◌, ℕ, ◌+◌, ◌*◌, ◌<◌, ◌≤◌, Bool, true, false, ◌||◌, List, [], ◌∷◌, ◌++◌, length, take, refl, sym, ap, ◌∙◌, arith}
use Rattle.std.specs.List.{slice_get, slice_index_or, sum_by}
use Rattle.std.specs.Option.{option_map_or}
use Rattle.std.specs.Ordering.{is_eq}
use Rattle.std.proofs.lemmas.List.{take_more}
use Rattle.std.proofs.lemmas.List.Sums.{sum_by-append}
use Rattle.ipa_logic.specs.FactLaws.{same-turned, has-append}
use Rattle.ipa_logic.specs.Facts.{size_of, fact_cmp, has, IsRising, IsStateOf}
use Rattle.ipa_logic.specs.declared.facts.Fact.{Fact}
use Rattle.ipa_reader.specs.Setups.{value_count}

-- the number of elements of a sort in a place, and 1 where there is none
abbrev pub size_in : List ℕ → List ℕ → ℕ → ℕ
size_in sizes sorts place = option_map_or (size_of sizes) (slice_get sorts place) 1

pub count_is : (sizes sorts : List ℕ) → length sorts ≤ 4 → value_count sizes sorts ≡ ((1 * size_in sizes sorts 0) * size_in sizes sorts 1) * size_in sizes sorts 2 * size_in sizes sorts 3
count_is sizes [] l = refl
count_is sizes (a ∷ []) l = omega arith
count_is sizes (a ∷ b ∷ []) l = omega arith
count_is sizes (a ∷ b ∷ c ∷ []) l = omega arith
count_is sizes (a ∷ b ∷ c ∷ d ∷ []) l = refl
count_is sizes (a ∷ b ∷ c ∷ d ∷ e ∷ sorts) l = absurd (omega arith)

pub sum_more : {X : Type 0} (f : X → ℕ) (xs : List X) (i : ℕ) (x : X) (total value : ℕ) → i < length xs → x ≡ slice_index_or xs i x → total ≡ sum_by f (take i xs) → value ≡ f x → total + value ≡ sum_by f (take (i + 1) xs)
sum_more f xs i x total value lt at before made =
    let front : take (i + 1) xs ≡ take i xs ++ x ∷ [] = take_more xs i x lt ∙ ap (λ z. take i xs ++ z ∷ []) (sym at) in
    let whole = sum_by-append f (take i xs) (x ∷ []) in
    omega (arith, ap (sum_by f) front, whole, before, made)

or_swap : (a b : Bool) → (a || b) ≡ (b || (a || false))
or_swap true true = refl
or_swap true false = refl
or_swap false true = refl
or_swap false false = refl

pub state_more : (facts : List Fact) (i : ℕ) (past : Fact) (old new : List Fact) → i < length facts →
    IsStateOf (has (take i facts)) old → IsRising new →
    ((f : Fact) → has new f ≡ (is_eq (fact_cmp (slice_index_or facts i past) f) || has old f)) →
    IsStateOf (has (take (i + 1) facts)) new
state_more facts i past old new within before rising more = record {
  rising = rising;
  facts = λ f.
      let x = slice_index_or facts i past in
      more f
      ∙ ap (λ b. is_eq (fact_cmp x f) || b) (before.facts f)
      ∙ ap (λ b. b || has (take i facts) f) (same-turned x f)
      ∙ or_swap (is_eq (fact_cmp f x)) (has (take i facts) f)
      ∙ sym (has-append (take i facts) (x ∷ []) f)
      ∙ ap (λ all. has all f) (sym (take_more facts i past within));
}
