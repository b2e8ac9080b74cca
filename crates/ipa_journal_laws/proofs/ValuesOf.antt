-- What names mean is over the sizes of the lists.
--
--   AreOver es sorts ns values   the values are over the sizes, and there is a name for each sort
--   values_over                  the values that names mean are so
use Rattle.std.proofs.Common.{◌≡◌, ℕ, zero, suc, ◌<◌, ◌≤◌, true, nat_le, List, [], ◌∷◌, length, Option, None, Some, refl, sym, ap, subst, arith, inl, inr}
use Rattle.std.specs.List.{slice_get, slice_index, slice_index_or}
use Rattle.std.proofs.lemmas.Bool.{cases_lt, leb-true}
use Rattle.std.proofs.lemmas.List.{get_or_past}
use Rattle.std.proofs.lemmas.Option.{same_Some, slice_get_past, slice_get_within}
use Rattle.ipa_spec.specs.Faults.{same_name}
use Rattle.ipa_spec.specs.declared.names.Name.{Name}
use Rattle.ipa_logic.specs.Truth.{IsOver}
use Rattle.ipa_reader.specs.Arrangements.{elements_at}
use Rattle.ipa_reader.specs.Setups.{size_list}
use Rattle.ipa_journal.specs.Naming.{four_of}
use Rattle.ipa_journal.specs.Meaning.{value_of, value_at, four_values, values_in}
use Rattle.ipa_journal_laws.proofs.Cases.{cond_some, position_within}
use Rattle.ipa_journal_laws.proofs.Named.{item_at}
use Rattle.ipa_journal_laws.proofs.Values.{AreSorts, size-known}

-- a place has a sort, a name and an element of it, or neither and 0
abbrev IsPlaced : List (List Name) → Option ℕ → Option Name → ℕ → Type 0
IsPlaced es (Some sort) (Some name) v = v < length (elements_at es sort)
IsPlaced es (Some sort) None v = ⊥
IsPlaced es None (Some name) v = ⊥
IsPlaced es None None v = v ≡ 0

placed_value : (es : List (List Name)) (o : Option ℕ) (w : Option Name) (v : ℕ) → value_of es o w ≡ Some v → IsPlaced es o w v
placed_value es None None v e = sym (same_Some 0 v e)
placed_value es None (Some w) v e = cc
placed_value es (Some sort) None v e = cc
placed_value es (Some sort) (Some w) v e = position_within (λ other. same_name other w) (elements_at es sort) v e

record AreFour (a b c d : Option ℕ) (values : List ℕ) : Type 0 where
  width : length values ≡ 4
  first : a ≡ Some (slice_index values 0)
  second : b ≡ Some (slice_index values 1)
  third : c ≡ Some (slice_index values 2)
  fourth : d ≡ Some (slice_index values 3)

four_are : (a b c d : Option ℕ) (values : List ℕ) → four_values a b c d ≡ Some values → AreFour a b c d values
four_are None b c d values e = cc
four_are (Some v) None c d values e = cc
four_are (Some v) (Some w) None d values e = cc
four_are (Some v) (Some w) (Some x) None values e = cc
four_are (Some v) (Some w) (Some x) (Some y) values e =
    let same = same_Some (v ∷ w ∷ x ∷ y ∷ []) values e in
    record {
      width = ap length (sym same);
      first = ap (λ vs. Some (slice_index vs 0)) same;
      second = ap (λ vs. Some (slice_index vs 1)) same;
      third = ap (λ vs. Some (slice_index vs 2)) same;
      fourth = ap (λ vs. Some (slice_index vs 3)) same;
    }

sort_of_place : (sorts : List ℕ) (k : ℕ) → k < 4 → slice_index_or (four_of sorts) k None ≡ slice_get sorts k
sort_of_place sorts zero l = refl
sort_of_place sorts (suc zero) l = refl
sort_of_place sorts (suc (suc zero)) l = refl
sort_of_place sorts (suc (suc (suc zero))) l = refl
sort_of_place sorts (suc (suc (suc (suc k)))) l = absurd (omega arith)

pub record AreOver (es : List (List Name)) (sorts : List ℕ) (ns : List Name) (values : List ℕ) : Type 0 where
  pub over : IsOver (size_list es) sorts values
  pub count : length ns ≡ length sorts

module _ (es : List (List Name)) (sorts : List ℕ) (short : length sorts ≤ 4) (known : AreSorts sorts) (ns : List Name) (values : List ℕ)
    (means : values_in es (four_of sorts) ns ≡ Some values) where
  parts : (nat_le (length ns) 4 ≡ true) × (four_values (value_at es (four_of sorts) ns 0) (value_at es (four_of sorts) ns 1) (value_at es (four_of sorts) ns 2) (value_at es (four_of sorts) ns 3) ≡ Some values)
  parts = cond_some (nat_le (length ns) 4) _ values means

  few : length ns ≤ 4
  few = leb-true (length ns) 4 parts.0

  four : AreFour (value_at es (four_of sorts) ns 0) (value_at es (four_of sorts) ns 1) (value_at es (four_of sorts) ns 2) (value_at es (four_of sorts) ns 3) values
  four = four_are _ _ _ _ values parts.1

  value_there : (k : ℕ) → k < 4 → value_at es (four_of sorts) ns k ≡ Some (slice_index values k)
  value_there zero l = four.first
  value_there (suc zero) l = four.second
  value_there (suc (suc zero)) l = four.third
  value_there (suc (suc (suc zero))) l = four.fourth
  value_there (suc (suc (suc (suc k)))) l = absurd (omega arith)

  at_place : (k : ℕ) → k < 4 → IsPlaced es (slice_get sorts k) (slice_get ns k) (slice_index values k)
  at_place k l = subst (λ o. IsPlaced es o (slice_get ns k) (slice_index values k)) (sort_of_place sorts k l) (placed_value es _ (slice_get ns k) (slice_index values k) (value_there k l))

  element_below : (o : Option ℕ) (w : Option Name) (v sort : ℕ) → IsPlaced es o w v → o ≡ Some sort → v < length (elements_at es sort)
  element_below (Some own) (Some name) v sort h e = subst (λ k. v < length (elements_at es k)) (same_Some own sort e) h
  element_below (Some own) None v sort h e = absurd h
  element_below None w v sort h e = cc

  none_zero : (o : Option ℕ) (w : Option Name) (v : ℕ) → IsPlaced es o w v → o ≡ None → v ≡ 0
  none_zero (Some own) w v h e = cc
  none_zero None (Some name) v h e = absurd h
  none_zero None None v h e = h

  -- a sort and a name stand in the same places
  sort_named : (o : Option ℕ) (w : Option Name) (v sort : ℕ) → IsPlaced es o w v → o ≡ Some sort → w ≡ None → ⊥
  sort_named (Some own) (Some name) v sort h e none = cc
  sort_named (Some own) None v sort h e none = h
  sort_named None w v sort h e none = cc

  name_sorted : (o : Option ℕ) (w : Option Name) (v : ℕ) (name : Name) → IsPlaced es o w v → w ≡ Some name → o ≡ None → ⊥
  name_sorted (Some own) w v other h e none = cc
  name_sorted None (Some name) v other h e none = h
  name_sorted None None v other h e none = cc

  no_fewer : length ns < length sorts → ⊥
  no_fewer l =
      let it = item_at sorts (length ns) l in
      sort_named _ _ _ it.0 (at_place (length ns) (omega (arith, l, short))) it.1 (slice_get_past ns (length ns) (omega arith))

  no_more : length sorts < length ns → ⊥
  no_more l =
      let it = item_at ns (length sorts) l in
      name_sorted _ _ _ it.0 (at_place (length sorts) (omega (arith, l, few))) it.1 (slice_get_past sorts (length sorts) (omega arith))

  pub values_over : AreOver es sorts ns values
  values_over = record {
    over = record {
      elements = λ v sort at.
          let place = slice_get_within sorts v sort at in
          let below = element_below _ _ _ sort (at_place v (omega (arith, place, short))) at in
          omega (arith, below, size-known es sort (known v sort at));
      unused = λ v past.
          elim (cases_lt v 4) [
            | inl low ↦ none_zero _ _ _ (at_place v low) (slice_get_past sorts v past)
            | inr high ↦ get_or_past values v 0 (omega (arith, high, four.width))
          ];
      width = four.width;
    };
    count =
        elim (cases_lt (length ns) (length sorts)) [
          | inl fewer ↦ absurd (no_fewer fewer)
          | inr enough ↦
              elim (cases_lt (length sorts) (length ns)) [
                | inl more ↦ absurd (no_more more)
                | inr same ↦ omega (arith, enough, same)
              ]
        ];
  }
