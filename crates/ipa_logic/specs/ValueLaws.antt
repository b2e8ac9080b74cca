-- Laws of values that are filled place by place, over any test of values.
--
--   over-done       with a value for each variable the values are whole
--   same-done       and no others agree with them
--   partial-next    one more variable has a value
--   agrees-next     values that agree so far, and have the element in the place, agree one place further
--   agrees-before   what agrees one place further agrees so far
--   earlier-next    earlier values that agree so far have a lesser element in the place, or agree one place further
--   not_earlier     values are not earlier than themselves
use Rattle.std.proofs.Common.{◌≡◌, ℕ, ◌+◌, ◌<◌, ◌≤◌, ◌≢◌, ◌⊎◌, List, length, sym, ◌∙◌, ap, subst, arith, Some, slice_get, inl, inr, get_or-set_other, get_or-set_same}
use Rattle.std.proofs.lemmas.List.{length-set}
use Rattle.std.proofs.lemmas.Option.{slice_get_within}
use Rattle.std.proofs.lemmas.Bool.{cases_lt, cases_eq}
use Rattle.std.proofs.lemmas.Grind.{same_number_lists}
use Rattle.std.specs.List.{slice_set}
use Rattle.ipa_logic.specs.Facts.{Universe, size_of}
use Rattle.ipa_logic.specs.Truth.{value_at, IsOver, IsEarlier}
use Rattle.ipa_logic.specs.Values.{IsPartial, Agrees}

module _ (universe : Universe) (sorts : List ℕ) where
  -- with a value for each variable the values are whole
  pub over-done : (values : List ℕ) (place : ℕ) → IsPartial universe sorts values place → length sorts ≤ place → IsOver universe sorts values
  over-done values place h e = record {
    elements = λ v sort g. let w : v < length sorts = slice_get_within sorts v sort g in h.elements v sort (omega arith) g;
    unused = λ v past. h.unused v (omega (arith, h.within));
    width = h.width;
  }

  -- and no others agree with them
  pub same-done : (values : List ℕ) (place : ℕ) → IsPartial universe sorts values place → length sorts ≤ place
      → (v : List ℕ) → IsOver universe sorts v → Agrees place v values → v ≡ values
  same-done values place h e v o a = same_number_lists v values (o.width ∙ sym h.width) (λ k l. elim (cases_lt k place) [
    | inl lt ↦ a k lt
    | inr ge ↦ o.unused k (omega arith) ∙ sym (h.unused k ge)
  ])

  -- one more variable has a value
  pub partial-next : (values : List ℕ) (place sort x : ℕ) → IsPartial universe sorts values place → place < 4 → slice_get sorts place ≡ Some sort → x < size_of universe sort
      → IsPartial universe sorts (slice_set values place x) (place + 1)
  partial-next values place sort x h short g l = record {
    within = let w : place < length sorts = slice_get_within sorts place sort g in omega arith;
    elements = λ v other below at. elim (cases_eq v place) [
      | inl e ↦ let same : other ≡ sort = let both : Some other ≡ Some sort = sym at ∙ (ap (slice_get sorts) e ∙ g) in (cc) in
          let inside : place < length values = omega (arith, h.width) in
          rw (e, get_or-set_same values place x 0 inside, same) l
      | inr ne ↦ rw (get_or-set_other values place v x 0 ne) (h.elements v other (omega arith) at)
    ];
    unused = λ v past. let ne : v ≢ place = omega arith in get_or-set_other values place v x 0 ne ∙ h.unused v (omega arith);
    width = length-set values place x ∙ h.width;
  }

module _ (values : List ℕ) where
  -- values that agree so far, and have the element in the place, agree one place further
  pub agrees-next : (v : List ℕ) (place x : ℕ) → place < length values → Agrees place v values → value_at v place ≡ x → Agrees (place + 1) v (slice_set values place x)
  agrees-next v place x inside a e k l = elim (cases_eq k place) [
    | inl same ↦ rw (same, get_or-set_same values place x 0 inside) e
    | inr ne ↦ a k (omega arith) ∙ sym (get_or-set_other values place k x 0 ne)
  ]

  -- what agrees one place further agrees so far
  pub agrees-before : (v : List ℕ) (place x : ℕ) → Agrees (place + 1) v (slice_set values place x) → Agrees place v values
  agrees-before v place x a k l = let ne : k ≢ place = omega arith in a k (omega arith) ∙ get_or-set_other values place k x 0 ne

  -- earlier values that agree so far have a lesser element in the place, or agree one place further
  pub earlier-next : (r v : List ℕ) (place x : ℕ) → place < length values → Agrees (place + 1) r (slice_set values place x) → Agrees place v values → IsEarlier v r
      → (value_at v place < x) ⊎ Agrees (place + 1) v (slice_set values place x)
  earlier-next r v place x inside f a w =
      let here : value_at r place ≡ x = f place (omega arith) ∙ get_or-set_same values place x 0 inside in
      elim (cases_lt w.place place) [
        | inl lt ↦ absurd (let s : value_at v w.place ≡ value_at r w.place = a w.place lt ∙ sym (agrees-before r place x f w.place lt) in omega (arith, w.less))
        | inr ge ↦ elim (cases_eq w.place place) [
          | inl same ↦ inl (let less : value_at v place < value_at r place = subst (λ (q : ℕ). value_at v q < value_at r q) same w.less in omega arith)
          | inr ne ↦ inr (agrees-next v place x inside a (w.same place (omega arith) ∙ here))
        ]
      ]

-- values are not earlier than themselves
pub not_earlier : (v w : List ℕ) → v ≡ w → IsEarlier v w → ⊥
not_earlier v w e h = let here : value_at v h.place ≡ value_at w h.place = ap (λ (u : List ℕ). value_at u h.place) e in omega (arith, h.less)
