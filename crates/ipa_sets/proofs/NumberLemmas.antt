-- Lemmas for numbers in order.
use Rattle.std.proofs.Common.{◌≡◌, ℕ, ◌-◌, ◌<◌, ◌≤◌, List, [], ◌∷◌, ◌++◌, length, Some, None, slice_get, get_or, sym, ◌∙◌, subst, arith, inl, inr}
use Rattle.std.specs.List.Sorted.{IsNonDecreasing}
use Rattle.std.proofs.lemmas.Option.{slice_get_within, get_or_from_slice_get, slice_get-get_or}
use Rattle.std.proofs.lemmas.List.{get_or_default}
use Rattle.std.proofs.lemmas.Bool.{cases_lt}
use Rattle.ipa_history.specs.Histories.{IsMember}
use Rattle.ipa_history.specs.MemberLaws.{member-append_left, member-append_right, member-append_cases, member_first, member_cases, member_none}
use Rattle.ipa_sets.specs.Numbers.{AreUpTo, IsWith, greatest_upto}
use Rattle.ipa_sets.specs.NumberLaws.{greatest-only, greatest-is}

-- the number at a place is a member
pub member_at : (xs : List ℕ) (k d : ℕ) → k < length xs → IsMember xs (get_or xs k d)
member_at xs k d l = record { place = k; at = slice_get-get_or xs k d l }

-- a member stands at its place
pub member_place : (xs : List ℕ) (n d : ℕ) → (m : IsMember xs n) → (m.place < length xs) × (get_or xs m.place d ≡ n)
member_place xs n d m = (slice_get_within xs m.place n m.at, get_or_from_slice_get xs m.place n d m.at)

-- where numbers pass a bound at their start, none is up to it
pub none_passed : (bound : ℕ) (xs : List ℕ) → ((k d : ℕ) → k < length xs → bound < get_or xs k d) →
    None ≡ greatest_upto bound xs
none_passed bound xs above = greatest-only bound xs None (greatest_upto bound xs)
    (record {
      above = λ n m.
          let p = member_place xs n 0 m in
          let h = above m.place 0 p.0 in
          subst (λ (x : ℕ). bound < x) p.1 h;
    })
    (greatest-is bound xs)

-- else the greatest stands before the place where they pass it
pub last_passed : (bound : ℕ) (xs : List ℕ) (i : ℕ) → 0 < i → i ≤ length xs → IsNonDecreasing xs
    → ((k d : ℕ) → k < i → get_or xs k d ≤ bound) → ((k d : ℕ) → i ≤ k → k < length xs → bound < get_or xs k d)
    → slice_get xs (i - 1) ≡ greatest_upto bound xs
last_passed bound xs i some le sorted low high =
    let within : i - 1 < length xs = omega arith in
    slice_get-get_or xs (i - 1) 0 within
    ∙ greatest-only bound xs (Some (get_or xs (i - 1) 0)) (greatest_upto bound xs)
    (record {
      member = member_at xs (i - 1) 0 within;
      low = low (i - 1) 0 (omega arith);
      most = λ n m l.
          let p = member_place xs n 0 m in
          elim (cases_lt m.place i) [
            | inl before ↦ subst (λ (x : ℕ). x ≤ get_or xs (i - 1) 0) p.1 (sorted m.place (i - 1) 0 (omega arith) within)
            | inr after ↦ absurd (let h = high m.place 0 (omega arith) p.0 in let e = p.1 in omega (arith, h, e, l))
          ];
    })
    (greatest-is bound xs)

-- a number at the end is a member, and one that none is above stands at the end if it is a member
pub ends_with : (xs : List ℕ) (n last : ℕ) → IsNonDecreasing xs → AreUpTo xs n →
    slice_get xs (length xs - 1) ≡ Some last → IsMember xs n → last ≡ n
ends_with xs n last sorted up at m =
    let p = member_place xs n 0 m in
    let some = slice_get_within xs (length xs - 1) last at in
    let end : length xs - 1 < length xs = omega arith in
    let here = get_or_from_slice_get xs (length xs - 1) last 0 at in
    let most = up.low last (record { place = length xs - 1; at = at }) in
    let order = sorted m.place (length xs - 1) 0 (omega (arith, p.0)) end in
    let same = p.1 in
    omega (arith, here, most, order, same)

-- one more at the end
pub with_pushed : (xs ys : List ℕ) (n : ℕ) → ys ≡ xs ++ n ∷ [] → IsWith xs n ys
with_pushed xs ys n e = subst (λ (zs : List ℕ). IsWith xs n zs) (sym e) (record {
  kept = λ m k. member-append_left xs (n ∷ []) m k;
  added = member-append_right xs (n ∷ []) n (member_first n []);
  only = λ m k. elim (member-append_cases xs (n ∷ []) m k) [
    | inl a ↦ inl a
    | inr b ↦ elim (member_cases n [] m b) [ inl s ↦ inr (sym s) | inr none ↦ absurd (member_none m none) ]
  ];
})

-- none more, where it is there
pub with_itself : (xs : List ℕ) (n : ℕ) → IsMember xs n → IsWith xs n xs
with_itself xs n m = record { kept = λ k h. h; added = m; only = λ k h. inl h }

-- the last is not above one that none is above
pub end_low : (xs : List ℕ) (n d : ℕ) → AreUpTo xs n → 0 < length xs → get_or xs (length xs - 1) d ≤ n
end_low xs n d up some = up.low (get_or xs (length xs - 1) d) (member_at xs (length xs - 1) d (omega arith))

-- the last is the greatest, where it is not above the bound
pub last_greatest : (bound : ℕ) (xs : List ℕ) (last : ℕ) → IsNonDecreasing xs → slice_get xs (length xs - 1) ≡ Some last →
    last ≤ bound → Some last ≡ greatest_upto bound xs
last_greatest bound xs last sorted at low =
    let some = slice_get_within xs (length xs - 1) last at in
    let here : get_or xs (length xs - 1) 0 ≡ last = get_or_from_slice_get xs (length xs - 1) last 0 at in
    sym at ∙ last_passed bound xs (length xs) (omega (arith, some)) (omega arith) sorted
    (λ k d l.
    let k_is : get_or xs k d ≡ get_or xs k 0 = get_or_default xs k d 0 l in
    let most = sorted k (length xs - 1) 0 (omega arith) (omega (arith, some)) in
    omega (arith, k_is, most, here, low))
    (λ k d a l. absurd (omega (arith, a, l)))
