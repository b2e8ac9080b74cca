-- A transaction that comes next at its cut.
--
--   IsNext h t     each member of its cut has a cut below it, and it is the next of its origin there
--   IsMore-push    a list and one more at its end
--   not_above      it is before no member of its cut
--   Order-push     before is an order on the members of its cut with it added
use Rattle.std.proofs.Common.{◌≡◌, ◌+◌, true, List, [], ◌∷◌, ◌++◌, sym, subst, arith, inl, inr}
use Rattle.ipa_clock.specs.Cut.{is_covered, count_of, Covers, IsBelow}
use Rattle.ipa_history.specs.Histories.{IsMember, is_before, members_of}
use Rattle.ipa_history.specs.MemberLaws.{member_cases, member_first, member_none, filter_member, member-append_left, member-append_right, member-append_cases}
use Rattle.ipa_history.specs.EffectLaws.{IsMore, Order}
use Rattle.ipa_history.specs.HistoryLaws.{covered_covers, not_itself}
use Rattle.ipa_history.specs.declared.history.Tx.{Tx}

-- each member of the transaction's cut has a cut below it, and the transaction is the next of its origin
pub record IsNext (h : List Tx) (t : Tx) : Type 0 where
  pub below : (u : Tx) → IsMember h u → Covers t.cut u.dot → IsBelow u.cut t.cut
  pub own : count_of t.cut t.dot.origin + 1 ≡ t.dot.number

-- a list and one more
pub IsMore-push : (xs : List Tx) (t : Tx) → IsMore xs (xs ++ t ∷ []) t
IsMore-push xs t = record {
  old = λ u m. member-append_left xs (t ∷ []) u m;
  new = member-append_right xs (t ∷ []) t (member_first t []);
  only = λ u m. elim (member-append_cases xs (t ∷ []) u m) [
    | inl a ↦ inl a
    | inr b ↦ elim (member_cases t [] u b) [ inl e ↦ inr (sym e) | inr n ↦ absurd (member_none u n) ]
  ];
}

-- it is before no member of its own cut, and not before itself
pub not_above : (h : List Tx) (t : Tx) → IsNext h t → (u : Tx) → IsMember (members_of h t.cut ++ t ∷ []) u →
    is_before t u ≡ true → ⊥
not_above h t is u m b = elim ((IsMore-push (members_of h t.cut) t).only u m) [
  | inl a ↦
      let k = filter_member (λ (v : Tx). is_covered t.cut v.dot) h u a in
      let below = is.below u k.member (covered_covers t.cut u.dot k.passes) in
      let low = covered_covers u.cut t.dot b in
      absurd (omega (arith, low, below.counts t.dot.origin, is.own))
  | inr e ↦ not_itself t is.own (subst (λ (v : Tx). is_before t v ≡ true) e b)
]

-- before is an order on the members of its cut with it added
pub Order-push : (h : List Tx) (t : Tx) → IsNext h t → Order is_before (members_of h t.cut) →
    Order is_before (members_of h t.cut ++ t ∷ [])
Order-push h t is order = record {
  itself = λ u m b. elim (more.only u m) [
    | inl a ↦ order.itself u a b
    | inr e ↦ not_itself t is.own (subst (λ (x : Tx). is_before x x ≡ true) e b)
  ];
  along = λ u v w mu mv mw b c. elim (more.only u mu) [
    | inr e ↦ absurd (not_above h t is v mv (subst (λ (x : Tx). is_before x v ≡ true) e b))
    | inl one ↦ elim (more.only v mv) [
      | inr e ↦ absurd (not_above h t is w mw (subst (λ (x : Tx). is_before x w ≡ true) e c))
      | inl two ↦ elim (more.only w mw) [
        | inl three ↦ order.along u v w one two three b c
        | inr e ↦ let k = filter_member (λ (x : Tx). is_covered t.cut x.dot) h u one in subst
            (λ (x : Tx). is_before u x ≡ true) (sym e) k.passes
      ]
    ]
  ];
}
  where
    more : IsMore (members_of h t.cut) (members_of h t.cut ++ t ∷ []) t
    more = IsMore-push (members_of h t.cut) t
