-- The cut of a whole history.
--
--   IsClockOf h c          the cut counts the transactions of each origin
--   number_within          the number of a member is at most the count of its origin
--   clock-none             the empty cut is that of no transactions
--   clock-push             the cut raised by the transaction that follows is that of the longer history
--   clock-covers           it covers each member
--   clock-closed           it is closed
--   clock-members          its members are the whole history
--   one_clock              there is one
use Rattle.std.proofs.Common.{◌≡◌, ℕ, ◌+◌, ◌<◌, ◌≤◌, Bool, cond, ◌==◌, List, [], ◌∷◌, ◌++◌, length, take, replicate, refl, sym, ◌∙◌, ap, subst, arith, inl, inr}
use Rattle.std.proofs.lemmas.Bool.{cases_lt, cases_eq, eq-eqb, ne_eqb}
use Rattle.std.proofs.lemmas.List.{take_all, ext_get_or, get_or-replicate, length-set}
use Rattle.std.proofs.Math.ListN.{get_or-eq_default}
use Rattle.std.proofs.lemmas.Option.{slice_get_within}
use Rattle.ipa_clock.specs.declared.dot.Dot.{Dot}
use Rattle.ipa_clock.specs.declared.cut.Cut.{Cut}
use Rattle.ipa_clock.specs.Cut.{count_of, Covers, is_covered, IsBelow, empty, raised}
use Rattle.ipa_clock.specs.Lemmas.{count_of-raised_same, count_of-raised_other}
use Rattle.ipa_history.specs.Histories.{IsMember, IsHistory, IsClosed, number_of, members_of}
use Rattle.ipa_history.specs.HistoryLaws.{covers_covered, count_grows, count_push, member-take}
use Rattle.ipa_history.specs.MemberLaws.{filter_all}
use Rattle.ipa_history.specs.declared.history.Tx.{Tx}

-- the cut counts the transactions of each origin that the history has
pub record IsClockOf (h : List Tx) (c : Cut) : Type 0 where
  pub sized : length c.counts ≡ 16
  pub counts : (origin : ℕ) → count_of c origin ≡ number_of origin h

-- the number of a member is at most the count of its origin
pub number_within : (h : List Tx) → IsHistory h → (t : Tx) → IsMember h t → t.dot.number ≤ number_of t.dot.origin h
number_within h is t m =
    let inside = slice_get_within h m.place t m.at in
    let grows = count_grows (λ (u : Tx). u.dot.origin == t.dot.origin) h m.place (length h) t m.at
    (eq-eqb t.dot.origin t.dot.origin refl) inside in
    let whole : number_of t.dot.origin (take (length h) h) ≡ number_of t.dot.origin h =
    ap (number_of t.dot.origin) (take_all (length h) h (omega arith)) in
    let number = is.numbers m.place t m.at in
    omega (arith, grows, whole, number)

-- it covers each member
pub clock-covers : (h : List Tx) → IsHistory h → (c : Cut) → IsClockOf h c → (t : Tx) → IsMember h t → Covers c t.dot
clock-covers h is c clock t m =
    let low = number_within h is t m in
    let count = clock.counts t.dot.origin in
    omega (arith, low, count)

-- the dot of an origin and a number
abbrev dot_of : ℕ → ℕ → Dot
dot_of origin number = record { origin = origin; number = number }

-- the cut of a member is below it
below_clock : (h : List Tx) → IsHistory h → (c : Cut) → IsClockOf h c → (t : Tx) → IsMember h t → IsBelow t.cut c
below_clock h is c clock t m = record { counts = λ o. at o }
  where
    at : (o : ℕ) → count_of t.cut o ≤ count_of c o
    at o = elim (cases_lt 0 (count_of t.cut o)) [
      | inr none ↦ omega (arith, none)
      | inl some ↦
          let u = is.seen m.place t (dot_of o (count_of t.cut o)) m.at some (omega arith) in
          let low = clock-covers h is c clock u.tx (member-take m.place h u.tx u.member) in
          subst (λ (d : Dot). d.number ≤ count_of c d.origin) u.named low
    ]

-- it is closed
pub clock-closed : (h : List Tx) → IsHistory h → (c : Cut) → IsClockOf h c → IsClosed h c
clock-closed h is c clock = record {
  within = λ o. let count = clock.counts o in omega (arith, count);
  below = λ t m covers. below_clock h is c clock t m;
}

-- its members are the whole history
pub clock-members : (h : List Tx) → IsHistory h → (c : Cut) → IsClockOf h c → members_of h c ≡ h
clock-members h is c clock =
    filter_all (λ (t : Tx). is_covered c t.dot) h (λ t m. covers_covered c t.dot (clock-covers h is c clock t m))

-- there is one
pub one_clock : (h : List Tx) (c d : Cut) → IsClockOf h c → IsClockOf h d → c ≡ d
one_clock h c d one other =
    ap (λ (counts : List ℕ). cut_of counts)
    (ext_get_or 0 c.counts d.counts (one.sized ∙ sym other.sized) (λ i l. one.counts i ∙ sym (other.counts i)))
  where
    cut_of : List ℕ → Cut
    cut_of counts = record { counts = counts }

-- the empty cut is that of no transactions
pub clock-none : IsClockOf [] empty
clock-none = record { sized = refl; counts = λ o. none o }
  where
    none : (o : ℕ) → count_of empty o ≡ 0
    none o = elim (cases_lt o 16) [
      | inl low ↦ get_or-replicate 16 o 0 0 low
      | inr high ↦ get_or-eq_default (replicate 16 0) 0 (omega (arith, high))
    ]

-- the cut raised by the transaction that follows is that of the longer history
pub clock-push : (h : List Tx) (t : Tx) (c : Cut) → IsClockOf h c → t.dot.origin < 16 →
    t.dot.number ≡ number_of t.dot.origin h + 1 → IsClockOf (h ++ t ∷ []) (raised c t.dot)
clock-push h t c clock few number = record {
  sized = length-set c.counts t.dot.origin t.dot.number ∙ clock.sized;
  counts = λ o. at o;
}
  where
    here : t.dot.origin < length c.counts
    here = let sized = clock.sized in omega (arith, few, sized)

    at : (o : ℕ) → count_of (raised c t.dot) o ≡ number_of o (h ++ t ∷ [])
    at o = elim (cases_eq o t.dot.origin) [
      | inl same ↦
          let one : ◌≡◌ {A = ℕ} (cond (t.dot.origin == o) 1 0) 1 =
          ap (λ (b : Bool). cond b 1 0) (eq-eqb t.dot.origin o (sym same)) in
          let grows = count_push (λ (u : Tx). u.dot.origin == o) h t in
          let raised_here : count_of (raised c t.dot) o ≡ t.dot.number =
          ap (λ (x : ℕ). count_of (raised c t.dot) x) same ∙ count_of-raised_same c t.dot here in
          let before : number_of t.dot.origin h ≡ number_of o h = ap (λ (x : ℕ). number_of x h) (sym same) in
          omega (arith, one, grows, raised_here, before, number)
      | inr other ↦
          let none : ◌≡◌ {A = ℕ} (cond (t.dot.origin == o) 1 0) 0 =
          ap (λ (b : Bool). cond b 1 0) (ne_eqb t.dot.origin o (λ e. other (sym e))) in
          let grows = count_push (λ (u : Tx). u.dot.origin == o) h t in
          let stays = count_of-raised_other c t.dot o other in
          let before = clock.counts o in
          omega (arith, none, grows, stays, before)
    ]
