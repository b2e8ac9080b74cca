-- A history with one more transaction at its end.
--
--   at_place          a place within a list has an item
--   dots_there        a history has each number of an origin up to its count
--   CanFollow h t     the transaction may stand next in the history
--   push_cases        what stands in the longer list
--   IsHistory-push    the longer list is a history
use Rattle.std.proofs.Common.{◌≡◌, ℕ, zero, suc, ◌+◌, ◌<◌, ◌≤◌, Bool, true, false, cond, List, [], ◌∷◌, ◌++◌, length, refl, sym, ◌∙◌, ap, subst, arith, Some, None, slice_get, take, ◌⊎◌, inl, inr}
use Rattle.std.specs.Prelude.{◌==◌}
use Rattle.std.specs.List.{count_by}
use Rattle.std.proofs.lemmas.List.{take_all, take-append-le, length_push}
use Rattle.std.proofs.lemmas.Bool.{cases_lt, cases_Bool, eqb-true}
use Rattle.ipa_clock.specs.declared.dot.Dot.{Dot}
use Rattle.ipa_clock.specs.Cut.{count_of, Covers}
use Rattle.ipa_history.specs.Histories.{IsMember, number_of, StandsIn, IsHistory, IsClosed}
use Rattle.ipa_history.specs.MemberLaws.{member_cases, member_none, member-append_cases}
use Rattle.ipa_history.specs.HistoryLaws.{count_cons}
use Rattle.ipa_history.specs.declared.history.Tx.{Tx}

-- what stands in a place within the list
pub at_place : {X : Type 0} (xs : List X) (k : ℕ) → k < length xs → (x : X) × (slice_get xs k ≡ Some x)
at_place [] k l = absurd (omega arith)
at_place (x ∷ xs) zero l = (x, refl)
at_place (x ∷ xs) (suc k) l = at_place xs k (omega arith)

-- the count of a front, one further
count_more : {X : Type 0} (p : X → Bool) (xs : List X) (k : ℕ) (x : X) → slice_get xs k ≡ Some x →
    count_by p (take (suc k) xs) ≡ count_by p (take k xs) + cond (p x) 1 0
count_more p [] k x e = absurd (let s : None ≡ Some x = e in cc)
count_more p (y ∷ ys) zero x e =
    let s : Some y ≡ Some x = e in
    let t : y ≡ x = cc in
    let count : Bool → ℕ = λ b. cond b 1 0 in
    let same : count (p y) ≡ count (p x) = ap (λ (z : _). count (p z)) t in
    let one = count_cons p y [] in
    omega (arith, one, same)
count_more p (y ∷ ys) (suc k) x e =
    let rest = count_more p ys k x e in
    let low = count_cons p y (take k ys) in
    let high = count_cons p y (take (suc k) ys) in
    omega (arith, rest, low, high)

-- a member with this origin and number
pub record HasNumber (h : List Tx) (origin number : ℕ) : Type 0 where
  pub tx : Tx
  pub member : IsMember h tx
  pub origin_is : tx.dot.origin ≡ origin
  pub number_is : tx.dot.number ≡ number

module _ (h : List Tx) (is : IsHistory h) (origin number : ℕ) (some : 0 < number) where
  there_by : (k : ℕ) → k ≤ length h → number ≤ number_of origin (take k h) → HasNumber h origin number
  there_by zero l n = absurd (omega arith)
  there_by (suc k) l n = elim (cases_lt (number_of origin (take k h)) number) [
    | inr early ↦ there_by k (omega arith) early
    | inl late ↦
        let x = at_place h k (omega arith) in
        let more = count_more (λ (t : Tx). t.dot.origin == origin) h k x.0 x.1 in
        here k x.0 x.1 late n more (cases_Bool (x.0.dot.origin == origin))
  ]
    where
      here : (k : ℕ) (t : Tx) → slice_get h k ≡ Some t → number_of origin (take k h) < number →
          number ≤ number_of origin (take (suc k) h)
          → number_of origin (take (suc k) h) ≡ number_of origin (take k h) + cond (t.dot.origin == origin) 1 0
          → ((t.dot.origin == origin) ≡ true) ⊎ ((t.dot.origin == origin) ≡ false) → HasNumber h origin number
      here k t e late n more (inl same) =
          let o : t.dot.origin ≡ origin = eqb-true t.dot.origin origin same in
          let first = is.numbers k t e in
          let moved : number_of t.dot.origin (take k h) ≡ number_of origin (take k h) = ap
          (λ (x : ℕ). number_of x (take k h)) o in
          let count : Bool → ℕ = λ b. cond b 1 0 in
          let one : count (t.dot.origin == origin) ≡ count true = ap count same in
          record {
            tx = t;
            member = record { place = k; at = e };
            origin_is = o;
            number_is = omega
                (arith, late, n, more, first, moved, one);
          }
      here k t e late n more (inr other) =
          let count : Bool → ℕ = λ b. cond b 1 0 in
          let none : count (t.dot.origin == origin) ≡ count false = ap count other in
          absurd (omega (arith, late, n, more, none))

  -- a history has each number of an origin up to its count
  pub dots_there : number ≤ number_of origin h → HasNumber h origin number
  dots_there n = there_by (length h) (omega arith) (subst (λ (xs : List Tx). number ≤ number_of origin xs)
      (sym (take_all (length h) h (omega arith))) n)

-- the transaction may stand next in the history
pub record CanFollow (h : List Tx) (t : Tx) : Type 0 where
  pub room : length h + 1 < 4294967295
  pub origin : t.dot.origin < 16
  pub number : t.dot.number ≡ number_of t.dot.origin h + 1
  pub own : count_of t.cut t.dot.origin + 1 ≡ t.dot.number
  pub closed : IsClosed h t.cut

-- what stands in the longer list
pub push_cases : {X : Type 0} (xs : List X) (x : X) (k : ℕ) (y : X) → slice_get (xs ++ x ∷ []) k ≡ Some y →
    ((k < length xs) × (slice_get xs k ≡ Some y)) ⊎ ((k ≡ length xs) × (x ≡ y))
push_cases [] x zero y e = inr (refl, (let s : Some x ≡ Some y = e in cc))
push_cases [] x (suc k) y e = absurd (let s : None ≡ Some y = e in cc)
push_cases (z ∷ zs) x zero y e = inl (omega arith, e)
push_cases (z ∷ zs) x (suc k) y e = elim (push_cases zs x k y e) [
  | inl a ↦ inl (omega (arith, a.0), a.1)
  | inr b ↦ inr (omega (arith, b.0), b.1)
]

module _ (h : List Tx) (is : IsHistory h) (t : Tx) (follows : CanFollow h t) where
  pub front : (k : ℕ) → k ≤ length h → take k (h ++ t ∷ []) ≡ take k h
  front k l = take-append-le k h (t ∷ []) l

  pub whole : (k : ℕ) → k ≡ length h → take k (h ++ t ∷ []) ≡ h
  whole k e = front k (omega arith) ∙ take_all k h (omega arith)

  -- what the cut of the new one covers stands in the history
  covered_there : (d : Dot) → 0 < d.number → Covers t.cut d → StandsIn h d t.cut
  covered_there d some covers =
      let few = follows.closed.within d.origin in
      let there = dots_there h is d.origin d.number some (omega (arith, few)) in
      let dot : ℕ → ℕ → Dot = λ origin number. record { origin = origin; number = number } in
      let named : there.tx.dot ≡ d = ap (λ (o : ℕ). dot o there.tx.dot.number) there.origin_is
      ∙ ap (dot d.origin) there.number_is in
      record {
        tx = there.tx;
        member = there.member;
        named = named;
        below = follows.closed.below there.tx there.member (subst (λ (x : Dot). Covers t.cut x) (sym named) covers);
      }

  -- the longer list is a history
  pub IsHistory-push : IsHistory (h ++ t ∷ [])
  IsHistory-push = record {
    few = omega (arith, follows.room, length_push h t);
    origins = λ u m. elim (member-append_cases h (t ∷ []) u m) [
      | inl a ↦ is.origins u a
      | inr b ↦ elim (member_cases t [] u b) [
        | inl e ↦ subst (λ
            (x : Tx). x.dot.origin < 16) e follows.origin
        | inr none ↦ absurd (member_none u none)
      ]
    ];
    numbers = λ k u e. elim (push_cases h t k u e) [
      | inl a ↦ is.numbers k u a.1 ∙ ap (λ (xs : List Tx). number_of u.dot.origin xs + 1)
          (sym (front k (omega (arith, a.0))))
      | inr b ↦ subst (λ (x : Tx). x.dot.number ≡ number_of x.dot.origin (take k (h ++ t ∷ [])) + 1) b.1
          (follows.number ∙ ap (λ (xs : List Tx). number_of t.dot.origin xs + 1) (sym (whole k b.0)))
    ];
    own = λ u m. elim (member-append_cases h (t ∷ []) u m) [
      | inl a ↦ is.own u a
      | inr b ↦ elim (member_cases t [] u b) [
        | inl e ↦ subst (λ
            (x : Tx). count_of x.cut x.dot.origin + 1 ≡ x.dot.number) e follows.own
        | inr none ↦ absurd
            (member_none u none)
      ]
    ];
    seen = λ k u d e some covers. elim (push_cases h t k u e) [
      | inl a ↦ subst (λ (xs : List Tx). StandsIn xs d u.cut) (sym (front k (omega (arith, a.0))))
          (is.seen k u d a.1 some covers)
      | inr b ↦ subst (λ (xs : List Tx). StandsIn xs d u.cut) (sym (whole k b.0))
          (subst (λ (x : Tx). StandsIn h d x.cut) b.1 (covered_there d some
          (subst (λ (x : Tx). Covers x.cut d) (sym b.1) covers)))
    ];
  }
