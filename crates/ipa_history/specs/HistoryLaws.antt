-- What follows for the members of a history.
--
--   covers_covered, covered_covers   the test and the fact that a cut covers a dot
--   count_cons, count_push, count_grows   a count with one more in front, behind, and of a longer front
--   not_itself                no transaction is before itself
--   one_named                 two members with one dot are one
--   positive                  no member has the number 0
--   seen_earlier              a member that is before another stands before it
--   seen_below                and its cut is below the other's
--   IsClosedPart h ms         a part of the members that has with each all that are before it
--   Order-part                before is an order on such a part
--   closed_part               the members of a closed cut are one
--   closed_own                the members that are in a transaction's own cut
use Rattle.std.proofs.Common.{◌≡◌, ℕ, zero, suc, ◌+◌, ◌<◌, ◌≤◌, Bool, true, cond, List, [], ◌∷◌, ◌++◌, sym, ◌∙◌, ap, subst, arith, Some, None, slice_get, take, inl, inr}
use Rattle.std.specs.Prelude.{◌==◌}
use Rattle.std.specs.List.{count_by}
use Rattle.std.proofs.lemmas.List.Sums.{sum_by-cons}
use Rattle.std.proofs.lemmas.Bool.{eq-eqb, cases_order}
use Rattle.ipa_clock.specs.declared.dot.Dot.{Dot}
use Rattle.ipa_clock.specs.declared.cut.Cut.{Cut}
use Rattle.ipa_clock.specs.Cut.{is_covered, count_of, Covers, IsBelow}
use Rattle.ipa_clock.specs.Lemmas.{covered_covers as covered_covers-both}
use Rattle.ipa_history.specs.Histories.{IsMember, is_before, number_of, IsHistory, IsClosed, members_of}
use Rattle.ipa_history.specs.MemberLaws.{member_none, member-filter, filter_member, member_later}
use Rattle.ipa_history.specs.EffectLaws.{Order}
use Rattle.ipa_history.specs.declared.history.Tx.{Tx}

pub covers_covered : (c : Cut) (d : Dot) → Covers c d → is_covered c d ≡ true
covers_covered c d h = (covered_covers-both c d).1 h

pub covered_covers : (c : Cut) (d : Dot) → is_covered c d ≡ true → Covers c d
covered_covers c d h = (covered_covers-both c d).0 h

-- a member of a front is one of the list
pub member-take : {X : Type 0} (k : ℕ) (xs : List X) (y : X) → IsMember (take k xs) y → IsMember xs y
member-take zero xs y m = absurd (member_none y m)
member-take (suc k) [] y m = m
member-take (suc k) (x ∷ xs) y m = by_place m.place m.at (λ r. member-take k xs y r)
  where
    by_place : (j : ℕ) → slice_get (x ∷ take k xs) j ≡ Some y → (IsMember (take k xs) y → IsMember xs y) →
        IsMember (x ∷ xs) y
    by_place zero e rest = record { place = 0; at = e }
    by_place (suc j) e rest = member_later x xs y (rest (record { place = j; at = e }))

-- one more in front of a count
pub count_cons : {X : Type 0} (p : X → Bool) (x : X) (xs : List X) →
    count_by p (x ∷ xs) ≡ cond (p x) 1 0 + count_by p xs
count_cons p x xs = sum_by-cons (λ y. cond (p y) 1 0) x xs

-- one more behind a list counts where it passes
pub count_push : {X : Type 0} (p : X → Bool) (xs : List X) (x : X) →
    count_by p (xs ++ x ∷ []) ≡ count_by p xs + cond (p x) 1 0
count_push p [] x = let one = count_cons p x [] in omega (arith, one)
count_push p (y ∷ ys) x =
    let rest = count_push p ys x in
    let low = count_cons p y ys in
    let high = count_cons p y (ys ++ x ∷ []) in
    omega (arith, rest, low, high)

-- a count of a front grows past an item that passes
pub count_grows : {X : Type 0} (p : X → Bool) (xs : List X) (j k : ℕ) (x : X) → slice_get xs j ≡ Some x → p x ≡ true →
    j < k → count_by p (take j xs) < count_by p (take k xs)
count_grows p [] j k x e h l = absurd (let s : None ≡ Some x = e in cc)
count_grows p (y ∷ ys) j zero x e h l = absurd (omega arith)
count_grows p (y ∷ ys) zero (suc k) x e h l =
    let same : p y ≡ true = (let s : Some y ≡ Some x = e in let t : y ≡ x = cc in ap p t ∙ h) in
    let count : Bool → ℕ = λ b. cond b 1 0 in
    let one : count (p y) ≡ count true = ap count same in
    let whole = count_cons p y (take k ys) in
    omega (arith, one, whole)
count_grows p (y ∷ ys) (suc j) (suc k) x e h l =
    let less = count_grows p ys j k x e h (omega arith) in
    let low = count_cons p y (take j ys) in
    let high = count_cons p y (take k ys) in
    omega (arith, less, low, high)

-- no transaction with its own cut's next number is before itself
pub not_itself : (t : Tx) → count_of t.cut t.dot.origin + 1 ≡ t.dot.number → is_before t t ≡ true → ⊥
not_itself t own h = let c : t.dot.number ≤ count_of t.cut t.dot.origin = covered_covers t.cut t.dot h in absurd
    (omega arith)

module _ (h : List Tx) (is : IsHistory h) where
  later_other : (j k : ℕ) (t u : Tx) → slice_get h j ≡ Some t → slice_get h k ≡ Some u → j < k → t.dot ≡ u.dot → ⊥
  later_other j k t u et eu l e =
      let origin : t.dot.origin ≡ u.dot.origin = ap (λ (d : Dot). d.origin) e in
      let number : t.dot.number ≡ u.dot.number = ap (λ (d : Dot). d.number) e in
      let grows : number_of u.dot.origin (take j h) < number_of u.dot.origin (take k h)
      = count_grows (λ (v : Tx). v.dot.origin == u.dot.origin) h j k t et (eq-eqb t.dot.origin u.dot.origin origin) l in
      let first : t.dot.number ≡ number_of t.dot.origin (take j h) + 1 = is.numbers j t et in
      let here : number_of t.dot.origin (take j h) ≡ number_of u.dot.origin (take j h) = ap
      (λ (o : ℕ). number_of o (take j h)) origin in
      let second : u.dot.number ≡ number_of u.dot.origin (take k h) + 1 = is.numbers k u eu in
      omega (arith, grows, first, here, second, number)

  -- two members with one dot are one
  pub one_named : (t u : Tx) → IsMember h t → IsMember h u → t.dot ≡ u.dot → t ≡ u
  one_named t u mt mu e = elim (cases_order mt.place mu.place) [
    | inl same ↦ let s : Some t ≡ Some u = sym mt.at ∙ (ap (slice_get h) same ∙ mu.at) in cc
    | inr other ↦ elim other [
      | inl less ↦ absurd (later_other mt.place mu.place t u mt.at mu.at less e)
      | inr more ↦ absurd (later_other mu.place mt.place u t mu.at mt.at more (sym e))
    ]
  ]

  -- no member has the number 0
  pub positive : (t : Tx) → IsMember h t → 0 < t.dot.number
  positive t m = let o = is.own t m in omega (arith, o)

  -- what a member has seen stands before it
  pub seen_earlier : (k : ℕ) (t u : Tx) → slice_get h k ≡ Some t → IsMember h u → is_before u t ≡ true →
      IsMember (take k h) u
  seen_earlier k t u e mu b =
      let stands = is.seen k t u.dot e (positive u mu) (covered_covers t.cut u.dot b) in
      let same : stands.tx ≡ u = one_named stands.tx u (member-take k h stands.tx stands.member) mu stands.named in
      subst (λ (v : Tx). IsMember (take k h) v) same stands.member

  -- and has a cut below its own
  pub seen_below : (t u : Tx) → IsMember h t → IsMember h u → is_before u t ≡ true → IsBelow u.cut t.cut
  seen_below t u mt mu b =
      let stands = is.seen mt.place t u.dot mt.at (positive u mu) (covered_covers t.cut u.dot b) in
      let same : stands.tx ≡ u = one_named stands.tx u (member-take mt.place h stands.tx stands.member) mu stands.named in
      subst (λ (v : Tx). IsBelow v.cut t.cut) same stands.below

  pub before-along : (t u v : Tx) → IsMember h t → IsMember h u → IsMember h v → is_before t u ≡ true →
      is_before u v ≡ true → is_before t v ≡ true
  before-along t u v mt mu mv b c =
      let low : t.dot.number ≤ count_of u.cut t.dot.origin = covered_covers u.cut t.dot b in
      let below = seen_below v u mv mu c in
      covers_covered v.cut t.dot (omega (arith, low, below.counts t.dot.origin))

  -- a part of the members that has with each all that are before it
  pub record IsClosedPart (ms : List Tx) : Type 0 where
    pub inside : (u : Tx) → IsMember ms u → IsMember h u
    pub closed : (u v : Tx) → IsMember ms u → IsMember h v → is_before v u ≡ true → IsMember ms v

  pub Order-part : (ms : List Tx) → ((u : Tx) → IsMember ms u → IsMember h u) → Order is_before ms
  Order-part ms inside = record {
    itself = λ t m b. not_itself t (is.own t (inside t m)) b;
    along = λ t u v mt mu mv b c. before-along t u v (inside t mt) (inside u mu) (inside v mv) b c;
  }

  -- the members of a closed cut
  pub closed_part : (c : Cut) → IsClosed h c → IsClosedPart (members_of h c)
  closed_part c closed = record {
    inside = λ u m. let k = filter_member (λ (t : Tx). is_covered c t.dot) h u m in k.member;
    closed = λ u v mu mv b.
        let k = filter_member (λ (t : Tx). is_covered c t.dot) h u mu in
        let below = closed.below u k.member (covered_covers c u.dot k.passes) in
        let low : v.dot.number ≤ count_of u.cut v.dot.origin = covered_covers u.cut v.dot b in
        member-filter (λ (t : Tx). is_covered c t.dot) h v mv
        (covers_covered c v.dot (omega (arith, low, below.counts v.dot.origin)));
  }
