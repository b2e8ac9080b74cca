-- What a log has beyond a history that is part of it.
use Rattle.std.proofs.Common.{◌≡◌, ℕ, zero, suc, ◌<◌, ◌≤◌, Bool, true, false, not, cond, List, [], ◌∷◌, ◌++◌, length, filter, take, drop, refl, sym, ◌∙◌, ap, subst, arith, Some, None, slice_get, inl, inr, append_assoc, append-nil}
use Rattle.std.specs.Prelude.{◌==◌}
use Rattle.std.specs.List.{list_any}
use Rattle.std.proofs.lemmas.Bool.{cases_lt, cases_Bool, false≢true, and_from, eq-eqb, both_ways}
use Rattle.std.proofs.lemmas.List.{take_all}
use Rattle.ipa_clock.specs.declared.dot.Dot.{Dot}
use Rattle.ipa_clock.specs.declared.cut.Cut.{Cut}
use Rattle.ipa_clock.specs.Cut.{is_covered, count_of, Covers}
use Rattle.ipa_spec.specs.declared.specification.Specification.{Specification}
use Rattle.ipa_logic.specs.Facts.{Universe}
use Rattle.ipa_logic.specs.declared.facts.Fact.{Fact}
use Rattle.ipa_history.specs.Histories.{IsMember, IsHistory, number_of, StandsIn}
use Rattle.ipa_history.specs.Legality.{IsLegalHistory}
use Rattle.ipa_history.specs.MemberLaws.{member_first, member_later, member-append_left, member-append_right, member-append_cases, member-filter, filter_member, found, any_from, same_bool}
use Rattle.ipa_history.specs.HistoryLaws as histories
use Rattle.ipa_history.specs.HistoryLaws.{covered_covers, covers_covered, count_grows, member-take}
use Rattle.ipa_history.specs.PushLaws.{at_place, CanFollow, dots_there}
use Rattle.ipa_history.specs.Clocks.{number_within}
use Rattle.ipa_history.specs.declared.history.Tx.{Tx}
use Rattle.ipa_lift.specs.CutLaws.{Agree, IsLegal-agree}
use Rattle.ipa_lift.specs.FewDrops.{no_more}
use Rattle.ipa_lift.specs.FollowLaws.{IsLegalHistory-push}
use Rattle.ipa_lift.specs.StandingLaws.{is_named, named_itself, named_same}
use Rattle.ipa_gate.specs.Agreements.{HasAll, lacks, news_of, IsReadTo, IsCoveredTo}
use Rattle.ipa_gate.specs.Fronts.{filter-later}

-- tests that agree on the members keep the same
pub filter-same : {X : Type 0} (p q : X → Bool) (xs : List X) → ((x : X) → IsMember xs x → p x ≡ q x) →
    filter p xs ≡ filter q xs
filter-same p q [] same = refl
filter-same p q (x ∷ xs) same =
    ap (λ (b : Bool). cond b (x ∷ filter p xs) (filter p xs)) (same x (member_first x xs))
    ∙ ap (λ (ys : List _). cond (q x) (x ∷ ys) ys) (filter-same p q xs (λ y m. same y (member_later x xs y m)))

-- one more of a filtered front
filter_next : {X : Type 0} (p : X → Bool) (xs : List X) (k : ℕ) (x : X) → slice_get xs k ≡ Some x →
    filter p (take (suc k) xs) ≡ filter p (take k xs) ++ cond (p x) (x ∷ []) []
filter_next p [] k x e = absurd (let s : None ≡ Some x = e in cc)
filter_next p (y ∷ ys) zero x e =
    let s : Some y ≡ Some x = e in
    let t : y ≡ x = cc in
    ap (λ (z : _). cond (p z) (z ∷ []) []) t
filter_next p (y ∷ ys) (suc k) x e = by_test (p y) (filter_next p ys k x e)
  where
    by_test : (b : Bool) → filter p (take (suc k) ys) ≡ filter p (take k ys) ++ cond (p x) (x ∷ []) [] →
        cond b (y ∷ filter p (take (suc k) ys)) (filter p (take (suc k) ys))
        ≡ cond b (y ∷ filter p (take k ys)) (filter p (take k ys)) ++ cond (p x) (x ∷ []) []
    by_test true rest = ap (λ (zs : List _). y ∷ zs) rest
    by_test false rest = rest

-- a transaction stands in one place
one_place : (h : List Tx) → IsHistory h → (j k : ℕ) (t : Tx) → slice_get h j ≡ Some t → slice_get h k ≡ Some t →
    j < k → ⊥
one_place h is j k t ej ek l =
    let grows = count_grows (λ (v : Tx). v.dot.origin == t.dot.origin) h j k t ej
    (eq-eqb t.dot.origin t.dot.origin refl) l in
    let first = is.numbers j t ej in
    let second = is.numbers k t ek in
    omega (arith, grows, first, second)

-- a member of a front stands in a place before its end
not_in_front : (k : ℕ) (h : List Tx) (t : Tx) → slice_get h k ≡ Some t →
    ((j : ℕ) → slice_get h j ≡ Some t → j < k → ⊥) → IsMember (take k h) t → ⊥
not_in_front k h t at none m = none m.place (in_whole k h m.place t m.at) (before k h m.place t m.at)
  where
    in_whole : (n : ℕ) (xs : List Tx) (j : ℕ) (x : Tx) → slice_get (take n xs) j ≡ Some x → slice_get xs j ≡ Some x
    in_whole zero xs j x e = absurd (let s : None ≡ Some x = e in cc)
    in_whole (suc n) [] j x e = e
    in_whole (suc n) (y ∷ ys) zero x e = e
    in_whole (suc n) (y ∷ ys) (suc j) x e = in_whole n ys j x e

    before : (n : ℕ) (xs : List Tx) (j : ℕ) (x : Tx) → slice_get (take n xs) j ≡ Some x → j < n
    before zero xs j x e = absurd (let s : None ≡ Some x = e in cc)
    before (suc n) [] j x e = absurd (let s : None ≡ Some x = e in cc)
    before (suc n) (y ∷ ys) zero x e = omega arith
    before (suc n) (y ∷ ys) (suc j) x e = let l = before n ys j x e in omega (arith, l)

-- the dot of an origin and a number
abbrev dot_of : ℕ → ℕ → Dot
dot_of origin number = record { origin = origin; number = number }

same_dot : (d : Dot) (origin number : ℕ) → d.origin ≡ origin → d.number ≡ number → d ≡ dot_of origin number
same_dot d origin number o n = ap (λ (x : ℕ). dot_of x d.number) o ∙ ap (λ (x : ℕ). dot_of origin x) n

-- what the clock of a history covers is what it has
pub covered-named : (seen : List Tx) (clock : Cut) → IsHistory seen →
    ((o : ℕ) → o < 16 → count_of clock o ≡ number_of o seen) → (t : Tx) → 0 < t.dot.number → t.dot.origin < 16 →
    is_covered clock t.dot ≡ list_any (λ u. is_named u t) seen
covered-named seen clock is counts t positive low = same_bool (is_covered clock t.dot) (list_any (λ u. is_named u t) seen) there back
  where
    there : is_covered clock t.dot ≡ true → list_any (λ u. is_named u t) seen ≡ true
    there h =
        let covers : t.dot.number ≤ count_of clock t.dot.origin = covered_covers clock t.dot h in
        let count = counts t.dot.origin low in
        let u = dots_there seen is t.dot.origin t.dot.number positive (omega (arith, covers, count)) in
        any_from (λ v. is_named v t) seen u.tx u.member
        (and_from (u.tx.dot.origin == t.dot.origin) (u.tx.dot.number == t.dot.number)
        (eq-eqb u.tx.dot.origin t.dot.origin u.origin_is) (eq-eqb u.tx.dot.number t.dot.number u.number_is))

    back : list_any (λ u. is_named u t) seen ≡ true → is_covered clock t.dot ≡ true
    back h =
        let f = found (λ u. is_named u t) seen h in
        let same : f.one.dot ≡ t.dot = named_same f.one t f.passes in
        let few = number_within seen is f.one f.member in
        let number : f.one.dot.number ≡ t.dot.number = ap (λ (d : Dot). d.number) same in
        let moved : number_of f.one.dot.origin seen ≡ number_of t.dot.origin seen =
        ap (λ (d : Dot). number_of d.origin seen) same in
        let count = counts t.dot.origin low in
        covers_covered clock t.dot (omega (arith, few, number, moved, count))

-- so what the clock leaves uncovered is the news
pub news-uncovered : (h seen : List Tx) (clock : Cut) → IsHistory h → IsHistory seen →
    ((o : ℕ) → o < 16 → count_of clock o ≡ number_of o seen) →
    filter (λ t. not (is_covered clock t.dot)) h ≡ news_of h seen
news-uncovered h seen clock is known counts =
    filter-same (λ t. not (is_covered clock t.dot)) (lacks seen) h
    (λ t m. ap not (covered-named seen clock known counts t (histories.positive h is t m) (is.origins t m)))

-- where the first n entries were seen, the clock covers them
pub read-covered : (h seen : List Tx) (clock : Cut) → IsHistory h → IsHistory seen →
    ((o : ℕ) → o < 16 → count_of clock o ≡ number_of o seen) → (n : ℕ) → IsReadTo h seen n → IsCoveredTo h clock n
read-covered h seen clock is known counts n read = record {
  within = read.within;
  each = λ k t l at.
      let m : IsMember h t = record { place = k; at = at } in
      covered-named seen clock known counts t (histories.positive h is t m) (is.origins t m)
      ∙ any_from (λ u. is_named u t) seen t (read.each k t l at) (named_itself t);
}

-- where the cut covers the first n entries, what it leaves uncovered is among the later ones
pub uncovered-later : (h : List Tx) (cut : Cut) (n : ℕ) → IsCoveredTo h cut n →
    filter (λ t. not (is_covered cut t.dot)) (drop n h) ≡ filter (λ t. not (is_covered cut t.dot)) h
uncovered-later h cut n covered =
    filter-later (λ t. not (is_covered cut t.dot)) h n (λ k t l at. ap not (covered.each k t l at))

-- so what the clock leaves uncovered of them is the news
pub news-are : (h seen later items : List Tx) (clock : Cut) → IsHistory h → IsHistory seen →
    ((o : ℕ) → o < 16 → count_of clock o ≡ number_of o seen) → (n : ℕ) → IsReadTo h seen n → later ≡ drop n h →
    items ≡ filter (λ t. not (is_covered clock t.dot)) later → items ≡ news_of h seen
news-are h seen later items clock is known counts n read later_is items_are =
    items_are
    ∙ (ap (λ (xs : List Tx). filter (λ t. not (is_covered clock t.dot)) xs) later_is
    ∙ (uncovered-later h clock n (read-covered h seen clock is known counts n read)
    ∙ news-uncovered h seen clock is known counts))

-- a member that is not lacking was seen
was_seen : (h seen : List Tx) → IsHistory h → HasAll h seen → (t : Tx) → IsMember h t → lacks seen t ≡ false →
    IsMember seen t
was_seen h seen is all t m has =
    let f = found (λ u. is_named u t) seen (named_from (list_any (λ u. is_named u t) seen) has) in
    let same = histories.one_named h is f.one t (all.each f.one f.member) m (named_same f.one t f.passes) in
    subst (λ (x : Tx). IsMember seen x) same f.member
  where
    named_from : (b : Bool) → not b ≡ false → b ≡ true
    named_from true e = refl
    named_from false e = absurd (false≢true (sym e))

-- what was seen, followed by the news, has all entries
pub news-all : (h seen : List Tx) → IsHistory h → HasAll h seen → HasAll (seen ++ news_of h seen) h
news-all h seen is all = record {
  each = λ t m. elim (cases_Bool (lacks seen t)) [
    | inl lacking ↦ member-append_right seen (news_of h seen) t (member-filter (lacks seen) h t m lacking)
    | inr has ↦ member-append_left seen (news_of h seen) t (was_seen h seen is all t m has)
  ];
}

module _ (s : Specification) (universe : Universe) (base : List Fact) (h seen : List Tx)
    (legal : IsLegalHistory s universe base h) (few : length h ≤ 65536)
    (known : IsLegalHistory s universe base seen) (all : HasAll h seen) where
  -- what was seen, and the news among the first k entries
  abbrev front : ℕ → List Tx
  front k = seen ++ news_of (take k h) seen

  there : (k : ℕ) (t : Tx) → IsMember (front k) t → IsMember h t
  there k t m = elim (member-append_cases seen (news_of (take k h) seen) t m) [
    | inl a ↦ all.each t a
    | inr b ↦ let kept = filter_member (lacks seen) (take k h) t b in member-take k h t kept.member
  ]

  not_seen : (t : Tx) → lacks seen t ≡ true → IsMember seen t → ⊥
  not_seen t lacking m =
      both_ways (lacks seen t) (ap not (any_from (λ u. is_named u t) seen t m (named_itself t))) lacking

  inside : (k : ℕ) (t : Tx) → IsMember (take k h) t → IsMember (front k) t
  inside k t m = elim (cases_Bool (lacks seen t)) [
    | inl lacking ↦ member-append_right seen (news_of (take k h) seen) t (member-filter (lacks seen) (take k h) t m lacking)
    | inr has ↦ member-append_left seen (news_of (take k h) seen) t
        (was_seen h seen legal.history all t (member-take k h t m) has)
  ]

  module _ (k : ℕ) (t : Tx) (at : slice_get h k ≡ Some t) (lacking : lacks seen t ≡ true)
      (is : IsLegalHistory s universe base (front k)) where
    member : IsMember h t
    member = record { place = k; at = at }

    -- it is not among them
    new : IsMember (front k) t → ⊥
    new m = elim (member-append_cases seen (news_of (take k h) seen) t m) [
      | inl a ↦ not_seen t lacking a
      | inr b ↦
          let kept = filter_member (lacks seen) (take k h) t b in
          earlier kept.member
    ]
      where
        earlier : IsMember (take k h) t → ⊥
        earlier m = not_in_front k h t at (λ j e l. one_place h legal.history j k t e at l) m

    room : length (front k) ≤ length h
    room = no_more (λ (x y : Tx). x ≡ y) (front k) h (λ x m. (x, there k x m, refl))
        (λ i j x z y ei ej l ex ez. one_place (front k) is.history i j x ei (ej ∙ ap (λ (w : Tx). Some w) (ez ∙ sym ex)) l)

    -- it has all that the transaction has seen
    covered_in : (d : Dot) → 0 < d.number → Covers t.cut d → StandsIn (take k h) d t.cut
    covered_in d some covers = legal.history.seen k t d at some covers

    within : (o : ℕ) → count_of t.cut o ≤ number_of o (front k)
    within o = elim (cases_lt 0 (count_of t.cut o)) [
      | inr none ↦ omega (arith, none)
      | inl some ↦
          let u = covered_in (dot_of o (count_of t.cut o)) some (omega arith) in
          let low = number_within (front k) is.history u.tx (inside k u.tx u.member) in
          let number : u.tx.dot.number ≡ count_of t.cut o = ap (λ (d : Dot). d.number) u.named in
          let moved : number_of u.tx.dot.origin (front k) ≡ number_of o (front k) =
          ap (λ (d : Dot). number_of d.origin (front k)) u.named in
          omega (arith, low, number, moved)
    ]

    not_yet : number_of t.dot.origin (front k) < t.dot.number
    not_yet = elim (cases_lt (number_of t.dot.origin (front k)) t.dot.number) [
      | inl less ↦ less
      | inr more ↦
          let positive = histories.positive h legal.history t member in
          let u = dots_there (front k) is.history t.dot.origin t.dot.number positive more in
          let same = histories.one_named h legal.history u.tx t (there k u.tx u.member) member
          (same_dot u.tx.dot t.dot.origin t.dot.number u.origin_is u.number_is) in
          absurd (new (subst (λ (x : Tx). IsMember (front k) x) same u.member))
    ]

    follows : CanFollow (front k) t
    follows = record {
      room = omega (arith, room, few);
      origin = legal.history.origins t member;
      number =
          let own = legal.history.own t member in
          let low = within t.dot.origin in
          omega (arith, own, low, not_yet);
      own = legal.history.own t member;
      closed = record {
        within = within;
        below = λ u m covers. histories.seen_below h legal.history t u member (there k u m)
            (covers_covered t.cut u.dot covers);
      };
    }

    agree : Agree (take k h) (front k) t.cut
    agree = record {
      there = λ u covers m. inside k u m;
      back = λ u covers m. histories.seen_earlier h legal.history k t u at (there k u m)
          (covers_covered t.cut u.dot covers);
    }

    one_more : IsLegalHistory s universe base (front k ++ t ∷ [])
    one_more = IsLegalHistory-push s universe base (front k) t is follows (legal.fitting t member)
        (IsLegal-agree s universe base (take k h) (front k) t agree (legal.legal k t at))

  -- the front, one further
  front-next : (k : ℕ) (t : Tx) → slice_get h k ≡ Some t →
      front (suc k) ≡ seen ++ (news_of (take k h) seen ++ cond (lacks seen t) (t ∷ []) [])
  front-next k t at = ap (λ (ys : List Tx). seen ++ ys) (filter_next (lacks seen) h k t at)

  next_front : (k : ℕ) (t : Tx) → slice_get h k ≡ Some t → IsLegalHistory s universe base (front k) →
      (b : Bool) → lacks seen t ≡ b →
      IsLegalHistory s universe base (seen ++ (news_of (take k h) seen ++ cond b (t ∷ []) []))
  next_front k t at is true lacking =
      subst (λ (xs : List Tx). IsLegalHistory s universe base xs) (append_assoc seen (news_of (take k h) seen) (t ∷ []))
      (one_more k t at lacking is)
  next_front k t at is false has =
      subst (λ (xs : List Tx). IsLegalHistory s universe base (seen ++ xs)) (sym (append-nil (news_of (take k h) seen))) is

  fronts : (k : ℕ) → k ≤ length h → IsLegalHistory s universe base (front k)
  fronts zero l = subst (λ (xs : List Tx). IsLegalHistory s universe base xs) (sym (append-nil seen)) known
  fronts (suc k) l =
      let x = at_place h k (omega arith) in
      subst (λ (xs : List Tx). IsLegalHistory s universe base xs) (sym (front-next k x.0 x.1))
      (next_front k x.0 x.1 (fronts k (omega arith)) (lacks seen x.0) refl)

  -- what was seen, followed by the news, is legal
  pub news-legal : IsLegalHistory s universe base (seen ++ news_of h seen)
  news-legal = subst (λ (xs : List Tx). IsLegalHistory s universe base (seen ++ news_of xs seen))
      (take_all (length h) h (omega arith)) (fronts (length h) (omega arith))
