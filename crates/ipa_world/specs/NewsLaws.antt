-- What a session sees of a log: what it had seen, followed by the news.
--
--   news-legal      where all that was seen is in the log, that is a legal history
use Rattle.std.proofs.Common.{◌≡◌, ℕ, zero, suc, ◌<◌, ◌≤◌, Bool, true, false, not, cond, List, [], ◌∷◌, ◌++◌, length, filter, take, refl, sym, ◌∙◌, ap, subst, arith, Some, None, slice_get, inl, inr, append_assoc, append-nil}
use Rattle.std.specs.Prelude.{◌==◌}
use Rattle.std.specs.List.{list_any}
use Rattle.std.proofs.lemmas.Bool.{cases_Bool, cases_lt, false≢true, eq-eqb, both_ways}
use Rattle.std.proofs.lemmas.List.{take_all}
use Rattle.ipa_clock.specs.Cut.{count_of}
use Rattle.ipa_spec.specs.declared.specification.Specification.{Specification}
use Rattle.ipa_logic.specs.Facts.{Universe}
use Rattle.ipa_logic.specs.declared.facts.Fact.{Fact}
use Rattle.ipa_history.specs.Histories.{IsMember, IsHistory, number_of}
use Rattle.ipa_history.specs.Legality.{IsLegalHistory}
use Rattle.ipa_history.specs.MemberLaws.{member-append_left, member-append_right, member-append_cases, member-filter, filter_member, found, any_from}
use Rattle.ipa_history.specs.HistoryLaws.{count_grows, member-take, one_named}
use Rattle.ipa_history.specs.PushLaws.{at_place, CanFollow}
use Rattle.ipa_history.specs.Clocks.{number_within}
use Rattle.ipa_history.specs.declared.history.Tx.{Tx}
use Rattle.ipa_lift.specs.FewDrops.{no_more}
use Rattle.ipa_lift.specs.FollowLaws.{IsLegalHistory-push}
use Rattle.ipa_lift.specs.StandingLaws.{is_named, named_itself, named_same}
use Rattle.ipa_gate.specs.Agreements.{HasAll, lacks, news_of}
use Rattle.ipa_world.specs.HistoryCrossings.{CanCross, crossing-closed, crossing-legal, crossing-number}

-- one more of a filtered front
filter_next : {X : Type 0} (p : X → Bool) (xs : List X) (k : ℕ) (x : X) → slice_get xs k ≡ Some x →
    filter p (take (suc k) xs) ≡ filter p (take k xs) ++ cond (p x) (x ∷ []) []
filter_next p [] k x e = absurd (let s : None ≡ Some x = e in cc)
filter_next p (y ∷ ys) zero x e =
    let s : Some y ≡ Some x = e in
    let t : y ≡ x = cc in
    ap (λ (z : _). cond (p z) (z ∷ []) []) t
filter_next p (y ∷ ys) (suc k) x e = by_test (p y) (filter_next p ys k x e)
  where
    by_test : (b : Bool) → filter p (take (suc k) ys) ≡ filter p (take k ys) ++ cond (p x) (x ∷ []) [] →
        cond b (y ∷ filter p (take (suc k) ys)) (filter p (take (suc k) ys))
        ≡ cond b (y ∷ filter p (take k ys)) (filter p (take k ys)) ++ cond (p x) (x ∷ []) []
    by_test true rest = ap (λ (zs : List _). y ∷ zs) rest
    by_test false rest = rest

-- a transaction stands in one place
one_place : (h : List Tx) → IsHistory h → (j k : ℕ) (t : Tx) → slice_get h j ≡ Some t → slice_get h k ≡ Some t →
    j < k → ⊥
one_place h is j k t ej ek less =
    let grows = count_grows (λ (v : Tx). v.dot.origin == t.dot.origin) h j k t ej
    (eq-eqb t.dot.origin t.dot.origin refl) less in
    let first = is.numbers j t ej in
    let second = is.numbers k t ek in
    omega (arith, grows, first, second)

-- no more stand in a history than in one that has all of it
pub no_longer : (h part : List Tx) → IsHistory part → HasAll h part → length part ≤ length h
no_longer h part known all = no_more (λ (x y : Tx). x ≡ y) part h (λ x m. (x, all.each x m, refl))
    (λ i j x z y ei ej less ex ez. one_place part known i j x ei (ej ∙ ap (λ (w : Tx). Some w) (ez ∙ sym ex)) less)

-- what stands in a front stands there in the whole, and before its end
front_place : (n : ℕ) (xs : List Tx) (j : ℕ) (x : Tx) → slice_get (take n xs) j ≡ Some x →
    (j < n) × (slice_get xs j ≡ Some x)
front_place zero xs j x e = absurd (let s : None ≡ Some x = e in cc)
front_place (suc n) [] j x e = absurd (let s : None ≡ Some x = e in cc)
front_place (suc n) (y ∷ ys) zero x e = (omega arith, e)
front_place (suc n) (y ∷ ys) (suc j) x e = let rest = front_place n ys j x e in (omega (arith, rest.0), rest.1)

module _ (s : Specification) (universe : Universe) (base : List Fact) (h seen : List Tx)
    (legal : IsLegalHistory s universe base h) (few : length h ≤ 65536)
    (known : IsLegalHistory s universe base seen) (all : HasAll h seen) where
  -- what was seen, and the news among the first k entries
  abbrev front : ℕ → List Tx
  front k = seen ++ news_of (take k h) seen

  inside : (k : ℕ) → HasAll h (front k)
  inside k = record {
    each = λ t m. elim (member-append_cases seen (news_of (take k h) seen) t m) [
      | inl a ↦ all.each t a
      | inr b ↦ let kept = filter_member (lacks seen) (take k h) t b in member-take k h t kept.member
    ];
  }

  -- a member that is not lacking was seen
  was_seen : (t : Tx) → IsMember h t → lacks seen t ≡ false → IsMember seen t
  was_seen t m has =
      let f = found (λ u. is_named u t) seen (named_from (list_any (λ u. is_named u t) seen) has) in
      let same = one_named h legal.history f.one t (all.each f.one f.member) m (named_same f.one t f.passes) in
      subst (λ (x : Tx). IsMember seen x) same f.member
    where
      named_from : (b : Bool) → not b ≡ false → b ≡ true
      named_from true e = refl
      named_from false e = absurd (false≢true (sym e))

  not_seen : (t : Tx) → lacks seen t ≡ true → IsMember seen t → ⊥
  not_seen t lacking m =
      both_ways (lacks seen t) (ap not (any_from (λ u. is_named u t) seen t m (named_itself t))) lacking

  -- the front has each of the first k entries
  has_front : (k : ℕ) (t : Tx) → IsMember (take k h) t → IsMember (front k) t
  has_front k t m = elim (cases_Bool (lacks seen t)) [
    | inl lacking ↦ member-append_right seen (news_of (take k h) seen) t
        (member-filter (lacks seen) (take k h) t m lacking)
    | inr has ↦ member-append_left seen (news_of (take k h) seen) t (was_seen t (member-take k h t m) has)
  ]

  module _ (k : ℕ) (t : Tx) (at : slice_get h k ≡ Some t) (lacking : lacks seen t ≡ true)
      (is : IsLegalHistory s universe base (front k)) where
    member : IsMember h t
    member = record { place = k; at = at }

    -- it is not among them
    new : IsMember (front k) t → ⊥
    new m = elim (member-append_cases seen (news_of (take k h) seen) t m) [
      | inl a ↦ not_seen t lacking a
      | inr b ↦
          let kept = filter_member (lacks seen) (take k h) t b in
          let early = front_place k h kept.member.place t kept.member.at in
          one_place h legal.history kept.member.place k t early.1 at early.0
    ]

    -- they hold what it has seen
    holds : (o : ℕ) → count_of t.cut o ≤ number_of o (front k)
    holds o = elim (cases_lt 0 (count_of t.cut o)) [
      | inr none ↦ omega (arith, none)
      | inl some ↦
          let u = legal.history.seen k t (record { origin = o; number = count_of t.cut o }) at some (omega arith) in
          let low = number_within (front k) is.history u.tx (has_front k u.tx u.member) in
          let number : u.tx.dot.number ≡ count_of t.cut o = ap (λ (d : _). d.number) u.named in
          let moved : number_of u.tx.dot.origin (front k) ≡ number_of o (front k) =
          ap (λ (d : _). number_of d.origin (front k)) u.named in
          omega (arith, low, number, moved)
    ]

    crosses : CanCross (front k) h t
    crosses = record {
      same = λ u v mu mv e. one_named h legal.history u v ((inside k).each u mu) mv e;
      place = k;
      at = at;
      holds = holds;
    }

    follows : CanFollow (front k) t
    follows = record {
      room = let room = no_longer h (front k) is.history (inside k) in omega (arith, room, few);
      origin = legal.history.origins t member;
      number = crossing-number s universe base (front k) h is legal t crosses new;
      own = legal.history.own t member;
      closed = crossing-closed s universe base (front k) h is legal t crosses;
    }

    one_more : IsLegalHistory s universe base (front k ++ t ∷ [])
    one_more = IsLegalHistory-push s universe base (front k) t is follows (legal.fitting t member)
        (crossing-legal s universe base (front k) h is legal t crosses)

  -- the front, one further
  front-next : (k : ℕ) (t : Tx) → slice_get h k ≡ Some t →
      front (suc k) ≡ seen ++ (news_of (take k h) seen ++ cond (lacks seen t) (t ∷ []) [])
  front-next k t at = ap (λ (ys : List Tx). seen ++ ys) (filter_next (lacks seen) h k t at)

  next_front : (k : ℕ) (t : Tx) → slice_get h k ≡ Some t → IsLegalHistory s universe base (front k) →
      (b : Bool) → lacks seen t ≡ b →
      IsLegalHistory s universe base (seen ++ (news_of (take k h) seen ++ cond b (t ∷ []) []))
  next_front k t at is true lacking =
      subst (λ (xs : List Tx). IsLegalHistory s universe base xs) (append_assoc seen (news_of (take k h) seen) (t ∷ []))
      (one_more k t at lacking is)
  next_front k t at is false has =
      subst (λ (xs : List Tx). IsLegalHistory s universe base (seen ++ xs))
      (sym (append-nil (news_of (take k h) seen))) is

  fronts : (k : ℕ) → k ≤ length h → IsLegalHistory s universe base (front k)
  fronts zero low = subst (λ (xs : List Tx). IsLegalHistory s universe base xs) (sym (append-nil seen)) known
  fronts (suc k) low =
      let x = at_place h k (omega arith) in
      subst (λ (xs : List Tx). IsLegalHistory s universe base xs) (sym (front-next k x.0 x.1))
      (next_front k x.0 x.1 (fronts k (omega arith)) (lacks seen x.0) refl)

  -- what was seen, followed by the news, is legal
  pub news-legal : IsLegalHistory s universe base (seen ++ news_of h seen)
  news-legal = subst (λ (xs : List Tx). IsLegalHistory s universe base (seen ++ news_of xs seen))
      (take_all (length h) h (omega arith)) (fronts (length h) (omega arith))
