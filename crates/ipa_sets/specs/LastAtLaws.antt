-- Laws of the last effects that an index finds within a cut.
--
--   each-at, each-past, each-only   what stands in a list of what is given for each origin
--   greatest-append                 the greatest of two lists together is the greater one
--   filed_under-append              the numbers that are filed under more keys
--   lasts-are                       the last effects that are found are those of the members of the cut
use Rattle.std.proofs.Common.{◌≡◌, ℕ, zero, suc, ◌+◌, ◌<◌, ◌≤◌, Bool, true, false, not, ◌&&◌, ◌||◌, List, [], ◌∷◌, ◌++◌, length, Option, Some, None, MatchOption, get_or, refl, sym, ◌∙◌, ap, subst, arith, append_assoc, take, inl, inr}
use Rattle.std.specs.Prelude.{◌==◌}
use Rattle.std.specs.List.{list_any}
use Rattle.std.proofs.lemmas.List.{append-nil, get_or_past, take_more}
use Rattle.std.proofs.lemmas.Bool.{cases_lt, eq-eqb, eqb-true, false_from_ne_true}
use Rattle.ipa_clock.specs.declared.cut.Cut.{Cut}
use Rattle.ipa_clock.specs.Cut.{count_of, is_covered}
use Rattle.ipa_spec.specs.Actions.{effects_of}
use Rattle.ipa_spec.specs.declared.specification.Specification.{Specification}
use Rattle.ipa_logic.specs.Touches.{some_takes}
use Rattle.ipa_logic.specs.declared.facts.Fact.{Fact}
use Rattle.ipa_history.specs.Histories.{IsMember, members_of}
use Rattle.ipa_history.specs.HistoryLaws.{covers_covered, covered_covers, one_named}
use Rattle.ipa_history.specs.MemberLaws.{same_bool, member_cases, member_first, member_later, member_none, member-append_left, member-append_right, member-append_cases, member-filter, filter_member, found, any_from}
use Rattle.ipa_history.specs.Values.{adds_fact, touches_fact}
use Rattle.ipa_history.specs.declared.history.Tx.{Tx}
use Rattle.ipa_sets.specs.AtCuts.{entry_of, filed_under, touched, is_number, found_last, last_by, last_at, lasts}
use Rattle.ipa_sets.specs.ByOrigins.{each_from, each_origin}
use Rattle.ipa_sets.specs.Indexes.{IsIndexOf, filed}
use Rattle.ipa_sets.specs.IndexLaws.{entry_named, entry_there, same_dots}
use Rattle.ipa_sets.specs.Keys.{add_key, remove_keys, keys_over, has_key}
use Rattle.ipa_sets.specs.KeyLaws.{adds-keyed, takes-keyed}
use Rattle.ipa_sets.specs.Lasts.{NonePasses, IsLastOn, AreLastsOf}
use Rattle.ipa_sets.specs.Numbers.{greater, greatest_upto}
use Rattle.ipa_sets.specs.NumberLaws.{IsGreatest, IsGreatestUpto, greatest-is, greatest-only, greater-both}
use Rattle.ipa_sets.specs.declared.index.Index.{Index}
use Rattle.ipa_sets.specs.declared.keys.Key.{Key}
use Rattle.ipa_sets.specs.declared.lasts.Last.{Last}

module _ {X : Type 0} (g : ℕ → X) (d : X) where
  -- what stands in the list
  from-at : (n first k : ℕ) → k < n → get_or (each_from n first g) k d ≡ g (first + k)
  unfolding each_from
  from-at zero first k l = absurd (omega arith)
  from-at (suc n) first zero l = ap g (let e : first ≡ first + 0 = omega arith in e)
  from-at (suc n) first (suc k) l = from-at n (suc first) k (omega arith)
      ∙ ap g (let e : suc first + k ≡ first + suc k = omega arith in e)

  from-long : (n first : ℕ) → length (each_from n first g) ≡ n
  unfolding each_from
  from-long zero first = refl
  from-long (suc n) first = ap suc (from-long n (suc first))

  from-only : (n first : ℕ) (xs : List X) → length xs ≡ n → ((k : ℕ) → k < n → get_or xs k d ≡ g (first + k)) →
      xs ≡ each_from n first g
  unfolding each_from
  from-only zero first [] long each = refl
  from-only zero first (x ∷ xs) long each = absurd (omega arith)
  from-only (suc n) first [] long each = absurd (omega arith)
  from-only (suc n) first (x ∷ xs) long each =
      let head : x ≡ g first = each 0 (omega arith) ∙ ap g (let e : first + 0 ≡ first = omega arith in e) in
      let tail = from-only n (suc first) xs (omega arith)
      (λ k l. each (suc k) (omega arith) ∙ ap g (let e : first + suc k ≡ suc first + k = omega arith in e)) in
      λ i. head i ∷ tail i

  pub each-at : (k : ℕ) → k < 16 → get_or (each_origin g) k d ≡ g k
  unfolding each_origin
  each-at k l = from-at 16 0 k l ∙ ap g (let e : 0 + k ≡ k = omega arith in e)

  pub each-past : (k : ℕ) → 16 ≤ k → get_or (each_origin g) k d ≡ d
  unfolding each_origin
  each-past k l = get_or_past (each_from 16 0 g) k d (let e = from-long 16 0 in omega (arith, l, e))

  pub each-only : (xs : List X) → length xs ≡ 16 → ((k : ℕ) → k < 16 → get_or xs k d ≡ g k) → xs ≡ each_origin g
  unfolding each_origin
  each-only xs long each = from-only 16 0 xs long (λ k l. each k l ∙ ap g (let e : k ≡ 0 + k = omega arith in e))

-- the greatest of two lists together
pub greatest-append : (bound : ℕ) (xs ys : List ℕ) →
    greatest_upto bound (xs ++ ys) ≡ greater (greatest_upto bound xs) (greatest_upto bound ys)
greatest-append bound xs ys = greatest-only bound (xs ++ ys) (greatest_upto bound (xs ++ ys))
    (greater (greatest_upto bound xs) (greatest_upto bound ys)) (greatest-is bound (xs ++ ys))
    (greater-both bound xs ys (xs ++ ys) (greatest_upto bound xs) (greatest_upto bound ys)
    (member-append_cases xs ys) (member-append_left xs ys) (member-append_right xs ys)
    (greatest-is bound xs) (greatest-is bound ys))

module _ (index : Index) where
  -- the numbers that are filed under more keys
  pub filed_under-append : (ks js : List Key) (o : ℕ) →
      filed_under index (ks ++ js) o ≡ filed_under index ks o ++ filed_under index js o
  filed_under-append [] js o = refl
  filed_under-append (k ∷ ks) js o = ap (λ (xs : List ℕ). filed index k o ++ xs) (filed_under-append ks js o)
      ∙ sym (append_assoc (filed index k o) (filed_under index ks o) (filed_under index js o))

  -- the greatest number with one more key of a list
  pub touched-step : (bound : ℕ) (first : Key) (ks : List Key) (i : ℕ) (d : Key) (o : ℕ) (r q x : Option ℕ) →
      i < length ks
      → r ≡ greatest_upto bound (filed_under index (first ∷ take i ks) o)
      → q ≡ greatest_upto bound (filed index (get_or ks i d) o) → x ≡ greater r q
      → x ≡ greatest_upto bound (filed_under index (first ∷ take (i + 1) ks) o)
  touched-step bound first ks i d o r q x l er eq ex =
      let k : Key = get_or ks i d in
      let last : filed_under index (k ∷ []) o ≡ filed index k o = append-nil (filed index k o) in
      let both : filed_under index ((first ∷ take i ks) ++ k ∷ []) o ≡ filed_under index
      (first ∷ take i ks) o ++ filed index k o =
      filed_under-append (first ∷ take i ks) (k ∷ []) o
      ∙ ap (λ (xs : List ℕ). filed_under index (first ∷ take i ks) o ++ xs) last in
      let more : take (i + 1) ks ≡ take i ks ++ k ∷ [] = take_more ks i d l in
      ex ∙ ((λ j. greater (er j) (eq j))
      ∙ (sym (greatest-append bound (filed_under index (first ∷ take i ks) o) (filed index k o))
      ∙ (ap (greatest_upto bound) (sym both)
      ∙ ap (λ (js : List Key). greatest_upto bound (filed_under index (first ∷ js) o)) (sym more))))

  -- and what is filed under one of them
  under_member : (ks : List Key) (o n : ℕ) (k : Key) → IsMember ks k → IsMember (filed index k o) n →
      IsMember (filed_under index ks o) n
  under_member [] o n k m i = absurd (member_none k m)
  under_member (q ∷ ks) o n k m i = elim (member_cases q ks k m) [
    | inl e ↦ member-append_left (filed index q o) (filed_under index ks o) n
        (subst (λ (x : Key). IsMember (filed index x o) n) (sym e) i)
    | inr r ↦ member-append_right (filed index q o) (filed_under index ks o) n (under_member ks o n k r i)
  ]

  -- a number that is filed under one of the keys
  record IsUnder (ks : List Key) (o n : ℕ) : Type 0 where
    pub key : Key
    pub among : IsMember ks key
    pub number : IsMember (filed index key o) n

  member_under : (ks : List Key) (o n : ℕ) → IsMember (filed_under index ks o) n → IsUnder ks o n
  member_under [] o n m = absurd (member_none n m)
  member_under (k ∷ ks) o n m = elim (member-append_cases (filed index k o) (filed_under index ks o) n m) [
    | inl here ↦ record { key = k; among = member_first k ks; number = here }
    | inr there ↦ let u = member_under ks o n there in
        record { key = u.key; among = member_later k ks u.key u.among; number = u.number }
  ]

-- a transaction touches a fact exactly where it has one of its keys
or_not : (a b : Bool) → (a || b) ≡ (a || (b && not a))
or_not true b = refl
or_not false true = refl
or_not false false = refl

pub touches-keyed : (s : Specification) (f : Fact) (t : Tx) →
    list_any (λ k. has_key s k t) (keys_over f) ≡ touches_fact s f t
touches-keyed s f t = (λ i. adds-keyed s f t i || takes-keyed s f t i)
    ∙ or_not (adds_fact s f t) (some_takes s (effects_of s t.action) t.args f)

module _ (s : Specification) (index : Index) (is : IsIndexOf s index) (c : Cut) (f : Fact) where
  abbrev members : List Tx
  members = members_of index.entries c

  -- a member of the cut that has the key is found by its number
  number_there : (k : Key) (u : Tx) → IsMember index.entries u → has_key s k u ≡ true →
      IsMember (filed index k u.dot.origin) u.dot.number
  number_there k u m h = let so = is.filed_so in so.complete k u m h

  -- the number of a member of the cut that touches the fact
  touch_there : (u : Tx) → IsMember members u → touches_fact s f u ≡ true →
      IsMember (touched index f u.dot.origin) u.dot.number
  touch_there u m h =
      let kept = filter_member (λ (t : Tx). is_covered c t.dot) index.entries u m in
      let key = found (λ k. has_key s k u) (keys_over f) (touches-keyed s f u ∙ h) in
      under_member index (keys_over f) u.dot.origin u.dot.number key.one key.member
      (number_there key.one u kept.member key.passes)

  -- it is within the cut
  low_there : (u : Tx) → IsMember members u → u.dot.number ≤ count_of c u.dot.origin
  low_there u m =
      let kept = filter_member (λ (t : Tx). is_covered c t.dot) index.entries u m in
      covered_covers c u.dot kept.passes

  -- the transaction of a number that is filed under a key
  by_number : (o n : ℕ) (t : Tx) → entry_of index o n ≡ Some t → (k : Key) → IsMember (filed index k o) n →
      has_key s k t ≡ true
  by_number o n t e k m =
      let so = is.filed_so in
      let by = so.sound k o n m in
      let named = entry_named s index is o n t e in
      let same : by.tx ≡ t = one_named index.entries is.history by.tx t by.member named.0
      (same_dots by.tx.dot t.dot (by.origin_is ∙ sym named.1) (by.number_is ∙ sym named.2)) in
      subst (λ (x : Tx). has_key s k x ≡ true) same by.has

  -- each number that is filed has its transaction
  entry_filed : (k : Key) (o n : ℕ) → IsMember (filed index k o) n → (t : Tx) × (entry_of index o n ≡ Some t)
  entry_filed k o n m =
      let so = is.filed_so in
      let by = so.sound k o n m in (
        by.tx,
        ap (λ (x : ℕ). entry_of index x n) (sym by.origin_is)
            ∙ (ap (entry_of index by.tx.dot.origin) (sym by.number_is) ∙ entry_there s index is by.tx by.member),
      )

  -- whether the transaction of the greatest number adds the fact
  kind_is : (o n : ℕ) (t : Tx) → entry_of index o n ≡ Some t → IsGreatest (count_of c o) (touched index f o) n →
      (a : Option ℕ)
      → IsGreatestUpto (count_of c o) (filed index (add_key f) o) a → is_number a n ≡ adds_fact s f t
  kind_is o n t e top None none = sym (false_from_ne_true (adds_fact s f t) (λ h.
      let named = entry_named s index is o n t e in
      let there = number_there (add_key f) t named.0 (adds-keyed s f t ∙ h) in
      let here : IsMember (filed index (add_key f) o) n = subst (λ (x : ℕ). IsMember (filed index
      (add_key f) x) n) named.1
      (subst (λ (x : ℕ). IsMember (filed index (add_key f) t.dot.origin) x) named.2 there) in
      let high = none.above n here in
      let low = top.low in
      absurd (omega (arith, high, low))))
  kind_is o n t e top (Some m) most = same_bool (m == n) (adds_fact s f t)
      (λ h. sym (adds-keyed s f t) ∙ by_number o n t e (add_key f)
      (subst (λ (x : ℕ). IsMember (filed index (add_key f) o) x) (eqb-true m n h) most.member))
      (λ h.
      let named = entry_named s index is o n t e in
      let there = number_there (add_key f) t named.0 (adds-keyed s f t ∙ h) in
      let here : IsMember (filed index (add_key f) o) n = subst (λ (x : ℕ). IsMember (filed index
      (add_key f) x) n) named.1
      (subst (λ (x : ℕ). IsMember (filed index (add_key f) t.dot.origin) x) named.2 there) in
      let one = most.most n here top.low in
      let two = top.most m (under_member index (keys_over f) o m (add_key f) (member_first (add_key f)
      (remove_keys f)) most.member) most.low in
      eq-eqb m n (omega (arith, one, two)))

  -- the last effect of an origin that is found is that of the members
  last_by-is : (o : ℕ) (r a : Option ℕ) → IsGreatestUpto (count_of c o) (touched index f o) r
      → IsGreatestUpto (count_of c o) (filed index (add_key f) o) a
      → MatchOption (last_by index o r a) (NonePasses (touches_fact s f) o members) (IsLastOn s f members o)
  last_by-is o None a none add = record {
    none = λ u m made h.
        let there = subst (λ (x : ℕ). IsMember (touched index f x) u.dot.number) made (touch_there u m h) in
        let low = low_there u m in
        let high = none.above u.dot.number there in
        let count : count_of c u.dot.origin ≡ count_of c o = ap (count_of c) made in
        omega (arith, low, high, count);
  }
  last_by-is o (Some n) a top add =
      let under = member_under index (keys_over f) o n top.member in
      let entry = entry_filed under.key o n under.number in
      let t = entry.0 in
      let named = entry_named s index is o n t entry.1 in
      let origin = named.1 in
      let number = named.2 in
      let has = by_number o n t entry.1 under.key under.number in
      let low = top.low in
      let count : count_of c t.dot.origin ≡ count_of c o = ap (count_of c) origin in
      subst (λ (x : Option Tx). MatchOption (found_last (is_number a n) x) (NonePasses (touches_fact s f) o members)
      (IsLastOn s f members o))
      (sym entry.1) (record {
        last = record {
          member = member-filter (λ (u : Tx). is_covered c u.dot) index.entries t named.0
              (covers_covered c t.dot (omega (arith, low, number, count)));
          passes = sym (touches-keyed s f t) ∙ any_from (λ k. has_key s k t) (keys_over f) under.key under.among has;
          made = origin;
          last = λ u m made h.
              let there = subst (λ (x : ℕ). IsMember (touched index f x) u.dot.number) made (touch_there u m h) in
              let within = low_there u m in
              let counts : count_of c u.dot.origin ≡ count_of c o = ap (count_of c) made in
              let most = top.most u.dot.number there (omega (arith, within, counts)) in
              omega (arith, most, number);
        };
        kind = kind_is o n t entry.1 top a add;
      })

  -- so the last effects that are found are those of the members of the cut
  pub lasts-are : AreLastsOf s f members (lasts index c f)
  unfolding lasts
  lasts-are = record {
    each = λ o. elim (cases_lt o 16) [
      | inl low ↦ subst (λ (x : Option Last). MatchOption x (NonePasses (touches_fact s f) o members)
          (IsLastOn s f members o))
          (sym (each-at (last_at index c f) None o low))
          (last_by-is o (greatest_upto (count_of c o) (touched index f o)) (greatest_upto (count_of c o)
          (filed index (add_key f) o))
          (greatest-is (count_of c o) (touched index f o)) (greatest-is (count_of c o) (filed index (add_key f) o)))
      | inr past ↦ subst (λ (x : Option Last). MatchOption x (NonePasses (touches_fact s f) o members)
          (IsLastOn s f members o))
          (sym (each-past (last_at index c f) None o past))
          (record {
            none = λ u m made h.
                let kept = filter_member (λ (t : Tx). is_covered c t.dot) index.entries u m in
                let history = is.history in
                let few = history.origins u kept.member in
                omega (arith, few, made, past);
          })
    ];
  }
