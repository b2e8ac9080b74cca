-- When a later state is within the bounds as an earlier one was.
--
--   IsAddedSparing s state f   an action that spares the bounds of the state adds the fact
--   spared_bound               a state is within a bound where an earlier one is, and the group of each fact that is
--                              true only in the later one is
--   spared_within              and within all bounds, where such an action added each such fact
--   IsCalm s base h c          the state at a closed cut of a history is within the bounds
--   calm_start, calm_after     the cut of the base is calm, and that of an operation and all that it has seen
--   calm_longer                a cut stays calm where the history goes on
--   calm_grows                 a closed cut is calm where a lower one is, and each transaction that only the greater one
--                              has spares the bounds of the state there
use Rattle.std.proofs.Common.{◌≡◌, ◌↔◌, ◌==◌, ℕ, ◌<◌, ◌≤◌, Bool, true, false, not, ◌&&◌, List, [], ◌∷◌, ◌++◌, filter, take, length, refl, sym, ◌∙◌, ap, subst, arith, inl, inr, ◌⊎◌}
use Rattle.std.specs.List.{list_any, count_by}
use Rattle.std.specs.Ordering.{is_eq, nat_cmp}
use Rattle.std.specs.Cmp.{Equal-is}
use Rattle.std.specs.Cmp.Lexicographic.{slice_cmp}
use Rattle.std.proofs.lemmas.Bool.{cases_lt, cases_eq, cases_Bool, and_from, and_parts, not-true, not_from_false, eqb-true}
use Rattle.std.proofs.lemmas.List.Kept.{IsStrictlySortedBy-filter}
use Rattle.std.proofs.lemmas.Map.Lookups.{exact_bytes}
use Rattle.std.proofs.lemmas.Map.Views.{any-filter_same}
use Rattle.ipa_clock.specs.declared.cut.Cut.{Cut}
use Rattle.ipa_clock.specs.declared.dot.Dot.{Dot}
use Rattle.ipa_clock.specs.Cut.{Covers, IsBelow, is_covered, count_of, empty, raised}
use Rattle.ipa_clock.specs.Lemmas.{covers_raised, covers_above, count_of-raised_same, count_of-raised_other}
use Rattle.ipa_spec.specs.declared.specification.Specification.{Specification}
use Rattle.ipa_spec.specs.declared.bounds.Bound.{Bound}
use Rattle.ipa_spec.specs.declared.operations.Action.{Action}
use Rattle.ipa_spec.specs.declared.operations.Action.TheVariants.{Op}
use Rattle.ipa_logic.specs.Facts.{Universe, fact_cmp, has, IsRising, IsStateOf}
use Rattle.ipa_logic.specs.FactLaws.{same_fact, fact_itself, same_rising}
use Rattle.ipa_logic.specs.DueDrops.{IsWithin}
use Rattle.ipa_logic.specs.Groups.{Within, key_of, is_in_group, group_of}
use Rattle.ipa_logic.specs.Touches.{adds, has_rule, is_add_wins}
use Rattle.ipa_logic.specs.declared.facts.Fact.{Fact}
use Rattle.ipa_history.specs.Histories.{IsMember, IsHistory, IsClosed, number_of, members_of, is_before}
use Rattle.ipa_history.specs.HistoryLaws as histories
use Rattle.ipa_history.specs.HistoryLaws.{covers_covered, covered_covers, member-take, count_cons}
use Rattle.ipa_history.specs.MemberLaws.{same_bool, found, any_from, none_found, length-filter_le, member_none, member_cases, member_first, member-filter, filter_member, member-append_left, member-append_right, member-append_cases}
use Rattle.ipa_history.specs.Clocks.{clock-none, number_within}
use Rattle.ipa_history.specs.PushLaws.{dots_there}
use Rattle.ipa_history.specs.EffectLaws as effects
use Rattle.ipa_history.specs.Legality.{IsLegalHistory, IsLegalAs, IsLegalOperation}
use Rattle.ipa_history.specs.Values.{adds_fact, removes_fact, value_at}
use Rattle.ipa_history.specs.declared.history.Tx.{Tx}
use Rattle.ipa_lift.specs.CutLaws.{value-same}
use Rattle.ipa_overfill.specs.Overfills.{Spares}

-- an action that spares the bounds of the state adds the fact
pub record IsAddedSparing (s : Specification) (state : List Fact) (f : Fact) : Type 0 where
  pub action : Action
  pub args : List ℕ
  pub adds_it : adds s action args f ≡ true
  pub spares : Spares s action args state

-- a fact of a filtered list
has-kept : (test : Fact → Bool) (s : List Fact) (f : Fact) → has (filter test s) f ≡ (test f && has s f)
has-kept test s f = any-filter_same (λ x. is_eq (fact_cmp f x)) test (test f) (λ k h. ap test (sym (same_fact f k h))) s

-- a fact that a list has is a member of it, and the other way round
member_has : (s : List Fact) (f : Fact) → IsMember s f → has s f ≡ true
member_has s f m = any_from (λ x. is_eq (fact_cmp f x)) s f m (fact_itself f)

has_member : (s : List Fact) (f : Fact) → has s f ≡ true → IsMember s f
has_member s f h =
    let one = found (λ x. is_eq (fact_cmp f x)) s h in
    subst (λ (g : Fact). IsMember s g) (sym (same_fact f one.one one.passes)) one.member

-- a group has at most as many facts as it had, where each of its facts was there
module _ (b : Bound) (key : List ℕ) (before state : List Fact) (rising_before : IsRising before)
    (rising : IsRising state) where
  kept_group : ((f : Fact) → is_in_group b key f ≡ true → has state f ≡ true → has before f ≡ true) →
      group_of b key state ≡ filter (has state) (group_of b key before)
  kept_group old =
      same_rising (group_of b key state) (filter (has state) (group_of b key before))
      (IsStrictlySortedBy-filter fact_cmp (is_in_group b key) state rising)
      (IsStrictlySortedBy-filter fact_cmp (has state) (group_of b key before)
      (IsStrictlySortedBy-filter fact_cmp (is_in_group b key) before rising_before))
      (λ f. has-kept (is_in_group b key) state f
      ∙ (same_bool (is_in_group b key f && has state f) (has state f && (is_in_group b key f && has before f))
      (λ h. let p = and_parts (is_in_group b key f) (has state f) h in
      and_from (has state f) (is_in_group b key f && has before f) p.1
      (and_from (is_in_group b key f) (has before f) p.0 (old f p.0 p.1)))
      (λ h. let p = and_parts (has state f) (is_in_group b key f && has before f) h in
      let q = and_parts (is_in_group b key f) (has before f) p.1 in
      and_from (is_in_group b key f) (has state f) q.0 p.0)
      ∙ sym (has-kept (has state) (group_of b key before) f
      ∙ ap (λ (x : Bool). has state f && x) (has-kept (is_in_group b key) before f))))

  few_kept : ((f : Fact) → is_in_group b key f ≡ true → has state f ≡ true → has before f ≡ true) →
      length (group_of b key state) ≤ length (group_of b key before)
  few_kept old =
      let same : length (group_of b key state) ≡ length (filter (has state) (group_of b key before)) =
      ap length (kept_group old) in
      let few = length-filter_le (has state) (group_of b key before) in
      omega (arith, same, few)

-- a state is within a bound where an earlier one is, and the group of each fact that is true only in the later one is
pub spared_bound : (b : Bound) (before state : List Fact) → IsRising before → IsRising state → IsWithin b before →
    ((f : Fact) → has state f ≡ true → has before f ≡ false → f.predicate ≡ b.predicate →
    length (group_of b (key_of b f) state) ≤ b.most) → IsWithin b state
spared_bound b before state rising_before rising within new = record {
  groups = λ key. elim (cases_Bool (list_any (λ f. not (has before f)) (group_of b key state))) [
    | inl some ↦
        let one = found (λ f. not (has before f)) (group_of b key state) some in
        let kept = sym (has-kept (is_in_group b key) state one.one)
        ∙ member_has (group_of b key state) one.one one.member in
        let parts = and_parts (is_in_group b key one.one) (has state one.one) kept in
        let inside = and_parts (one.one.predicate == b.predicate)
        (is_eq (slice_cmp nat_cmp (key_of b one.one) key)) parts.0 in
        let same : key_of b one.one ≡ key = exact_bytes (key_of b one.one) key
        ((Equal-is (slice_cmp nat_cmp (key_of b one.one) key)).0 inside.1) in
        subst (λ (k : List ℕ). length (group_of b k state) ≤ b.most) same
        (new one.one parts.1 (not-true (has before one.one) one.passes)
        (eqb-true one.one.predicate b.predicate inside.0))
    | inr none ↦
        let few = few_kept b key before state rising_before rising (λ f of there. elim (cases_Bool (has before f)) [
          | inl was ↦ was
          | inr away ↦ absurd (none_found (λ g. not (has before g)) (group_of b key state) none f
              (has_member (group_of b key state) f
              (has-kept (is_in_group b key) state f ∙ and_from (is_in_group b key f) (has state f) of there))
              (not_from_false (has before f) away))
        ]) in
        let most = within.groups key in
        omega (arith, few, most)
  ];
}

-- and within all bounds, where an action that spares them added each such fact
pub spared_within : (s : Specification) (before state : List Fact) → IsRising before → IsRising state →
    Within s.bounds before → ((f : Fact) → has state f ≡ true → has before f ≡ false → IsAddedSparing s state f) →
    Within s.bounds state
spared_within s before state rising_before rising within added = record {
  groups = λ n b key declared.
      let is = spared_bound b before state rising_before rising
      (record { groups = λ k. within.groups n b k declared })
      (λ f now was counted. let a = added f now was in (a.spares.bounds n b declared).each f a.adds_it counted) in
      is.groups key;
}

-- the state at a closed cut of a history is within the bounds
pub record IsCalm (s : Specification) (base : List Fact) (h : List Tx) (c : Cut) : Type 0 where
  pub closed : IsClosed h c
  pub state : List Fact
  pub at : IsStateOf (value_at s base h c) state
  pub within : Within s.bounds state

-- that of the base is calm
pub calm_start : (s : Specification) (universe : Universe) (base : List Fact) (h : List Tx) →
    IsLegalHistory s universe base h → IsCalm s base h empty
calm_start s universe base h legal = record {
  closed = record {
    within = λ o. let none = clock-none.counts o in omega (arith, none);
    below = λ t m covers.
        let some = histories.positive h legal.history t m in
        let none = clock-none.counts t.dot.origin in
        absurd (omega (arith, some, none, covers));
  };
  state = base;
  at = record {
    rising = legal.base_state.rising;
    facts = λ f. value-same s base f [] (members_of h empty) (λ u m. absurd (member_none u m)) (λ u m.
        let k = filter_member (λ (t : Tx). is_covered empty t.dot) h u m in
        let some = histories.positive h legal.history u k.member in
        let none = clock-none.counts u.dot.origin in
        let covers = covered_covers empty u.dot k.passes in
        absurd (omega (arith, some, none, covers)));
  };
  within = legal.base_within;
}

-- so is that of an operation and all that it has seen
pub calm_after : (s : Specification) (universe : Universe) (base : List Fact) (h : List Tx) →
    IsLegalHistory s universe base h → (t : Tx) → IsMember h t → (n : ℕ) → t.action ≡ Op n →
    length t.cut.counts ≡ 16 → IsCalm s base h (raised t.cut t.dot)
calm_after s universe base h legal t m n action width =
    let is = legal.legal m.place t m.at in
    let lawful : IsLegalOperation s universe t is.before is.after =
    subst (λ (a : Action). IsLegalAs a s universe (members_of (take m.place h) t.cut) t is.before is.after) action is.legal in
    record {
      closed = record { within = within; below = below };
      state = is.after;
      at = record {
        rising = is.state_after.rising;
        facts = λ f. is.state_after.facts f
            ∙ value-same s base f (members_of (take m.place h) t.cut ++ t ∷ []) (members_of h (raised t.cut t.dot)) there
            back;
      };
      within = lawful.within_after;
    }
  where
    inside : t.dot.origin < length t.cut.counts
    inside = let few = legal.history.origins t m in omega (arith, few, width)

    raises : (d : Dot) → Covers (raised t.cut t.dot) d ↔ (Covers t.cut d ⊎ (d ≡ t.dot))
    raises d = covers_raised t.cut t.dot d inside (sym (legal.history.own t m))

    -- what its cut covers stands before it
    before : (u : Tx) → IsMember h u → Covers t.cut u.dot → IsMember (take m.place h) u
    before u mu covers =
        histories.seen_earlier h legal.history m.place t u m.at mu (covers_covered t.cut u.dot covers)

    it : (u : Tx) → IsMember h u → u.dot ≡ t.dot → t ≡ u
    it u mu same = histories.one_named h legal.history t u m mu (sym same)

    there : (u : Tx) → IsMember (members_of (take m.place h) t.cut ++ t ∷ []) u →
        IsMember (members_of h (raised t.cut t.dot)) u
    there u mu = elim (member-append_cases (members_of (take m.place h) t.cut) (t ∷ []) u mu) [
      | inl old ↦
          let k = filter_member (λ (v : Tx). is_covered t.cut v.dot) (take m.place h) u old in
          member-filter (λ (v : Tx). is_covered (raised t.cut t.dot) v.dot) h u (member-take m.place h u k.member)
          (covers_covered (raised t.cut t.dot) u.dot ((raises u.dot).1 (inl (covered_covers t.cut u.dot k.passes))))
      | inr new ↦ elim (member_cases t [] u new) [
        | inl same ↦ subst (λ (v : Tx). IsMember (members_of h (raised t.cut t.dot)) v) same
            (member-filter (λ (v : Tx). is_covered (raised t.cut t.dot) v.dot) h t m
            (covers_covered (raised t.cut t.dot) t.dot ((raises t.dot).1 (inr refl))))
        | inr none ↦ absurd (member_none u none)
      ]
    ]

    back : (u : Tx) → IsMember (members_of h (raised t.cut t.dot)) u →
        IsMember (members_of (take m.place h) t.cut ++ t ∷ []) u
    back u mu =
        let k = filter_member (λ (v : Tx). is_covered (raised t.cut t.dot) v.dot) h u mu in
        elim ((raises u.dot).0 (covered_covers (raised t.cut t.dot) u.dot k.passes)) [
          | inl covers ↦ member-append_left (members_of (take m.place h) t.cut) (t ∷ []) u
              (member-filter (λ (v : Tx). is_covered t.cut v.dot) (take m.place h) u (before u k.member covers)
              (covers_covered t.cut u.dot covers))
          | inr same ↦ subst (λ (v : Tx). IsMember (members_of (take m.place h) t.cut ++ t ∷ []) v)
              (it u k.member same)
              (member-append_right (members_of (take m.place h) t.cut) (t ∷ []) t (member_first t []))
        ]

    raised_at : (o : ℕ) → (count_of t.cut o ≤ count_of (raised t.cut t.dot) o)
        × ((count_of (raised t.cut t.dot) o ≡ count_of t.cut o) ⊎ (o ≡ t.dot.origin))
    raised_at o = elim (cases_eq o t.dot.origin) [
      | inl same ↦
          let here : count_of (raised t.cut t.dot) o ≡ t.dot.number =
          ap (count_of (raised t.cut t.dot)) same ∙ count_of-raised_same t.cut t.dot inside in
          let own = legal.history.own t m in
          let moved : count_of t.cut o ≡ count_of t.cut t.dot.origin = ap (count_of t.cut) same in
          (omega (arith, here, own, moved), inr same)
      | inr other ↦
          let stays = count_of-raised_other t.cut t.dot o other in
          (omega (arith, stays), inl stays)
    ]

    -- a count of its cut is the number of a member, if it is not 0
    counted : (o : ℕ) → count_of t.cut o ≤ number_of o h
    counted o = elim (cases_lt 0 (count_of t.cut o)) [
      | inr none ↦ omega (arith, none)
      | inl some ↦
          let dot : Dot = record { origin = o; number = count_of t.cut o } in
          let u = legal.history.seen m.place t dot m.at some (omega arith) in
          let low = number_within h legal.history u.tx (member-take m.place h u.tx u.member) in
          subst (λ (d : Dot). d.number ≤ number_of d.origin h) u.named low
    ]

    within : (o : ℕ) → count_of (raised t.cut t.dot) o ≤ number_of o h
    within o = elim (raised_at o).1 [
      | inl stays ↦ let low = counted o in omega (arith, stays, low)
      | inr same ↦
          let here : count_of (raised t.cut t.dot) o ≡ t.dot.number =
          ap (count_of (raised t.cut t.dot)) same ∙ count_of-raised_same t.cut t.dot inside in
          let low = number_within h legal.history t m in
          let moved : number_of o h ≡ number_of t.dot.origin h = ap (λ (x : ℕ). number_of x h) same in
          omega (arith, here, low, moved)
    ]

    above : (u : Tx) → IsBelow u.cut t.cut → IsBelow u.cut (raised t.cut t.dot)
    above u low = record { counts = λ o. let a = low.counts o in let b = (raised_at o).0 in omega (arith, a, b) }

    below : (u : Tx) → IsMember h u → Covers (raised t.cut t.dot) u.dot → IsBelow u.cut (raised t.cut t.dot)
    below u mu covers = elim ((raises u.dot).0 covers) [
      | inl old ↦ above u (histories.seen_below h legal.history t u m mu (covers_covered t.cut u.dot old))
      | inr same ↦ subst (λ (v : Tx). IsBelow v.cut (raised t.cut t.dot)) (it u mu same)
          (above t (record { counts = λ o. omega arith }))
    ]

-- a list with more at its end counts at least as many
count_grows_by : {X : Type 0} (p : X → Bool) (xs ys : List X) → count_by p xs ≤ count_by p (xs ++ ys)
count_grows_by p [] ys = omega arith
count_grows_by p (x ∷ xs) ys =
    let rest = count_grows_by p xs ys in
    let low = count_cons p x xs in
    let high = count_cons p x (xs ++ ys) in
    omega (arith, rest, low, high)

-- a cut stays calm where the history goes on
pub calm_longer : (s : Specification) (base : List Fact) (h news : List Tx) → IsHistory h → IsHistory (h ++ news) →
    (c : Cut) → IsCalm s base h c → IsCalm s base (h ++ news) c
calm_longer s base h news was is c calm = record {
  closed = record {
    within = λ o. let low = calm.closed.within o in let more = count_grows_by (λ (t : Tx). t.dot.origin == o) h news in
        omega (arith, low, more);
    below = λ t m covers. calm.closed.below t (old t m covers) covers;
  };
  state = calm.state;
  at = record {
    rising = calm.at.rising;
    facts = λ f. calm.at.facts f ∙ value-same s base f (members_of h c) (members_of (h ++ news) c)
        (λ u m. let k = filter_member (λ (t : Tx). is_covered c t.dot) h u m in
        member-filter (λ (t : Tx). is_covered c t.dot) (h ++ news) u (member-append_left h news u k.member) k.passes)
        (λ u m. let k = filter_member (λ (t : Tx). is_covered c t.dot) (h ++ news) u m in
        member-filter (λ (t : Tx). is_covered c t.dot) h u (old u k.member (covered_covers c u.dot k.passes)) k.passes);
  };
  within = calm.within;
}
  where
    -- what it covers stood there before
    old : (t : Tx) → IsMember (h ++ news) t → Covers c t.dot → IsMember h t
    old t m covers =
        let low = calm.closed.within t.dot.origin in
        let u = dots_there h was t.dot.origin t.dot.number (histories.positive (h ++ news) is t m)
        (omega (arith, covers, low)) in
        let dot : ℕ → ℕ → Dot = λ origin number. record { origin = origin; number = number } in
        let same : u.tx.dot ≡ t.dot = ap (λ (o : ℕ). dot o u.tx.dot.number) u.origin_is
        ∙ ap (λ (n : ℕ). dot t.dot.origin n) u.number_is in
        subst (λ (v : Tx). IsMember h v)
        (histories.one_named (h ++ news) is u.tx t (member-append_left h news u.tx u.member) m same) u.member

-- a closed cut is calm where a lower one is, and each transaction that only the greater one has spares the bounds of
-- the state there
pub calm_grows : (s : Specification) (base : List Fact) (h : List Tx) → IsHistory h → (low high : Cut) →
    IsCalm s base h low → IsClosed h high → IsBelow low high → (state : List Fact) →
    IsStateOf (value_at s base h high) state →
    ((t : Tx) → IsMember h t → Covers high t.dot → (Covers low t.dot → ⊥) → Spares s t.action t.args state) →
    Within s.bounds state
calm_grows s base h is low high calm closed below state at spares =
    spared_within s calm.state state calm.at.rising at.rising calm.within (λ f now was.
    let e = effects.falsifier is_before (adds_fact s f) (removes_fact s f) (has base f)
    (has_rule is_add_wins s f.predicate) (λ (t : Tx). is_covered low t.dot) (members_of h low) (members_of h high)
    (record {
      inside = λ u m.
          let k = filter_member (λ (t : Tx). is_covered low t.dot) h u m in
          member-filter (λ (t : Tx). is_covered high t.dot) h u k.member
          (covers_covered high u.dot (covers_above low high u.dot below (covered_covers low u.dot k.passes)));
      passes = λ u m. let k = filter_member (λ (t : Tx). is_covered low t.dot) h u m in k.passes;
      taken = λ u m p.
          let k = filter_member (λ (t : Tx). is_covered high t.dot) h u m in
          member-filter (λ (t : Tx). is_covered low t.dot) h u k.member p;
    }) (histories.Order-part h is (members_of h high) (λ u m.
    let k = filter_member (λ (t : Tx). is_covered high t.dot) h u m in k.member))
    false (sym (calm.at.facts f) ∙ was) (sym (at.facts f) ∙ now) in
    let k = filter_member (λ (t : Tx). is_covered high t.dot) h e.tx e.top.member in
    record {
      action = e.tx.action;
      args = e.tx.args;
      adds_it = e.turns;
      spares = spares e.tx k.member (covered_covers high e.tx.dot k.passes) (λ covers. e.outside
          (member-filter (λ (t : Tx). is_covered low t.dot) h e.tx k.member (covers_covered low e.tx.dot covers)));
    })
