-- Laws of values by maximal effects, for one fact: `before` orders the transactions, `adds` and `removes`
-- tell what they do to the fact, `adds_win` is its rule and `start` its value in the base.
--
--   touch, maximal, value         as in the definition of a value
--   turns d t                     t makes the fact true, or false
--   IsTop ms t                    t is a maximal effect
--   Order ms                      before is transitive on the members, and none is before itself
--   top_above                     each member that passes a test has one at or above it that is before no other
--   top_test, test_top            the test of a maximal effect passes just these
--   judge                         none touches the fact, or one wins, or none does
--   value_won, won_value          the value is that of the rule exactly where a maximal effect is of its kind
--   value-same                    lists with the same members give the same value
--   value-untouched, value-plain  one more transaction that does not touch the fact, or that all others are before
--   turned, winner_decides        what taking a maximal member away tells of it
--   true_source, true_from        where a true fact comes from
--   falsifier                     where a part has another value, a maximal effect outside it is of the whole's kind
use Rattle.std.proofs.Common.{◌≡◌, Bool, true, false, not, ◌&&◌, ◌||◌, cond, List, [], ◌∷◌, refl, sym, ◌∙◌, ap, subst, ◌⊎◌, inl, inr}
use Rattle.std.specs.List.{list_any}
use Rattle.std.proofs.lemmas.Bool.{false≢true, true≢false, cases_Bool, or_cases, or_left, or_right, and_parts, and_from, false_from_ne_true, both_ways, not-true, not_from_false}
use Rattle.ipa_history.specs.Histories.{IsMember}
use Rattle.ipa_history.specs.MemberLaws.{member_cases, member_first, member_later, member_none, Found, found, any_from, none_from, none_found}
use Rattle.ipa_history.specs.declared.history.Tx.{Tx}

-- a member that passes, with none that passes and that it is before
pub record IsLast (before : Tx → Tx → Bool) (p : Tx → Bool) (ms : List Tx) (t : Tx) : Type 0 where
  pub member : IsMember ms t
  pub passes : p t ≡ true
  pub none : (u : Tx) → IsMember ms u → p u ≡ true → before t u ≡ true → ⊥

-- before is transitive on the members, and none is before itself
pub record Order (before : Tx → Tx → Bool) (ms : List Tx) : Type 0 where
  pub itself : (t : Tx) → IsMember ms t → before t t ≡ true → ⊥
  pub along : (t u v : Tx) → IsMember ms t → IsMember ms u → IsMember ms v → before t u ≡ true → before u v ≡ true →
      before t v ≡ true

-- a last member at or above t
pub record LastAbove (before : Tx → Tx → Bool) (p : Tx → Bool) (ms xs : List Tx) (t : Tx) : Type 0 where
  pub last : Tx
  pub member : IsMember ms last
  pub passes : p last ≡ true
  pub none : (u : Tx) → IsMember xs u → p u ≡ true → before last u ≡ true → ⊥
  pub above : (t ≡ last) ⊎ (before t last ≡ true)

module _ (before : Tx → Tx → Bool) (p : Tx → Bool) (ms : List Tx) (order : Order before ms) where
  at_or_above : (t u v : Tx) → IsMember ms t → IsMember ms u → IsMember ms v → before t u ≡ true →
      (u ≡ v) ⊎ (before u v ≡ true) → before t v ≡ true
  at_or_above t u v mt mu mv h (inl e) = subst (λ (x : Tx). before t x ≡ true) e h
  at_or_above t u v mt mu mv h (inr g) = order.along t u v mt mu mv h g

  not_back : (x v : Tx) → IsMember ms x → IsMember ms v → (x ≡ v) ⊎ (before x v ≡ true) → before v x ≡ true → ⊥
  not_back x v mx mv (inl e) h = order.itself v mv (subst (λ (y : Tx). before v y ≡ true) e h)
  not_back x v mx mv (inr g) h = order.itself x mx (order.along x v x mx mv mx g h)

  step : (x : Tx) (xs : List Tx) → IsMember ms x
      → ((t : Tx) → IsMember ms t → p t ≡ true → LastAbove before p ms xs t)
      → (t : Tx) → IsMember ms t → p t ≡ true → LastAbove before p ms (x ∷ xs) t
  step x xs mx rest t mt pt = by_test (cases_Bool (p x && before first.last x))
    where
      first : LastAbove before p ms xs t
      first = rest t mt pt

      by_test : ((p x && before first.last x) ≡ true) ⊎ ((p x && before first.last x) ≡ false) →
          LastAbove before p ms (x ∷ xs) t
      by_test (inl passed) = let parts = and_parts (p x) (before first.last x) passed in let second = rest x mx parts.0 in record {
        last = second.last;
        member = second.member;
        passes = second.passes;
        none = λ u mu pu h. elim (member_cases x xs u mu) [
          | inl e ↦ not_back x second.last mx second.member second.above (ap (before second.last) e ∙ h)
          | inr r ↦ second.none u r pu h
        ];
        above = elim first.above [
          | inl e ↦ inr (at_or_above t x second.last mt mx second.member
              (ap (λ (y : Tx). before y x) e ∙ parts.1) second.above)
          | inr g ↦ inr (at_or_above t x second.last mt mx second.member
              (order.along t first.last x mt first.member mx g parts.1) second.above)
        ];
      }
      by_test (inr failed) = record {
        last = first.last;
        member = first.member;
        passes = first.passes;
        none = λ u mu pu h. elim (member_cases x xs u mu) [
          | inl e ↦ both_ways (p x && before first.last x) failed
              (and_from (p x) (before first.last x) (ap p e ∙ pu) (ap (before first.last) e ∙ h))
          | inr r ↦ first.none u r pu h
        ];
        above = first.above;
      }

  above_in : (xs : List Tx) → ((u : Tx) → IsMember xs u → IsMember ms u) → (t : Tx) → IsMember ms t → p t ≡ true →
      LastAbove before p ms xs t
  above_in [] inside t mt pt = record { last = t; member = mt; passes = pt; none = λ u mu pu h. member_none u mu; above = inl refl }
  above_in (x ∷ xs) inside t mt pt = step x xs (inside x (member_first x xs))
      (λ u mu pu. above_in xs (λ v mv. inside v (member_later x xs v mv)) u mu pu) t mt pt

  -- each member that passes has one at or above it that passes and that is before none that does
  pub last_above : (t : Tx) → IsMember ms t → p t ≡ true → LastAbove before p ms ms t
  last_above t mt pt = above_in ms (λ u mu. mu) t mt pt

-- a last one of all
pub IsLast-from_above : (before : Tx → Tx → Bool) (p : Tx → Bool) (ms : List Tx) (t : Tx) →
    (l : LastAbove before p ms ms t) → IsLast before p ms l.last
IsLast-from_above before p ms t l = record { member = l.member; passes = l.passes; none = l.none }

-- one list has the members of another and one more
pub record IsMore (small large : List Tx) (t : Tx) : Type 0 where
  pub old : (u : Tx) → IsMember small u → IsMember large u
  pub new : IsMember large t
  pub only : (u : Tx) → IsMember large u → IsMember small u ⊎ (u ≡ t)

-- the transaction makes the fact true, or false
abbrev pub turns : (Tx → Bool) → (Tx → Bool) → Bool → Tx → Bool
turns adds removes true t = adds t
turns adds removes false t = removes t

-- a maximal effect
abbrev pub is_top : (Tx → Tx → Bool) → (Tx → Bool) → List Tx → Tx → Bool
is_top before touch ms t = touch t && not (list_any (λ u. touch u && before t u) ms)

-- the value by the maximal effects
abbrev pub value_by : (Tx → Tx → Bool) → (Tx → Bool) → (Tx → Bool) → Bool → Bool → List Tx → Bool
value_by before adds removes adds_win start ms =
    cond (list_any (λ t. adds t || removes t) ms)
    (cond adds_win
    (list_any (λ t. is_top before (λ t. adds t || removes t) ms t && adds t) ms)
    (not (list_any (λ t. is_top before (λ t. adds t || removes t) ms t && removes t) ms)))
    start

-- one of two, where there are only two
cases_same : (d w : Bool) → (d ≡ w) ⊎ (d ≡ not w)
cases_same true true = inl refl
cases_same true false = inr refl
cases_same false true = inr refl
cases_same false false = inl refl

-- nothing is both
clash : (x d : Bool) → x ≡ d → x ≡ not d → ⊥
clash x true h g = both_ways x g h
clash x false h g = both_ways x h g

not_not : (d : Bool) → not (not d) ≡ d
not_not true = refl
not_not false = refl

by_won : (b : Bool) → b ≡ cond b true false
by_won true = refl
by_won false = refl

by_lost : (b : Bool) → not b ≡ cond b false true
by_lost true = refl
by_lost false = refl

module _ (before : Tx → Tx → Bool) (adds removes : Tx → Bool) (start : Bool) where
  abbrev touch : Tx → Bool
  touch t = adds t || removes t

  -- a maximal effect of the kind that wins
  abbrev wins_in : Bool → List Tx → Tx → Bool
  wins_in w ms t = is_top before touch ms t && turns adds removes w t

  value-form : (w : Bool) (ms : List Tx) → value_by before adds removes w start ms ≡ cond (list_any touch ms)
      (cond (list_any (wins_in w ms) ms) w (not w)) start
  value-form true ms = ap (λ (b : Bool). cond (list_any touch ms) b start) (by_won (list_any (wins_in true ms) ms))
  value-form false ms = ap (λ (b : Bool). cond (list_any touch ms) b start) (by_lost (list_any (wins_in false ms) ms))

  turns_touch : (d : Bool) (t : Tx) → turns adds removes d t ≡ true → touch t ≡ true
  turns_touch true t h = or_left (adds t) (removes t) h
  turns_touch false t h = or_right (adds t) (removes t) h

  touch_turns : (d : Bool) (t : Tx) → touch t ≡ true → (turns adds removes d t ≡ true) ⊎
      (turns adds removes (not d) t ≡ true)
  touch_turns true t h = or_cases (adds t) (removes t) h
  touch_turns false t h = elim (or_cases (adds t) (removes t) h) [ inl a ↦ inr a | inr r ↦ inl r ]

  -- what a maximal effect passes
  pub top_test : (ms : List Tx) (t : Tx) → IsLast before touch ms t → is_top before touch ms t ≡ true
  top_test ms t l = and_from (touch t) (not (list_any (λ u. touch u && before t u) ms)) l.passes
      (not_from_false (list_any (λ u. touch u && before t u) ms) (none_from (λ u. touch u && before t u) ms
      (λ u mu h. let parts = and_parts (touch u) (before t u) h in l.none u mu parts.0 parts.1)))

  pub test_top : (ms : List Tx) (t : Tx) → IsMember ms t → is_top before touch ms t ≡ true → IsLast before touch ms t
  test_top ms t m h =
      let parts = and_parts (touch t) (not (list_any (λ u. touch u && before t u) ms)) h in
      let alone = not-true (list_any (λ u. touch u && before t u) ms) parts.1 in
      record {
        member = m;
        passes = parts.0;
        none = λ u mu pu g. none_found (λ u. touch u && before t u) ms alone u mu
            (and_from (touch u) (before t u) pu g);
      }

  module _ (w : Bool) where
    abbrev value : List Tx → Bool
    value ms = value_by before adds removes w start ms

    -- a maximal effect of the kind that wins
    pub record Winner (ms : List Tx) : Type 0 where
      pub tx : Tx
      pub top : IsLast before touch ms tx
      pub wins : turns adds removes w tx ≡ true

    -- none touches the fact
    pub record Untouched (ms : List Tx) : Type 0 where
      pub none : (t : Tx) → IsMember ms t → touch t ≡ true → ⊥

    -- one touches it, and no maximal effect is of the kind that wins
    pub record Lost (ms : List Tx) : Type 0 where
      pub tx : Tx
      pub member : IsMember ms tx
      pub touches : touch tx ≡ true
      pub none : (t : Tx) → IsLast before touch ms t → turns adds removes w t ≡ true → ⊥

    any_winner : (ms : List Tx) → Winner ms → list_any (wins_in w ms) ms ≡ true
    any_winner ms r = any_from (wins_in w ms) ms r.tx r.top.member
        (and_from (is_top before touch ms r.tx) (turns adds removes w r.tx) (top_test ms r.tx r.top) r.wins)

    winner_any : (ms : List Tx) → list_any (wins_in w ms) ms ≡ true → Winner ms
    winner_any ms h =
        let f = found (wins_in w ms) ms h in
        let parts = and_parts (is_top before touch ms f.one) (turns adds removes w f.one) f.passes in
        record { tx = f.one; top = test_top ms f.one f.member parts.0; wins = parts.1 }

    pub value-untouched : (ms : List Tx) → Untouched ms → value ms ≡ start
    value-untouched ms r = value-form w ms ∙ ap (λ (b : Bool). cond b
        (cond (list_any (wins_in w ms) ms) w (not w)) start) (none_from touch ms r.none)

    pub value-won : (ms : List Tx) → Winner ms → value ms ≡ w
    value-won ms r = value-form w ms
        ∙ (ap (λ (b : Bool). cond b (cond (list_any (wins_in w ms) ms) w (not w)) start)
        (any_from touch ms r.tx r.top.member r.top.passes)
        ∙ ap (λ (b : Bool). cond b w (not w)) (any_winner ms r))

    pub value-lost : (ms : List Tx) → Lost ms → value ms ≡ not w
    value-lost ms r = value-form w ms
        ∙ (ap (λ (b : Bool). cond b (cond (list_any (wins_in w ms) ms) w (not w)) start)
        (any_from touch ms r.tx r.member r.touches)
        ∙ ap (λ (b : Bool). cond b w (not w)) (false_from_ne_true (list_any (wins_in w ms) ms)
        (λ h. let f = winner_any ms h in r.none f.tx f.top f.wins)))

    -- none touches the fact, or one wins, or none does
    pub judge : (ms : List Tx) → Untouched ms ⊎ (Winner ms ⊎ Lost ms)
    judge ms = elim (cases_Bool (list_any touch ms)) [
      | inr none ↦ inl (record { none = none_found touch ms none })
      | inl some ↦ elim (cases_Bool (list_any (wins_in w ms) ms)) [
        | inl won ↦ inr (inl (winner_any ms won))
        | inr lost ↦ let f = found touch ms some in inr (inr (record {
          tx = f.one;
          member = f.member;
          touches = f.passes;
          none = λ t top h. both_ways (list_any (wins_in w ms) ms) lost
              (any_winner ms (record { tx = t; top = top; wins = h }));
        }))
      ]
    ]

    apart_turns : ((t : Tx) → adds t ≡ true → removes t ≡ true → ⊥) → (d : Bool) (t : Tx) →
        turns adds removes d t ≡ true → turns adds removes (not d) t ≡ true → ⊥
    apart_turns apart true t h g = apart t h g
    apart_turns apart false t h g = apart t g h

    -- a maximal effect of a list is one of each part that has it
    top_part : (part whole : List Tx) → ((u : Tx) → IsMember part u → IsMember whole u) → (t : Tx) → IsMember part t →
        IsLast before touch whole t → IsLast before touch part t
    top_part part whole inside t m l = record {
      member = m;
      passes = l.passes;
      none = λ u mu pu h. l.none u
          (inside u mu) pu h;
    }

    -- lists with the same members give the same value
    pub value-same : (xs ys : List Tx) → ((u : Tx) → IsMember xs u → IsMember ys u) →
        ((u : Tx) → IsMember ys u → IsMember xs u) → value xs ≡ value ys
    value-same xs ys there back = elim (judge xs) [
      | inl u ↦ value-untouched xs u ∙ sym (value-untouched ys (record { none = λ t m h. u.none t (back t m) h }))
      | inr r ↦ elim r [
        | inl won ↦ value-won xs won ∙ sym (value-won ys (record {
          tx = won.tx;
          top = top_part ys xs back won.tx
              (there won.tx won.top.member) won.top;
          wins = won.wins;
        }))
        | inr lost ↦ value-lost xs lost ∙ sym (value-lost ys (record {
          tx = lost.tx;
          member = there lost.tx lost.member;
          touches = lost.touches;
          none = λ t top h. lost.none t (top_part xs ys there t (back t top.member) top) h;
        }))
      ]
    ]

    -- one more that does not touch the fact leaves its value
    pub value-untouching : (small large : List Tx) (t : Tx) → IsMore small large t → touch t ≡ false →
        value large ≡ value small
    value-untouching small large t more away = elim (judge small) [
      | inl u ↦ value-untouched large (record {
        none = λ x m h. elim
            (more.only x m) [ inl s ↦ u.none x s h | inr e ↦ other x h e ];
      }) ∙ sym (value-untouched small u)
      | inr r ↦ elim r [
        | inl won ↦ value-won large (record {
          tx = won.tx;
          wins = won.wins;
          top = record {
            member = more.old won.tx won.top.member;
            passes = won.top.passes;
            none = λ x m h g. elim (more.only x m) [ inl s ↦ won.top.none x s h g | inr e ↦ other x h e ];
          };
        }) ∙ sym (value-won small won)
        | inr lost ↦ value-lost large (record {
          tx = lost.tx;
          member = more.old lost.tx lost.member;
          touches = lost.touches;
          none = λ x top h. elim (more.only x top.member) [
            | inl s ↦ lost.none x
                (top_part small large more.old x s top) h
            | inr e ↦ other x top.passes e
          ];
        }) ∙ sym (value-lost small lost)
      ]
    ]
      where
        other : (x : Tx) → touch x ≡ true → x ≡ t → ⊥
        other x h e = both_ways (touch t) away (sym (ap touch e) ∙ h)

    -- it makes the fact as it turns it, where all others that touch the fact are before it
    pub value-top : ((t : Tx) → adds t ≡ true → removes t ≡ true → ⊥) → (ms : List Tx) (t : Tx) →
        IsLast before touch ms t
        → ((u : Tx) → IsMember ms u → touch u ≡ true → (u ≡ t) ⊎ (before u t ≡ true))
        → (d : Bool) → turns adds removes d t ≡ true → value ms ≡ d
    value-top apart ms t top below d h = elim (cases_same d w) [
      | inl e ↦ value-won ms (record {
        tx = t;
        top = top;
        wins = subst
            (λ (x : Bool). turns adds removes x t ≡ true) e h;
      }) ∙ sym e
      | inr e ↦ value-lost ms (record {
        tx = t;
        member = top.member;
        touches = top.passes;
        none = λ x last g. elim (below x last.member last.passes) [
          | inl s ↦ apart_turns apart w t (subst (λ (y : Tx). turns adds removes w y ≡ true) s g)
              (subst (λ (y : Bool). turns adds removes y t ≡ true) e h)
          | inr b ↦ last.none t top.member top.passes b
        ];
      }) ∙ sym e
    ]

    -- where taking away a member that is before none changes the fact, the member turned it so
    pub turned : ((t : Tx) → adds t ≡ true → removes t ≡ true → ⊥) → (small large : List Tx) (t : Tx) →
        IsMore small large t
        → ((u : Tx) → IsMember large u → before t u ≡ true → ⊥)
        → (d : Bool) → value small ≡ d → value large ≡ not d → turns adds removes (not d) t ≡ true
    turned apart small large t more last d was now = elim (cases_Bool (touch t)) [
      | inr away ↦ absurd (clash (value small) d was (sym (value-untouching small large t more away) ∙ now))
      | inl touches ↦ elim (touch_turns d t touches) [
        | inr it ↦ it
        | inl other ↦ absurd (never touches other)
      ]
    ]
      where
        top : touch t ≡ true → IsLast before touch large t
        top touches = record { member = more.new; passes = touches; none = λ u mu pu h. last u mu h }

        never : touch t ≡ true → turns adds removes d t ≡ true → ⊥
        never touches other = elim (cases_same d w) [
          | inl e ↦ clash (value large) d (value-won large (record {
            tx = t;
            top = top touches;
            wins = subst
                (λ (x : Bool). turns adds removes x t ≡ true) e other;
          }) ∙ sym e) now
          | inr e ↦ elim (judge large) [
            | inl u ↦ u.none t more.new touches
            | inr r ↦ elim r [
              | inr lost ↦ clash (value large) d (value-lost large lost ∙ sym e) now
              | inl won ↦ elim (more.only won.tx won.top.member) [
                | inl s ↦ clash (value small) w (value-won small
                    (record { tx = won.tx; top = top_part small large more.old won.tx s won.top; wins = won.wins }))
                    (was ∙ e)
                | inr s ↦ apart_turns apart w t (subst (λ (y : Tx). turns adds removes w y ≡ true) s won.wins)
                    (subst (λ (y : Bool). turns adds removes y t ≡ true) e other)
              ]
            ]
          ]
        ]

    -- a part of a list, told by a test
    pub record IsPart (test : Tx → Bool) (part whole : List Tx) : Type 0 where
      pub inside : (u : Tx) → IsMember part u → IsMember whole u
      pub passes : (u : Tx) → IsMember part u → test u ≡ true
      pub taken : (u : Tx) → IsMember whole u → test u ≡ true → IsMember part u

    -- a maximal effect outside the part that makes the fact as it is in the whole
    pub record Falsifier (part whole : List Tx) (d : Bool) : Type 0 where
      pub tx : Tx
      pub top : IsLast before touch whole tx
      pub turns : turns adds removes d tx ≡ true
      pub outside : IsMember part tx → ⊥

    -- where the part has another value, there is one
    pub falsifier : (test : Tx → Bool) (part whole : List Tx) → IsPart test part whole → Order before whole
        → (d : Bool) → value part ≡ d → value whole ≡ not d → Falsifier part whole (not d)
    falsifier test part whole is order d was now = elim (judge whole) [
      | inl u ↦ absurd (clash (value part) d was (value-untouched part
          (record { none = λ t m h. u.none t (is.inside t m) h }) ∙ (sym (value-untouched whole u) ∙ now)))
      | inr r ↦ elim r [
        | inl won ↦ let kind : w ≡ not d = sym (value-won whole won) ∙ now in record {
          tx = won.tx;
          top = won.top;
          turns = subst (λ (x : Bool). turns adds removes x won.tx ≡ true) kind won.wins;
          outside = λ m. clash (value part) d was (value-won part
              (record { tx = won.tx; top = top_part part whole is.inside won.tx m won.top; wins = won.wins }) ∙ kind);
        }
        | inr lost ↦ let kind : not w ≡ not d = sym (value-lost whole lost)
            ∙ now in elim (cases_Bool (list_any (λ u. is_top before touch whole u && not (test u)) whole)) [
              | inl some ↦
                  let f = found (λ u. is_top before touch whole u && not (test u)) whole some in
                  let parts = and_parts (is_top before touch whole f.one) (not (test f.one)) f.passes in
                  let top = test_top whole f.one f.member parts.0 in
                  record {
                    tx = f.one;
                    top = top;
                    turns = elim (touch_turns w f.one top.passes) [
                      | inl g ↦ absurd (lost.none f.one top g)
                      | inr g ↦ subst (λ (x : Bool). turns adds removes x f.one ≡ true) kind g
                    ];
                    outside = λ m. both_ways (test f.one) (not-true (test f.one) parts.1) (is.passes f.one m);
                  }
              | inr none ↦ absurd (all_inside lost kind (λ u top. elim (cases_Bool (test u)) [
                | inl t ↦ is.taken u top.member t
                | inr t ↦ absurd (none_found (λ v. is_top before touch whole v && not (test v)) whole none u top.member
                    (and_from (is_top before touch whole u) (not (test u)) (top_test whole u top)
                    (not_from_false (test u) t)))
              ]))
            ]
      ]
    ]
      where
        -- not all maximal effects are in the part
        all_inside : (lost : Lost whole) → not w ≡ not d → ((u : Tx) → IsLast before touch whole u → IsMember part u) →
            ⊥
        all_inside lost kind inside = elim (judge part) [
          | inl u ↦ let l = last_above before touch whole order lost.tx lost.member lost.touches in
              u.none l.last (inside l.last (IsLast-from_above before touch whole lost.tx l)) l.passes
          | inr r ↦ elim r [
            | inr other ↦ clash (value part) d was (value-lost part other ∙ kind)
            | inl won ↦ lost.none won.tx (record {
              member = is.inside won.tx won.top.member;
              passes = won.top.passes;
              none = λ u mu pu h.
                  let l = last_above before touch whole order u mu pu in
                  won.top.none l.last (inside l.last (IsLast-from_above before touch whole u l)) l.passes
                  (at_or_above before touch whole order won.tx u l.last
                  (is.inside won.tx won.top.member) mu l.member h l.above);
            }) won.wins
          ]
        ]

    -- a maximal effect that wins decides each part that has it
    pub value-decided : (part whole : List Tx) → ((u : Tx) → IsMember part u → IsMember whole u) → (t : Tx) →
        IsMember part t → IsLast before touch whole t → turns adds removes w t ≡ true → value part ≡ w
    value-decided part whole inside t m top h = value-won part
        (record { tx = t; top = top_part part whole inside t m top; wins = h })

    -- what is at or above a maximal effect does not turn the fact the other way
    pub spared : ((t : Tx) → adds t ≡ true → removes t ≡ true → ⊥) → (ms : List Tx) (t u : Tx) →
        IsLast before touch ms t → IsMember ms u → (t ≡ u) ⊎ (before t u ≡ true)
        → (d : Bool) → turns adds removes (not d) t ≡ true → turns adds removes d u ≡ true → ⊥
    spared apart ms t u top mu (inl e) d h g = apart_turns apart d u g
        (subst (λ (y : Tx). turns adds removes (not d) y ≡ true) e h)
    spared apart ms t u top mu (inr b) d h g = top.none u mu (turns_touch d u g) b

    -- none touches the fact, and it is true at the start
    pub record StartsTrue (ms : List Tx) : Type 0 where
      pub none : (t : Tx) → IsMember ms t → touch t ≡ true → ⊥
      pub starts : start ≡ true

    -- a maximal effect is an add
    pub record TopAdd (ms : List Tx) : Type 0 where
      pub tx : Tx
      pub top : IsLast before touch ms tx
      pub is_add : adds tx ≡ true

    -- a fact is true only where it starts so and none touches it, or where a maximal effect adds it
    pub true_source : (ms : List Tx) → Order before ms → value ms ≡ true → StartsTrue ms ⊎ TopAdd ms
    true_source ms order h = elim (judge ms) [
      | inl u ↦ inl (record { none = u.none; starts = sym (value-untouched ms u) ∙ h })
      | inr r ↦ elim r [
        | inl won ↦ inr (record {
          tx = won.tx;
          top = won.top;
          is_add = subst (λ (x : Bool). turns adds removes x won.tx ≡ true) (sym (value-won ms won) ∙ h) won.wins;
        })
        | inr lost ↦
            let l = last_above before touch ms order lost.tx lost.member lost.touches in
            inr (record {
              tx = l.last;
              top = IsLast-from_above before touch ms lost.tx l;
              is_add = elim (touch_turns w l.last l.passes) [
                | inl g ↦ absurd (lost.none l.last (IsLast-from_above before touch ms lost.tx l) g)
                | inr g ↦ subst (λ (x : Bool). turns adds removes x l.last ≡ true) (sym (value-lost ms lost) ∙ h) g
              ];
            })
      ]
    ]

    -- a fact is true only in the base or where one adds it
    pub true_from : (ms : List Tx) → Order before ms → value ms ≡ true → (start ≡ true) ⊎ Found adds ms
    true_from ms order h = elim (true_source ms order h) [
      | inl base ↦ inl base.starts
      | inr added ↦ inr (record { one = added.tx; member = added.top.member; passes = added.is_add })
    ]

    -- one more that all others are before: its plain application
    pub value-plain : ((t : Tx) → adds t ≡ true → removes t ≡ true → ⊥) → (small large : List Tx) (t : Tx) →
        IsMore small large t
        → ((u : Tx) → IsMember small u → before u t ≡ true) → ((u : Tx) → IsMember large u → before t u ≡ true → ⊥)
        → value large ≡ (adds t || (value small && not (removes t)))
    value-plain apart small large t more below last = elim (cases_Bool (touch t)) [
      | inr away ↦ value-untouching small large t more away ∙ sym
          (plain_untouched (adds t) (removes t) (value small) away)
      | inl touches ↦ elim (or_cases (adds t) (removes t) touches) [
        | inl added ↦ value-top apart large t (top touches) others true added
            ∙ sym (or_left (adds t) (value small && not (removes t)) added)
        | inr removed ↦ value-top apart large t (top touches) others false removed
            ∙ sym (plain_removed (adds t) (removes t) (value small)
            (false_from_ne_true (adds t) (λ a. apart t a removed)) removed)
      ]
    ]
      where
        top : touch t ≡ true → IsLast before touch large t
        top touches = record { member = more.new; passes = touches; none = λ u mu pu h. last u mu h }

        others : (u : Tx) → IsMember large u → touch u ≡ true → (u ≡ t) ⊎ (before u t ≡ true)
        others u m h = elim (more.only u m) [ inl s ↦ inr (below u s) | inr e ↦ inl e ]

        plain_untouched : (a r v : Bool) → (a || r) ≡ false → (a || (v && not r)) ≡ v
        plain_untouched true r v h = absurd (true≢false h)
        plain_untouched false true v h = absurd (true≢false h)
        plain_untouched false false true h = refl
        plain_untouched false false false h = refl

        plain_removed : (a r v : Bool) → a ≡ false → r ≡ true → (a || (v && not r)) ≡ false
        plain_removed true r v h g = absurd (true≢false h)
        plain_removed false false v h g = absurd (false≢true g)
        plain_removed false true true h g = refl
        plain_removed false true false h g = refl
