-- Laws of rows.
--
--   origin-at            what a list by origin has for an origin
--   row-same             rows by tests that are the same
--   row-none             no transaction passes a test that nothing passes
--   row-later            the later one of two rows passes one of their tests
--   row-removing         the last removes by a pattern that matches the fact, from the rows of a table
--   lasts-rows           so the rows give the last effects on the fact
--   row-push             a transaction at the end of a history is put into the rows of the tests that it passes
--   row-empty            nothing is in the rows of the history without transactions
use Rattle.std.proofs.Common.{◌≡◌, ℕ, zero, suc, ◌+◌, ◌<◌, ◌≤◌, Bool, true, false, not, ◌&&◌, ◌||◌, cond, List, [], ◌∷◌, ◌++◌, length, refl, sym, ◌∙◌, ap, subst, arith, Option, Some, None, slice_get, take, ◌⊎◌, inl, inr}
use Rattle.std.specs.Prelude.{◌==◌, nat_lt, MatchOption, replicate, slice_index_or}
use Rattle.std.specs.List.{fold, list_any}
use Rattle.std.proofs.lemmas.Bool.{and_parts, and_from, not_from_false, cases_lt, both_ways, false_from_ne_true, or_cases, or_left, or_right, false≢true, eqb-true, eq-eqb, ltb-true, lt-ltb}
use Rattle.std.proofs.Math.Bool.{or-false, or_assoc}
use Rattle.std.proofs.lemmas.List.{get_or_past}
use Rattle.std.proofs.lemmas.List.FromFn.{get_or-map-range_with_len, length-map-range_with_len}
use Rattle.ipa_spec.specs.Actions.{effects_of}
use Rattle.ipa_spec.specs.declared.specification.Specification.{Specification}
use Rattle.ipa_logic.specs.Touches.{some_takes}
use Rattle.ipa_logic.specs.declared.facts.Fact.{Fact}
use Rattle.ipa_history.specs.HistoryLaws.{count_grows}
use Rattle.ipa_history.specs.Histories.{IsMember, number_of, IsHistory}
use Rattle.ipa_history.specs.MemberLaws.{member_none, member-append_left}
use Rattle.ipa_history.specs.NextLaws.{IsMore-push}
use Rattle.ipa_history.specs.Values.{adds_fact, removes_fact, touches_fact}
use Rattle.ipa_history.specs.declared.history.Tx.{Tx}
use Rattle.ipa_sets.specs.KeyLaws.{adds-keyed, takes-keyed}
use Rattle.ipa_sets.specs.Keys.{add_key, remove_keys, has_key}
use Rattle.ipa_sets.specs.Lasts.{tx_at, NonePasses, IsLastIn, IsRowOf, IsLastOn, AreLastsOf}
use Rattle.ipa_sets.specs.Rows.{RowTable, by_origin, no_row, row_in, later, later_row, removing_row, last_from, lasts_of_rows, put_in}
use Rattle.ipa_sets.specs.declared.keys.Key.{Key}
use Rattle.ipa_sets.specs.declared.lasts.Last.{Last}

-- what a list by origin has for an origin
pub origin-at : {X : Type 0} (f : ℕ → Option X) (o : ℕ) → o < 16 → slice_index_or (by_origin f) o None ≡ f o
origin-at f o l = get_or-map-range_with_len f 0 16 o o None l (omega arith)

-- and none past the last
pub origin-past : {X : Type 0} (f : ℕ → Option X) (o : ℕ) → 16 ≤ o → slice_index_or (by_origin f) o None ≡ None
origin-past f o l = let long = length-map-range_with_len f 0 16 in
    get_or_past (by_origin f) o None (omega (arith, l, long))

none-at : {X : Type 0} (n o : ℕ) → slice_index_or (replicate n (let x : Option X = None in x)) o None ≡ None
none-at zero o = refl
none-at (suc n) zero = refl
none-at (suc n) (suc o) = none-at n o

module _ (ms : List Tx) where
  -- rows by tests that are the same
  pub row-same : (p q : Tx → Bool) (row : List (Option Tx)) → ((t : Tx) → p t ≡ q t) → IsRowOf p ms row →
      IsRowOf q ms row
  row-same p q row e is = subst (λ (r : Tx → Bool). IsRowOf r ms row) (λ i t. e t i) is

  -- no transaction passes a test that nothing passes
  pub row-none : IsRowOf (λ t. false) ms no_row
  row-none = record {
    each = λ o. subst (λ (x : Option Tx). IsLastIn (λ t. false) o ms x) (sym (none-at 16 o))
        (record { none = λ u m e h. false≢true h });
  }

  -- the later one of two passes one of their tests
  later-last : (p q : Tx → Bool) (o : ℕ) (x y : Option Tx) → IsLastIn p o ms x → IsLastIn q o ms y →
      IsLastIn (λ t. p t || q t) o ms (later x y)
  later-last p q o None None n m = record {
    none = λ u mu e h. elim (or_cases (p u) (q u) h) [
      | inl a ↦ n.none u mu e a
      | inr b ↦ m.none u mu e b
    ];
  }
  later-last p q o None (Some u) n l = record {
    member = l.member;
    passes = or_right (p u) (q u) l.passes;
    made = l.made;
    last = λ v mv e h. elim (or_cases (p v) (q v) h) [ inl a ↦ absurd (n.none v mv e a) | inr b ↦ l.last v mv e b ];
  }
  later-last p q o (Some t) None l n = record {
    member = l.member;
    passes = or_left (p t) (q t) l.passes;
    made = l.made;
    last = λ v mv e h. elim (or_cases (p v) (q v) h) [ inl a ↦ l.last v mv e a | inr b ↦ absurd (n.none v mv e b) ];
  }
  later-last p q o (Some t) (Some u) l k = by_order (nat_lt t.dot.number u.dot.number) refl
    where
      by_order : (b : Bool) → nat_lt t.dot.number u.dot.number ≡ b →
          IsLastIn (λ t. p t || q t) o ms (cond b (Some u) (Some t))
      by_order true e = record {
        member = k.member;
        passes = or_right (p u) (q u) k.passes;
        made = k.made;
        last = λ v mv made h. elim (or_cases (p v) (q v) h) [
          | inl a ↦ let low = l.last v mv made a in let less = ltb-true t.dot.number u.dot.number e in
              omega (arith, low, less)
          | inr b ↦ k.last v mv made b
        ];
      }
      by_order false e = record {
        member = l.member;
        passes = or_left (p t) (q t) l.passes;
        made = l.made;
        last = λ v mv made h. elim (or_cases (p v) (q v) h) [
          | inl a ↦ l.last v mv made a
          | inr b ↦ let low = k.last v mv made b in let more = not_less e in omega (arith, low, more)
        ];
      }
        where
          not_less : nat_lt t.dot.number u.dot.number ≡ false → u.dot.number ≤ t.dot.number
          not_less e = elim (cases_lt t.dot.number u.dot.number) [
            | inl less ↦ absurd (both_ways (nat_lt t.dot.number u.dot.number) e (lt-ltb t.dot.number u.dot.number less))
            | inr more ↦ more
          ]

  module _ (origins : (t : Tx) → IsMember ms t → t.dot.origin < 16) where
    none-past : (p : Tx → Bool) (o : ℕ) → 16 ≤ o → NonePasses p o ms
    none-past p o past = record { none = λ u m e h. let low = origins u m in absurd (omega (arith, past, low, e)) }

    -- so the later row of two is one of either test
    pub row-later : (p q : Tx → Bool) (one other : List (Option Tx)) → IsRowOf p ms one → IsRowOf q ms other →
        IsRowOf (λ t. p t || q t) ms (later_row one other)
    unfolding later_row
    row-later p q one other a b = record {
      each = λ o. elim (cases_lt o 16) [
        | inl within ↦ subst (λ (x : Option Tx). IsLastIn (λ t. p t || q t) o ms x)
            (sym (origin-at (λ o. later (tx_at one o) (tx_at other o)) o within))
            (later-last p q o (tx_at one o) (tx_at other o) (a.each o) (b.each o))
        | inr past ↦ subst (λ (x : Option Tx). IsLastIn (λ t. p t || q t) o ms x)
            (sym (origin-past (λ o. later (tx_at one o) (tx_at other o)) o past)) (none-past (λ t. p t || q t) o past)
      ];
    }

    -- rows of some keys, one after the other
    rows-fold : (s : Specification) (table : RowTable) →
        ((k : Key) → IsRowOf (has_key s k) ms (row_in table k)) →
        (ks : List Key) (p : Tx → Bool) (row : List (Option Tx)) →
        IsRowOf p ms row → IsRowOf (λ t. p t || list_any (λ k. has_key s k t) ks) ms
        (fold (λ row k. later_row row (row_in table k)) row ks)
    rows-fold s table rows [] p row is = row-same p (λ t. p t || false) row (λ t. sym (or-false (p t))) is
    rows-fold s table rows (k ∷ ks) p row is =
        row-same (λ t. (p t || has_key s k t) || list_any (λ k. has_key s k t) ks)
        (λ t. p t || (has_key s k t || list_any (λ k. has_key s k t) ks))
        (fold (λ row k. later_row row (row_in table k)) (later_row row (row_in table k)) ks)
        (λ t. or_assoc (p t) (has_key s k t) (list_any (λ k. has_key s k t) ks))
        (rows-fold s table rows ks (λ t. p t || has_key s k t) (later_row row (row_in table k))
        (row-later p (has_key s k) row (row_in table k) is (rows k)))

    module _ (s : Specification) (f : Fact) (table : RowTable)
        (rows : (k : Key) → IsRowOf (has_key s k) ms (row_in table k)) where
      abbrev takes_fact : Tx → Bool
      takes_fact t = some_takes s (effects_of s t.action) t.args f

      -- the last transaction of each origin with a remove that matches the fact
      pub row-removing : IsRowOf takes_fact ms (removing_row table f)
      unfolding removing_row
      row-removing = row-same (λ t. false || list_any (λ k. has_key s k t) (remove_keys f)) takes_fact
          (fold (λ row k. later_row row (row_in table k)) no_row (remove_keys f)) (λ t. takes-keyed s f t)
          (rows-fold s table rows (remove_keys f) (λ t. false) no_row row-none)

      row-adding : IsRowOf (adds_fact s f) ms (row_in table (add_key f))
      row-adding = row-same (has_key s (add_key f)) (adds_fact s f) (row_in table (add_key f)) (λ t. adds-keyed s f t)
          (rows (add_key f))

      -- what touches the fact adds it, or has a remove that matches it
      touch-cases : (t : Tx) → touches_fact s f t ≡ true → (adds_fact s f t ≡ true) ⊎ (takes_fact t ≡ true)
      touch-cases t h = elim (or_cases (adds_fact s f t) (removes_fact s f t) h) [
        | inl a ↦ inl a
        | inr r ↦ inr (and_parts (takes_fact t) (not (adds_fact s f t)) r).0
      ]

      removing : (t : Tx) → takes_fact t ≡ true → adds_fact s f t ≡ false → touches_fact s f t ≡ true
      removing t h alone = or_right (adds_fact s f t) (removes_fact s f t)
          (and_from (takes_fact t) (not (adds_fact s f t)) h (not_from_false (adds_fact s f t) alone))

      -- the last effect of an origin by its last that adds the fact and its last with a remove that matches it
      from-last : (o : ℕ) (x y : Option Tx) → IsLastIn (adds_fact s f) o ms x → IsLastIn takes_fact o ms y →
          MatchOption (last_from x y) (NonePasses (touches_fact s f) o ms) (IsLastOn s f ms o)
      from-last o None None n m = record {
        none = λ u mu e h. elim (touch-cases u h) [
          | inl a ↦ n.none u mu e a
          | inr b ↦ m.none u mu e b
        ];
      }
      from-last o None (Some r) n l =
          let alone : adds_fact s f r ≡ false =
          false_from_ne_true (adds_fact s f r) (λ a. n.none r l.member l.made a) in
          record {
            last = record {
              member = l.member;
              passes = removing r l.passes alone;
              made = l.made;
              last = λ v mv e h. elim (touch-cases v h) [ inl a ↦ absurd (n.none v mv e a) | inr b ↦ l.last v mv e b ];
            };
            kind = sym alone;
          }
      from-last o (Some a) None l n = record {
        last = record {
          member = l.member;
          passes = or_left (adds_fact s f a) (removes_fact s f a) l.passes;
          made = l.made;
          last = λ v mv e h. elim (touch-cases v h) [ inl b ↦ l.last v mv e b | inr c ↦ absurd (n.none v mv e c) ];
        };
        kind = sym l.passes;
      }
      from-last o (Some a) (Some r) l k = by_order (nat_lt a.dot.number r.dot.number) refl
        where
          by_order : (b : Bool) → nat_lt a.dot.number r.dot.number ≡ b →
              MatchOption (cond b (Some (record { tx = r; adds = false })) (Some (record { tx = a; adds = true })))
              (NonePasses (touches_fact s f) o ms) (IsLastOn s f ms o)
          by_order true e =
              let less = ltb-true a.dot.number r.dot.number e in
              let alone : adds_fact s f r ≡ false = false_from_ne_true (adds_fact s f r)
              (λ h. let low = l.last r k.member k.made h in omega (arith, low, less)) in
              record {
                last = record {
                  member = k.member;
                  passes = removing r k.passes alone;
                  made = k.made;
                  last = λ v mv made h. elim (touch-cases v h) [
                    | inl b ↦ let low = l.last v mv made b in omega (arith, low, less)
                    | inr c ↦ k.last v mv made c
                  ];
                };
                kind = sym alone;
              }
          by_order false e = record {
            last = record {
              member = l.member;
              passes = or_left (adds_fact s f a) (removes_fact s f a) l.passes;
              made = l.made;
              last = λ v mv made h. elim (touch-cases v h) [
                | inl b ↦ l.last v mv made b
                | inr c ↦ let low = k.last v mv made c in let more = not_less e in omega (arith, low, more)
              ];
            };
            kind = sym l.passes;
          }
            where
              not_less : nat_lt a.dot.number r.dot.number ≡ false → r.dot.number ≤ a.dot.number
              not_less e = elim (cases_lt a.dot.number r.dot.number) [
                | inl less ↦ absurd (both_ways (nat_lt a.dot.number r.dot.number) e
                    (lt-ltb a.dot.number r.dot.number less))
                | inr more ↦ more
              ]

      -- so the rows give the last effects on the fact
      pub lasts-rows : AreLastsOf s f ms (lasts_of_rows (row_in table (add_key f)) (removing_row table f))
      unfolding lasts_of_rows
      lasts-rows = record {
        each = λ o. elim (cases_lt o 16) [
          | inl within ↦ subst (λ (x : Option Last). MatchOption x (NonePasses (touches_fact s f) o ms)
              (IsLastOn s f ms o))
              (sym (origin-at (λ o. last_from (tx_at (row_in table (add_key f)) o) (tx_at (removing_row table f) o)) o
              within))
              (from-last o (tx_at (row_in table (add_key f)) o) (tx_at (removing_row table f) o) (row-adding.each o)
              (row-removing.each o))
          | inr past ↦ subst (λ (x : Option Last). MatchOption x (NonePasses (touches_fact s f) o ms)
              (IsLastOn s f ms o))
              (sym (origin-past (λ o. last_from (tx_at (row_in table (add_key f)) o) (tx_at (removing_row table f) o))
              o past))
              (none-past (touches_fact s f) o past)
        ];
      }

place-below : {X : Type 0} (xs : List X) (j : ℕ) (x : X) → slice_get xs j ≡ Some x → j < length xs
place-below [] j x e = let n : None ≡ Some x = e in absurd cc
place-below (y ∷ ys) zero x e = omega arith
place-below (y ∷ ys) (suc j) x e = let l = place-below ys j x e in omega (arith, l)

place-last : {X : Type 0} (xs : List X) (x : X) → slice_get (xs ++ x ∷ []) (length xs) ≡ Some x
place-last [] x = refl
place-last (y ∷ ys) x = place-last ys x

place-early : {X : Type 0} (xs ys : List X) (j : ℕ) (x : X) → slice_get xs j ≡ Some x → slice_get (xs ++ ys) j ≡ Some x
place-early [] ys j x e = let n : None ≡ Some x = e in absurd cc
place-early (z ∷ zs) ys zero x e = e
place-early (z ∷ zs) ys (suc j) x e = place-early zs ys j x e

-- those of its origin have lesser numbers than a transaction at the end of a history
lower-own : (taken : List Tx) (t : Tx) → IsHistory (taken ++ t ∷ []) → (u : Tx) → IsMember taken u →
    u.dot.origin ≡ t.dot.origin → u.dot.number < t.dot.number
lower-own taken t is u m e =
    let less = place-below taken m.place u m.at in
    let at = place-early taken (t ∷ []) m.place u m.at in
    let first : u.dot.number ≡ number_of u.dot.origin (take m.place (taken ++ t ∷ [])) + 1 = is.numbers m.place u at in
    let here : number_of u.dot.origin (take m.place (taken ++ t ∷ [])) ≡ number_of t.dot.origin
    (take m.place (taken ++ t ∷ []))
    = ap (λ (o : ℕ). number_of o (take m.place (taken ++ t ∷ []))) e in
    let second : t.dot.number ≡ number_of t.dot.origin (take (length taken) (taken ++ t ∷ [])) + 1
    = is.numbers (length taken) t (place-last taken t) in
    let grows : number_of t.dot.origin (take m.place (taken ++ t ∷ [])) < number_of t.dot.origin
    (take (length taken) (taken ++ t ∷ []))
    = count_grows (λ (v : Tx). v.dot.origin == t.dot.origin) (taken ++ t ∷ []) m.place (length taken) u at
    (eq-eqb u.dot.origin t.dot.origin e) less in
    omega (arith, first, here, second, grows)

-- a row without transactions is one of no transactions
pub row-empty : (p : Tx → Bool) → IsRowOf p [] no_row
row-empty p = record {
  each = λ o. subst (λ (x : Option Tx). IsLastIn p o [] x) (sym (none-at 16 o))
      (record { none = λ u m e h. member_none u m });
}

-- a transaction at the end of a history is put into the rows of the tests that it passes
pub row-push : (taken : List Tx) (t : Tx) → IsHistory (taken ++ t ∷ []) → (p : Tx → Bool) (old new : List (Option Tx)) →
    ((o : ℕ) → tx_at new o ≡ put_in (p t) t old o) → IsRowOf p taken old → IsRowOf p (taken ++ t ∷ []) new
row-push taken t is p old new put was = record {
  each = λ o. subst (λ (x : Option Tx). IsLastIn p o (taken ++ t ∷ []) x) (sym (put o))
      (by_put o (p t && (o == t.dot.origin)) refl);
}
  where
    stays : (o : ℕ) (x : Option Tx) → (p t && (o == t.dot.origin)) ≡ false → IsLastIn p o taken x →
        IsLastIn p o (taken ++ t ∷ []) x
    stays o None away n = record {
      none = λ u m e h. elim ((IsMore-push taken t).only u m) [
        | inl before ↦ n.none u before e h
        | inr same ↦ away_here o away (sym (ap (λ (v : Tx). v.dot.origin) same) ∙ e) (sym (ap p same) ∙ h)
      ];
    }
      where
        away_here : (o : ℕ) → (p t && (o == t.dot.origin)) ≡ false → t.dot.origin ≡ o → p t ≡ true → ⊥
        away_here o away e h = both_ways (p t && (o == t.dot.origin)) away
            (and_from (p t) (o == t.dot.origin) h (eq-eqb o t.dot.origin (sym e)))
    stays o (Some v) away l = record {
      member = member-append_left taken (t ∷ []) v l.member;
      passes = l.passes;
      made = l.made;
      last = λ u m e h. elim ((IsMore-push taken t).only u m) [
        | inl before ↦ l.last u before e h
        | inr same ↦ absurd (both_ways (p t && (o == t.dot.origin)) away (and_from (p t) (o == t.dot.origin)
            (sym (ap p same) ∙ h) (eq-eqb o t.dot.origin (sym (sym (ap (λ (v : Tx). v.dot.origin) same) ∙ e)))))
      ];
    }

    by_put : (o : ℕ) (b : Bool) → (p t && (o == t.dot.origin)) ≡ b →
        IsLastIn p o (taken ++ t ∷ []) (cond b (Some t) (tx_at old o))
    by_put o false away = stays o (tx_at old o) away (was.each o)
    by_put o true here =
        let parts = and_parts (p t) (o == t.dot.origin) here in
        let origin : o ≡ t.dot.origin = eqb-true o t.dot.origin parts.1 in
        record {
          member = (IsMore-push taken t).new;
          passes = parts.0;
          made = sym origin;
          last = λ u m e h. elim ((IsMore-push taken t).only u m) [
            | inl before ↦ let low = lower-own taken t is u before (e ∙ origin) in omega (arith, low)
            | inr same ↦ let equal : u.dot.number ≡ t.dot.number = ap (λ (v : Tx). v.dot.number) same in
                omega (arith, equal)
          ];
        }
