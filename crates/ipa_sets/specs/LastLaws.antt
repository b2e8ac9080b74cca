-- The last effects of each origin give the value and the age of the fact.
--
--   list-last, last-list   an entry of the list is the last effect of an origin, and the other way round
--   value-lasts            the value is that of the last effects
--   age-lasts              and so is the age
use Rattle.std.proofs.Common.{◌≡◌, ℕ, zero, suc, ◌≤◌, Bool, true, false, not, cond, List, [], ◌∷◌, filter, refl, sym, ◌∙◌, ap, subst, arith, Option, Some, None, slice_get, inl, inr}
use Rattle.std.specs.Prelude.{MatchOption, is_some}
use Rattle.std.specs.List.{fold, list_any}
use Rattle.std.specs.Option.{option_map_or}
use Rattle.std.proofs.lemmas.Bool.{and_parts, and_from, not-true, not_from_false, cases_lt, both_ways, or_cases, false≢true}
use Rattle.ipa_clock.specs.declared.dot.Dot.{Dot}
use Rattle.ipa_spec.specs.declared.specification.Specification.{Specification}
use Rattle.ipa_spec.specs.Actions.{effects_of}
use Rattle.ipa_logic.specs.Facts.{has}
use Rattle.ipa_logic.specs.Touches.{has_rule, is_add_wins, some_takes}
use Rattle.ipa_logic.specs.declared.facts.Age.{Age}
use Rattle.ipa_logic.specs.declared.facts.Fact.{Fact}
use Rattle.ipa_history.specs.Ages.{age_of_tx, greater_age, no_age, age_of}
use Rattle.ipa_history.specs.AgeLaws.{greatest_same}
use Rattle.ipa_history.specs.EffectLaws.{Order, IsLast, IsLast-from_above, last_above}
use Rattle.ipa_history.specs.Histories.{IsMember, is_before, IsHistory}
use Rattle.ipa_history.specs.HistoryLaws.{Order-part, one_named}
use Rattle.ipa_history.specs.MemberLaws.{member_cases, member_first, member_later, member_none, found, any_from, none_from, none_found, same_bool, member-filter, filter_member}
use Rattle.ipa_history.specs.Values.{adds_fact, removes_fact, touches_fact, is_maximal, is_maximal_add, is_maximal_remove, value_of}
use Rattle.ipa_history.specs.declared.history.Tx.{Tx}
use Rattle.ipa_sets.specs.MaximalLaws.{maximal_last, last_maximal}
use Rattle.ipa_sets.specs.Lasts.{NonePasses, last_of, IsLastOn, AreLastsOf, is_passed, adds_last, removes_last, value_by_lasts, age_of_last, age_by_lasts}
use Rattle.ipa_sets.specs.OriginLaws.{before-number}
use Rattle.ipa_sets.specs.declared.lasts.Last.{Last}

-- the last effect of an origin is an entry of the list
pub last-list : (xs : List (Option Last)) (o : ℕ) (l : Last) → last_of xs o ≡ Some l → IsMember xs (Some l)
last-list [] o l e = let n : None ≡ Some l = e in absurd cc
last-list (x ∷ xs) zero l e = record { place = 0; at = let n : x ≡ Some l = e in cc }
last-list (x ∷ xs) (suc o) l e = member_later x xs (Some l) (last-list xs o l e)

-- and an entry of the list is the last effect of an origin
pub list-last : (xs : List (Option Last)) (o : ℕ) (l : Last) → slice_get xs o ≡ Some (Some l) → last_of xs o ≡ Some l
list-last [] o l e = let n : None ≡ Some (Some l) = e in absurd cc
list-last (x ∷ xs) zero l e = let n : Some x ≡ Some (Some l) = e in let t : x ≡ Some l = cc in t
list-last (x ∷ xs) (suc o) l e = list-last xs o l e

-- dots with the same parts are the same
same-dot : (d e : Dot) → d.origin ≡ e.origin → d.number ≡ e.number → d ≡ e
same-dot d e a b = λ i. record { origin = a i; number = b i }

-- what removes the fact does not add it
pub removes-alone : (s : Specification) (f : Fact) (t : Tx) → removes_fact s f t ≡ true → adds_fact s f t ≡ false
removes-alone s f t h =
    let parts = and_parts (some_takes s (effects_of s t.action) t.args f) (not (adds_fact s f t)) h in
    not-true (adds_fact s f t) parts.1

-- the effect, if there is one, comes after this one
abbrev passed_by : Last → Option Last → Bool
passed_by l x = option_map_or (λ n. is_before l.tx n.tx) x false

-- the transactions of the entries of a list
abbrev txs_of : List (Option Last) → List Tx
txs_of [] = []
txs_of (None ∷ xs) = txs_of xs
txs_of (Some l ∷ xs) = l.tx ∷ txs_of xs

-- an entry gives one of them
txs-there : (xs : List (Option Last)) (l : Last) → IsMember xs (Some l) → IsMember (txs_of xs) l.tx
txs-there [] l m = absurd (member_none (Some l) m)
txs-there (None ∷ xs) l m = elim (member_cases None xs (Some l) m) [
  | inl e ↦ let n : None ≡ Some l = e in absurd cc
  | inr r ↦ txs-there xs l r
]
txs-there (Some k ∷ xs) l m = elim (member_cases (Some k) xs (Some l) m) [
  | inl e ↦ subst (λ (x : Last). IsMember (k.tx ∷ txs_of xs) x.tx)
      (let n : Some k ≡ Some l = e in let s : k ≡ l = cc in s) (member_first k.tx (txs_of xs))
  | inr r ↦ member_later k.tx (txs_of xs) l.tx (txs-there xs l r)
]

-- and each of them is that of an entry
record IsTxOf (xs : List (Option Last)) (t : Tx) : Type 0 where
  pub entry : Last
  pub member : IsMember xs (Some entry)
  pub tx : entry.tx ≡ t

txs-back : (xs : List (Option Last)) (t : Tx) → IsMember (txs_of xs) t → IsTxOf xs t
txs-back [] t m = absurd (member_none t m)
txs-back (None ∷ xs) t m = let r = txs-back xs t m in
    record { entry = r.entry; member = member_later None xs (Some r.entry) r.member; tx = r.tx }
txs-back (Some k ∷ xs) t m = elim (member_cases k.tx (txs_of xs) t m) [
  | inl e ↦ record { entry = k; member = member_first (Some k) xs; tx = e }
  | inr r ↦ let b = txs-back xs t r in
      record { entry = b.entry; member = member_later (Some k) xs (Some b.entry) b.member; tx = b.tx }
]

-- a fold over entries is one over their transactions
fold-txs : (xs : List (Option Last)) (a : Age) → ((x : Option Last) → IsMember xs x → is_some x ≡ true)
    → fold (λ age x. greater_age age (age_of_last x)) a xs ≡ fold (λ age t. greater_age age (age_of_tx t)) a (txs_of xs)
fold-txs [] a all = refl
fold-txs (None ∷ xs) a all = absurd (false≢true (all None (member_first None xs)))
fold-txs (Some l ∷ xs) a all =
    fold-txs xs (greater_age a (age_of_tx l.tx)) (λ x m. all x (member_later (Some l) xs x m))

module _ (h : List Tx) (is : IsHistory h) (s : Specification) (f : Fact) (ms : List Tx)
    (inside : (u : Tx) → IsMember ms u → IsMember h u) (lasts : List (Option Last))
    (are : AreLastsOf s f ms lasts) where
  order : Order is_before ms
  order = Order-part h is ms inside

  -- the entry of a transaction
  abbrev entry_of : Tx → Last
  entry_of t = record { tx = t; adds = adds_fact s f t }

  -- a maximal effect has its entry
  top-there : (t : Tx) → IsLast is_before (touches_fact s f) ms t → IsMember lasts (Some (entry_of t))
  top-there t l = last-list lasts t.dot.origin (entry_of t)
      (by_entry (last_of lasts t.dot.origin) (are.each t.dot.origin))
    where
      by_entry : (x : Option Last) → MatchOption x (NonePasses (touches_fact s f) t.dot.origin ms)
          (IsLastOn s f ms t.dot.origin) → x ≡ Some (entry_of t)
      by_entry None n = absurd (n.none t l.member refl l.passes)
      by_entry (Some k) is_on =
          let low : t.dot.number ≤ k.tx.dot.number = is_on.last.last t l.member refl l.passes in
          let same : k.tx ≡ t = elim (cases_lt t.dot.number k.tx.dot.number) [
            | inl less ↦ absurd (l.none k.tx is_on.last.member is_on.last.passes
                (before-number h is t k.tx (inside k.tx is_on.last.member) is_on.last.made less))
            | inr more ↦ one_named h is k.tx t (inside k.tx is_on.last.member) (inside t l.member)
                (same-dot k.tx.dot t.dot is_on.last.made (omega (arith, low, more)))
          ] in
          let kind : k.adds ≡ adds_fact s f t = is_on.kind ∙ ap (adds_fact s f) same in
          ap (λ (y : Last). Some y) (let e : k ≡ entry_of t = (λ i. record { tx = same i; adds = kind i }) in e)

  -- an entry is that of a transaction that touches the fact
  record IsEntry (l : Last) : Type 0 where
    pub member : IsMember ms l.tx
    pub touches : touches_fact s f l.tx ≡ true
    pub kind : l.adds ≡ adds_fact s f l.tx

  entry-from : (l : Last) → IsMember lasts (Some l) → IsEntry l
  entry-from l m = by_entry (subst (λ (x : Option Last). MatchOption x (NonePasses (touches_fact s f) m.place ms)
      (IsLastOn s f ms m.place)) (list-last lasts m.place l m.at) (are.each m.place))
    where
      by_entry : IsLastOn s f ms m.place l → IsEntry l
      by_entry on = record { member = on.last.member; touches = on.last.passes; kind = on.kind }

  -- no other comes after it exactly where its effect is maximal
  unpassed-top : (l : Last) → IsMember lasts (Some l) → is_passed lasts l ≡ false →
      IsLast is_before (touches_fact s f) ms l.tx
  unpassed-top l m alone = let e = entry-from l m in record {
    member = e.member;
    passes = e.touches;
    none = λ u mu pu b.
        let above = last_above is_before (touches_fact s f) ms order u mu pu in
        let top = top-there above.last (IsLast-from_above is_before (touches_fact s f) ms u above) in
        let after : is_before l.tx above.last ≡ true = elim above.above [
          | inl same ↦ subst (λ (x : Tx). is_before l.tx x ≡ true) same b
          | inr more ↦ order.along l.tx u above.last e.member mu above.member b more
        ] in
        none_found (passed_by l) lasts alone (Some (entry_of above.last)) top after;
  }

  top-unpassed : (l : Last) → IsLast is_before (touches_fact s f) ms l.tx → is_passed lasts l ≡ false
  top-unpassed l top = none_from (passed_by l) lasts by_one
    where
      by_one : (x : Option Last) → IsMember lasts x → passed_by l x ≡ true → ⊥
      by_one None m b = absurd (false≢true b)
      by_one (Some n) m b = let e = entry-from n m in top.none n.tx e.member e.touches b

  -- there is an entry exactly where one touches the fact
  some-touches : list_any is_some lasts ≡ list_any (touches_fact s f) ms
  some-touches = same_bool (list_any is_some lasts) (list_any (touches_fact s f) ms)
      (λ a. let g = found is_some lasts a in by_one g.one g.member g.passes)
      (λ a.
      let g = found (touches_fact s f) ms a in
      let above = last_above is_before (touches_fact s f) ms order g.one g.member g.passes in
      any_from is_some lasts (Some (entry_of above.last))
      (top-there above.last (IsLast-from_above is_before (touches_fact s f) ms g.one above)) refl)
    where
      by_one : (x : Option Last) → IsMember lasts x → is_some x ≡ true → list_any (touches_fact s f) ms ≡ true
      by_one None m b = absurd (false≢true b)
      by_one (Some l) m b = let e = entry-from l m in any_from (touches_fact s f) ms l.tx e.member e.touches

  -- an add that no other comes after is a maximal effect that adds
  add-maximal : (l : Last) → IsMember lasts (Some l) → adds_last lasts (Some l) ≡ true →
      is_maximal_add s ms f l.tx ≡ true
  add-maximal l m b =
      let parts = and_parts l.adds (not (is_passed lasts l)) b in
      let top = unpassed-top l m (not-true (is_passed lasts l) parts.1) in
      and_from (is_maximal s ms f l.tx) (adds_fact s f l.tx) (maximal_last s ms f l.tx top)
      (sym (entry-from l m).kind ∙ parts.0)

  maximal-add : (t : Tx) → IsMember ms t → is_maximal_add s ms f t ≡ true →
      IsMember lasts (Some (entry_of t)) × (adds_last lasts (Some (entry_of t)) ≡ true)
  maximal-add t m b =
      let parts = and_parts (is_maximal s ms f t) (adds_fact s f t) b in
      let top = last_maximal s ms f t m parts.0 in (
        top-there t top,
        and_from (adds_fact s f t) (not (is_passed lasts (entry_of t))) parts.1
            (not_from_false (is_passed lasts (entry_of t)) (top-unpassed (entry_of t) top)),
      )

  adds-maximal : list_any (adds_last lasts) lasts ≡ list_any (is_maximal_add s ms f) ms
  adds-maximal = same_bool (list_any (adds_last lasts) lasts) (list_any (is_maximal_add s ms f) ms)
      (λ a. let g = found (adds_last lasts) lasts a in by_one g.one g.member g.passes)
      (λ a.
      let g = found (is_maximal_add s ms f) ms a in
      let e = maximal-add g.one g.member g.passes in
      any_from (adds_last lasts) lasts (Some (entry_of g.one)) e.0 e.1)
    where
      by_one : (x : Option Last) → IsMember lasts x → adds_last lasts x ≡ true →
          list_any (is_maximal_add s ms f) ms ≡ true
      by_one None m b = absurd (false≢true b)
      by_one (Some l) m b = any_from (is_maximal_add s ms f) ms l.tx (entry-from l m).member (add-maximal l m b)

  -- a remove that no other comes after is a maximal effect that removes
  removes-maximal : list_any (removes_last lasts) lasts ≡ list_any (is_maximal_remove s ms f) ms
  removes-maximal = same_bool (list_any (removes_last lasts) lasts) (list_any (is_maximal_remove s ms f) ms)
      (λ a. let g = found (removes_last lasts) lasts a in by_one g.one g.member g.passes)
      (λ a.
      let g = found (is_maximal_remove s ms f) ms a in
      let parts = and_parts (is_maximal s ms f g.one) (removes_fact s f g.one) g.passes in
      let top = last_maximal s ms f g.one g.member parts.0 in
      any_from (removes_last lasts) lasts (Some (entry_of g.one)) (top-there g.one top)
      (and_from (not (adds_fact s f g.one)) (not (is_passed lasts (entry_of g.one)))
      (not_from_false (adds_fact s f g.one) (removes-alone s f g.one parts.1))
      (not_from_false (is_passed lasts (entry_of g.one)) (top-unpassed (entry_of g.one) top))))
    where
      by_one : (x : Option Last) → IsMember lasts x → removes_last lasts x ≡ true →
          list_any (is_maximal_remove s ms f) ms ≡ true
      by_one None m b = absurd (false≢true b)
      by_one (Some l) m b =
          let e = entry-from l m in
          let parts = and_parts (not l.adds) (not (is_passed lasts l)) b in
          let top = unpassed-top l m (not-true (is_passed lasts l) parts.1) in
          let kind : adds_fact s f l.tx ≡ false = sym e.kind ∙ not-true l.adds parts.0 in
          let removes : removes_fact s f l.tx ≡ true =
          elim (or_cases (adds_fact s f l.tx) (removes_fact s f l.tx) e.touches) [
            | inl a ↦ absurd (both_ways (adds_fact s f l.tx) kind a)
            | inr r ↦ r
          ] in
          any_from (is_maximal_remove s ms f) ms l.tx e.member
          (and_from (is_maximal s ms f l.tx) (removes_fact s f l.tx) (maximal_last s ms f l.tx top) removes)

  -- the value is that of the last effects
  pub value-lasts : (base : List Fact) →
      value_of s base ms f ≡ value_by_lasts (has_rule is_add_wins s f.predicate) (has base f) lasts
  value-lasts base = λ i. cond (some-touches' i)
      (cond (has_rule is_add_wins s f.predicate) (adds-maximal' i) (not (removes-maximal' i)))
      (has base f)
    where
      some-touches' : list_any (touches_fact s f) ms ≡ list_any is_some lasts
      some-touches' = sym some-touches

      adds-maximal' : list_any (is_maximal_add s ms f) ms ≡ list_any (adds_last lasts) lasts
      adds-maximal' = sym adds-maximal

      removes-maximal' : list_any (is_maximal_remove s ms f) ms ≡ list_any (removes_last lasts) lasts
      removes-maximal' = sym removes-maximal

  -- and so is the age
  pub age-lasts : age_of s ms f ≡ age_by_lasts lasts
  age-lasts = greatest_same no_age (filter (is_maximal_add s ms f) ms) (txs_of (filter (adds_last lasts) lasts))
      there back
      ∙ sym (fold-txs (filter (adds_last lasts) lasts) no_age
      (λ x m. by_one x (filter_member (adds_last lasts) lasts x m).passes))
    where
      by_one : (x : Option Last) → adds_last lasts x ≡ true → is_some x ≡ true
      by_one None b = b
      by_one (Some l) b = refl

      there : (u : Tx) → IsMember (filter (is_maximal_add s ms f) ms) u →
          IsMember (txs_of (filter (adds_last lasts) lasts)) u
      there u m =
          let k = filter_member (is_maximal_add s ms f) ms u m in
          let e = maximal-add u k.member k.passes in
          txs-there (filter (adds_last lasts) lasts) (entry_of u)
          (member-filter (adds_last lasts) lasts (Some (entry_of u)) e.0 e.1)

      back : (u : Tx) → IsMember (txs_of (filter (adds_last lasts) lasts)) u →
          IsMember (filter (is_maximal_add s ms f) ms) u
      back u m =
          let b = txs-back (filter (adds_last lasts) lasts) u m in
          let k = filter_member (adds_last lasts) lasts (Some b.entry) b.member in
          subst (λ (x : Tx). IsMember (filter (is_maximal_add s ms f) ms) x) b.tx
          (member-filter (is_maximal_add s ms f) ms b.entry.tx (entry-from b.entry k.member).member
          (add-maximal b.entry k.member k.passes))
