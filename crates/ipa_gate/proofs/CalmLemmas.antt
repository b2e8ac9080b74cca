-- The lower cut that is known to be within the bounds, and what the transactions between two cuts spare.
use Rattle.std.proofs.Common.{◌≡◌, ℕ, ◌+◌, ◌<◌, ◌≤◌, Bool, true, false, List, length, refl, sym, ◌∙◌, ap, subst, arith, inl, inr}
use Rattle.std.specs.Prelude.{MatchBool, IsTrue, ◌↔◌}
use Rattle.std.proofs.lemmas.Bool.{cases_lt, cases_eq, false≢true}
use Rattle.ipa_clock.specs.declared.cut.Cut.{Cut}
use Rattle.ipa_clock.specs.declared.dot.Dot.{Dot}
use Rattle.ipa_clock.specs.Cut.{count_of, Covers, empty, raised}
use Rattle.ipa_clock.specs.Lemmas.{empty_below, count_of-raised_same, count_of-raised_other}
use Rattle.ipa_spec.specs.declared.specification.Specification.{Specification}
use Rattle.ipa_spec.specs.declared.operations.Action.TheVariants.{Op}
use Rattle.ipa_logic.specs.Facts.{Universe, IsStateOf}
use Rattle.ipa_logic.specs.FactLaws.{same_rising}
use Rattle.ipa_logic.specs.Groups.{Within}
use Rattle.ipa_logic.specs.declared.facts.Fact.{Fact}
use Rattle.ipa_history.specs.Histories.{IsNamedIn, NoneNamedIn, IsHistory}
use Rattle.ipa_history.specs.HistoryLaws.{one_named}
use Rattle.ipa_history.specs.Values.{value_at}
use Rattle.ipa_history.specs.declared.history.Tx.{Tx}
use Rattle.ipa_overfill.specs.Overfills.{Spares}
use Rattle.ipa_overfill.specs.CalmLaws.{calm_start, calm_after, calm_grows}
use Rattle.ipa_gate.specs.Calms.{IsLegalCut, IsCalmBelow, MemberSpares, OriginSpares, AllSpare}

module _ (s : Specification) (universe : Universe) (base : List Fact) (h : List Tx) (c : Cut)
    (at : IsLegalCut s universe base h c) where
  -- the cut of the base
  pub start_none : IsCalmBelow s base h c empty
  start_none = record { calm = calm_start s universe base h at.legal; below = empty_below c }

  -- the cut of an operation that is the last of its origin, and all that it has seen
  pub start_after : (d : Dot) (t : Tx) (n : ℕ) → IsNamedIn h d t → d.number ≡ count_of c d.origin → t.action ≡ Op n →
      length t.cut.counts ≡ 16 → IsCalmBelow s base h c (raised t.cut t.dot)
  start_after d t n named last action width = record {
    calm = calm_after s universe base h at.legal t named.member n action width;
    below = record { counts = λ o. count o };
  }
    where
      low : t.dot.origin < 16
      low = at.legal.history.origins t named.member

      number : t.dot.number ≡ count_of c t.dot.origin
      number = subst (λ (x : Dot). x.number ≡ count_of c x.origin) (sym named.named) last

      covers : Covers c t.dot
      covers = omega (arith, number)

      count : (o : ℕ) → count_of (raised t.cut t.dot) o ≤ count_of c o
      count o = elim (cases_eq o t.dot.origin) [
        | inl same ↦
            let now = count_of-raised_same t.cut t.dot (omega (arith, low, width)) in
            let there : count_of (raised t.cut t.dot) o ≡ count_of (raised t.cut t.dot) t.dot.origin
            = ap (count_of (raised t.cut t.dot)) same in
            let here : count_of c o ≡ count_of c t.dot.origin = ap (count_of c) same in
            omega (arith, now, there, here, number)
        | inr other ↦
            let now = count_of-raised_other t.cut t.dot o other in
            let below = at.closed.below t named.member covers in
            let count = below.counts o in
            omega (arith, now, count)
      ]

  -- the state at the cut is within the bounds, where what it has besides spares them
  pub calm_between : (low : Cut) (state : List Fact) → IsCalmBelow s base h c low →
      IsStateOf (value_at s base h c) state → AllSpare s h state low c → Within s.bounds state
  calm_between low state start is spare =
      calm_grows s base h at.legal.history low c start.calm at.closed start.below state is
      (λ t m covers new. spare.each t m covers new)

-- two states of one test are one
one_state : (test : Fact → Bool) (one two : List Fact) → IsStateOf test one → IsStateOf test two → one ≡ two
one_state test one two a b =
    same_rising one two a.rising b.rising (λ f. a.facts f ∙ sym (b.facts f))

module _ (s : Specification) (test : Fact → Bool) (viewed state : List Fact) (a : IsStateOf test viewed)
    (b : IsStateOf test state) where
  pub within_one : Within s.bounds viewed → Within s.bounds state
  within_one within = subst (λ (x : List Fact). Within s.bounds x) (one_state test viewed state a b) within

  pub decided_one : (r : Bool) → (IsTrue r ↔ Within s.bounds viewed) →
      MatchBool r (Within s.bounds state) (Within s.bounds state → ⊥)
  decided_one true decides = within_one (decides.0 refl)
  decided_one false decides = λ within. false≢true
      (decides.1 (subst (λ (x : List Fact). Within s.bounds x) (sym (one_state test viewed state a b)) within))

module _ (s : Specification) (h : List Tx) (state : List Fact) where
  -- the one with a dot that stands in a history
  pub member_from : (is : IsHistory h) (d : Dot) (t : Tx) → IsNamedIn h d t → Spares s t.action t.args state →
      MemberSpares s h state d
  member_from is d t named spares = record {
    spares = λ u m e. subst (λ (x : Tx). Spares s x.action x.args state)
        (one_named h is t u named.member m (named.named ∙ sym e)) spares;
  }

  pub member_to : (d : Dot) (t : Tx) → IsNamedIn h d t → MemberSpares s h state d → Spares s t.action t.args state
  member_to d t named is = is.spares t named.member named.named

  -- and one that does not
  pub member_absent : (d : Dot) → NoneNamedIn h d → MemberSpares s h state d
  member_absent d none = record { spares = λ t m e. absurd (none.none t m e) }

  -- the members of an origin, one after the other
  pub origin_none : (o from : ℕ) → OriginSpares s h state o from from
  origin_none o from = record { each = λ t m e low high. absurd (omega (arith, low, high)) }

  pub origin_next : (o from k : ℕ) (d : Dot) → d.origin ≡ o → d.number ≡ k + 1 → OriginSpares s h state o from k →
      MemberSpares s h state d → OriginSpares s h state o from (k + 1)
  origin_next o from k d origin number before here = record {
    each = λ t m e low high. elim (cases_lt k t.dot.number) [
      | inl last ↦ here.spares t m (same_dot t.dot d (e ∙ sym origin) (omega (arith, last, high, number)))
      | inr less ↦ before.each t m e low less
    ];
  }
    where
      same_dot : (x y : Dot) → x.origin ≡ y.origin → x.number ≡ y.number → x ≡ y
      same_dot x y a b =
          let dot : ℕ → ℕ → Dot = λ p q. record { origin = p; number = q } in
          ap (λ p. dot p x.number) a ∙ ap (dot y.origin) b

  pub origin_end : (o from to k : ℕ) → to ≤ k → OriginSpares s h state o from k → OriginSpares s h state o from to
  origin_end o from to k past each = record {
    each = λ t m e low high. each.each t m e low (omega (arith, past, high));
  }

  pub origin_member : (o from to k : ℕ) (d : Dot) → d.origin ≡ o → d.number ≡ k + 1 → from ≤ k → k < to →
      OriginSpares s h state o from to → MemberSpares s h state d
  origin_member o from to k d origin number low high each = record {
    spares = λ t m e.
        let o_is : t.dot.origin ≡ o = ap (λ (x : Dot). x.origin) e ∙ origin in
        let n_is : t.dot.number ≡ k + 1 = ap (λ (x : Dot). x.number) e ∙ number in
        each.each t m o_is (omega (arith, low, n_is)) (omega (arith, high, n_is));
  }

  -- all origins
  pub all_from : IsHistory h → (low high : Cut) →
      ((o : ℕ) → o < 16 → OriginSpares s h state o (count_of low o) (count_of high o)) → AllSpare s h state low high
  all_from is low high origins = record {
    each = λ t m covers new.
        let one = origins t.dot.origin (is.origins t m) in
        elim (cases_lt (count_of low t.dot.origin) t.dot.number) [
          | inl above ↦ one.each t m refl above covers
          | inr below ↦ absurd (new below)
        ];
  }

  pub all_to : (low high : Cut) (o : ℕ) → AllSpare s h state low high →
      OriginSpares s h state o (count_of low o) (count_of high o)
  all_to low high o all = record {
    each = λ t m e above covers.
        all.each t m (subst (λ (x : ℕ). t.dot.number ≤ count_of high x) (sym e) covers)
        (λ there.
        let moved : t.dot.number ≤ count_of low o = subst (λ (x : ℕ). t.dot.number ≤ count_of low x) e there in
        omega (arith, above, moved));
  }
