-- Closed cuts, by the last members of their origins.
--
--   last_found, last_open, last_absent   whether the cut of an origin's last member is below
--   closed_lasts          a cut that the entries have is closed where the cuts of its last members are below it
--   lasts_closed          and only there
use Rattle.std.proofs.Common.{◌≡◌, ℕ, ◌+◌, ◌<◌, ◌≤◌, List, length, refl, sym, ◌∙◌, ap, subst, arith, inl, inr}
use Rattle.std.proofs.lemmas.Bool.{cases_lt, cases_eq}
use Rattle.std.proofs.lemmas.List.{get_or_past}
use Rattle.ipa_clock.specs.declared.cut.Cut.{Cut}
use Rattle.ipa_clock.specs.declared.dot.Dot.{Dot}
use Rattle.ipa_clock.specs.Cut.{count_of, Covers, IsBelow}
use Rattle.ipa_history.specs.Histories.{IsMember, IsNamedIn, NoneNamedIn, IsHistory, IsClosed, number_of}
use Rattle.ipa_history.specs.HistoryLaws as histories
use Rattle.ipa_history.specs.HistoryLaws.{covers_covered}
use Rattle.ipa_history.specs.PushLaws.{HasNumber, dots_there}
use Rattle.ipa_history.specs.declared.history.Tx.{Tx}
use Rattle.ipa_gate.specs.Cuts.{LastBelow, LastsBelow}

module _ (h : List Tx) (is : IsHistory h) (c : Cut) where
  -- where an origin's last member is found, and its cut is below
  pub last_found : (o : ℕ) (u : Tx) → IsNamedIn h (record { origin = o; number = count_of c o }) u → IsBelow u.cut c →
      LastBelow h c o
  last_found o u named below = record {
    below = λ t m there last.
        let dot : ℕ → ℕ → Dot = λ x y. record { origin = x; number = y } in
        let same : t.dot ≡ u.dot = ap (λ (x : ℕ). dot x t.dot.number) there
        ∙ (ap (dot o) last ∙ sym named.named) in
        let equal : u ≡ t = sym (histories.one_named h is t u m named.member same) in
        subst (λ (x : Tx). IsBelow x.cut c) equal below;
  }

  -- where it is found, its cut has to be below
  pub last_open : (o : ℕ) (u : Tx) → IsNamedIn h (record { origin = o; number = count_of c o }) u → LastBelow h c o →
      IsBelow u.cut c
  last_open o u named last =
      last.below u named.member (ap (λ (x : Dot). x.origin) named.named) (ap (λ (x : Dot). x.number) named.named)

  -- where there is none, nothing is left to show
  pub last_absent : (o : ℕ) → NoneNamedIn h (record { origin = o; number = count_of c o }) → LastBelow h c o
  last_absent o none = record {
    below = λ t m there last.
        let dot : ℕ → ℕ → Dot = λ x y. record { origin = x; number = y } in
        let same : t.dot ≡ dot o (count_of c o) = ap (λ (x : ℕ). dot x t.dot.number) there ∙ ap (dot o) last in
        absurd (none.none t m same);
  }

  -- the cuts of one origin grow, so where those of the last members are below the cut all are
  module _ (within : (o : ℕ) → count_of c o ≤ number_of o h) (lasts : LastsBelow h c) where
    by_last : (t : Tx) → IsMember h t → Covers c t.dot → (u : HasNumber h t.dot.origin (count_of c t.dot.origin)) →
        IsBelow t.cut c
    by_last t m covers u =
        let last = (lasts.each t.dot.origin (is.origins t m)).below u.tx u.member u.origin_is u.number_is in
        elim (cases_eq t.dot.number (count_of c t.dot.origin)) [
          | inl same ↦ (lasts.each t.dot.origin (is.origins t m)).below t m refl same
          | inr other ↦
              let own : count_of u.tx.cut u.tx.dot.origin + 1 ≡ u.tx.dot.number = is.own u.tx u.member in
              let moved : count_of u.tx.cut u.tx.dot.origin ≡ count_of u.tx.cut t.dot.origin =
              ap (count_of u.tx.cut) u.origin_is in
              let number = u.number_is in
              let before : Covers u.tx.cut t.dot = omega (arith, covers, other, own, moved, number) in
              let below = histories.seen_below h is u.tx t u.member m (covers_covered u.tx.cut t.dot before) in
              record { counts = λ o. let low = below.counts o in let high = last.counts o in omega (arith, low, high) }
        ]

    closed_lasts_within : IsClosed h c
    closed_lasts_within = record {
      within = within;
      below = λ t m covers.
          let positive = histories.positive h is t m in
          let some : 0 < count_of c t.dot.origin = omega (arith, positive, covers) in
          by_last t m covers (dots_there h is t.dot.origin (count_of c t.dot.origin) some (within t.dot.origin));
    }

  module _ (clock : Cut) (wide : length c.counts ≡ 16)
      (counts : (o : ℕ) → o < 16 → count_of clock o ≡ number_of o h) where
    -- a cut that the entries have is closed where the cuts of its last members are below it
    pub closed_lasts : IsBelow c clock → LastsBelow h c → IsClosed h c
    closed_lasts below lasts = closed_lasts_within (λ o. elim (cases_lt o 16) [
      | inl lt ↦ let b = below.counts o in let n = counts o lt in omega (arith, b, n)
      | inr ge ↦ let none : count_of c o ≡ 0 = get_or_past c.counts o 0 (omega arith) in omega (arith, none)
    ]) lasts

    -- a closed cut is one that the entries have
    pub below_closed : IsClosed h c → IsBelow c clock
    below_closed closed = record {
      counts = λ o. elim (cases_lt o 16) [
        | inl lt ↦ let b = closed.within o in let n = counts o lt in omega (arith, b, n)
        | inr ge ↦ let none : count_of c o ≡ 0 = get_or_past c.counts o 0 (omega arith) in omega (arith, none)
      ];
    }

  -- and only there
  pub lasts_closed : IsClosed h c → LastsBelow h c
  lasts_closed closed = record {
    each = λ o l. record {
      below = λ t m there last. closed.below t m
          (let same : count_of c t.dot.origin ≡ count_of c o = ap (count_of c) there in omega (arith, same, last));
    };
  }
