-- Closed cuts, by the last members of their origins and by going through the entries.
use Rattle.std.proofs.Common.{◌≡◌, ℕ, ◌+◌, ◌<◌, ◌≤◌, List, length, refl, sym, ◌∙◌, ap, subst, arith, inl, inr, get_or}
use Rattle.std.proofs.lemmas.Bool.{cases_lt, cases_eq, cases_Bool, false≢true}
use Rattle.std.proofs.lemmas.Option.{slice_get-get_or, slice_get_within, get_or_from_slice_get}
use Rattle.ipa_clock.specs.declared.cut.Cut.{Cut}
use Rattle.ipa_clock.specs.declared.dot.Dot.{Dot}
use Rattle.ipa_clock.specs.Cut.{is_covered, count_of, Covers, IsBelow}
use Rattle.ipa_history.specs.Closings.{AllBelow, IsBelowIfCovered}
use Rattle.ipa_history.specs.Histories.{IsMember, IsNamedIn, NoneNamedIn, IsHistory, IsClosed, number_of}
use Rattle.ipa_history.specs.HistoryLaws as histories
use Rattle.ipa_history.specs.HistoryLaws.{covered_covers, covers_covered}
use Rattle.ipa_history.specs.PushLaws.{HasNumber, dots_there}
use Rattle.ipa_history.specs.declared.history.Tx.{Tx}
use Rattle.ipa_gate.specs.Cuts.{HasFirstOpen, LastBelow, LastsBelow}
use Rattle.ipa_gate.specs.Fronts.{UpTo}
use Rattle.ipa_gate.proofs.WalkLemmas.{item_at, earlier, each_member}

-- what is not below if it is covered is covered, and not below
covered_open : (c : Cut) (u : Tx) → (IsBelowIfCovered c u → ⊥) → Covers c u.dot
covered_open c u wrong = elim (cases_Bool (is_covered c u.dot)) [
  | inl covered ↦ covered_covers c u.dot covered
  | inr away ↦ absurd (wrong (record { below = λ covers. absurd (false≢true (sym away ∙ covers_covered c u.dot covers)) }))
]

pub open_found : (h items : List Tx) (c : Cut) (k : ℕ) (d : Tx) → items ≡ h → k < length items →
    (IsBelowIfCovered c (get_or items k d) → ⊥) → UpTo (IsBelowIfCovered c) items k → HasFirstOpen h c (get_or items k d)
open_found h items c k d same inside wrong before = record {
  place = k;
  first = record {
    at = item_at h items k same d inside;
    covered = covered_open c (get_or items k d) wrong;
    above = λ below. wrong (record { below = λ _. below });
    earlier = λ j v l at covers. let b = earlier h items k same before j v l at in b.below covers;
  };
}

-- what is below place by place is below
below_from : (h : List Tx) (c : Cut) → ((t : Tx) → IsMember h t → IsBelowIfCovered c t) → AllBelow h c
below_from h c each k d inside = each (get_or h k d) (record { place = k; at = slice_get-get_or h k d inside })

pub below_all : (h items : List Tx) (c : Cut) (k : ℕ) → items ≡ h → length items ≤ k →
    UpTo (IsBelowIfCovered c) items k → AllBelow h c
below_all h items c k same past before = below_from h c (each_member h items k same past before)

-- a cut that lies below the clock, and has nothing of other origins, is within the counts
pub within_from : (h : List Tx) (c clock : Cut) (n : ℕ) → n ≤ 16 →
    ((o : ℕ) → n ≤ o → count_of c o ≡ 0) →
    ((o : ℕ) → o < 16 → count_of clock o ≡ number_of o h) → IsBelow c clock → (o : ℕ) → count_of c o ≤ number_of o h
within_from h c clock n few others counts below o = elim (cases_lt o 16) [
  | inl low ↦ let b = below.counts o in let count = counts o low in omega (arith, b, count)
  | inr high ↦ let none = others o (omega (arith, few, high)) in omega (arith, none)
]

module _ (h : List Tx) (is : IsHistory h) (c : Cut) where
  -- the last member of an origin, where it is found
  pub last_found : (o : ℕ) (u : Tx) (d : Dot) → d.origin ≡ o → d.number ≡ count_of c o → IsNamedIn h d u →
      IsBelow u.cut c → LastBelow h c o
  last_found o u d origin number named below = record {
    below = λ t m there last.
        let dot : ℕ → ℕ → Dot = λ x y. record { origin = x; number = y } in
        let same : t.dot ≡ u.dot = ap (λ (x : ℕ). dot x t.dot.number) (there ∙ sym origin)
        ∙ (ap (λ (x : ℕ). dot d.origin x) (last ∙ sym number) ∙ sym named.named) in
        let equal : u ≡ t = sym (histories.one_named h is t u m named.member same) in
        subst (λ (x : Tx). IsBelow x.cut c) equal below;
  }

  -- where its cut is not below, the last members are not
  pub last_open : (o : ℕ) (u : Tx) (d : Dot) → d.origin ≡ o → d.number ≡ count_of c o → IsNamedIn h d u →
      LastBelow h c o → IsBelow u.cut c
  last_open o u d origin number named last =
      let there : u.dot.origin ≡ o = ap (λ (x : Dot). x.origin) named.named ∙ origin in
      let count : u.dot.number ≡ count_of c o = ap (λ (x : Dot). x.number) named.named ∙ number in
      last.below u named.member there count

  -- where there is none, nothing is left to show
  pub last_absent : (o : ℕ) (d : Dot) → d.origin ≡ o → d.number ≡ count_of c o → NoneNamedIn h d → LastBelow h c o
  last_absent o d origin number none = record {
    below = λ t m there last.
        let dot : ℕ → ℕ → Dot = λ x y. record { origin = x; number = y } in
        let same : t.dot ≡ d = ap (λ (x : ℕ). dot x t.dot.number) (there ∙ sym origin)
        ∙ ap (λ (x : ℕ). dot d.origin x) (last ∙ sym number) in
        absurd (none.none t m same);
  }

  -- the cuts of one origin grow, so where those of the last members are below the cut all are
  module _ (within : (o : ℕ) → count_of c o ≤ number_of o h) (lasts : LastsBelow h c) where
    by_last : (t : Tx) → IsMember h t → Covers c t.dot → (u : HasNumber h t.dot.origin (count_of c t.dot.origin)) →
        IsBelow t.cut c
    by_last t m covers u =
        let last = (lasts.each t.dot.origin (is.origins t m)).below u.tx u.member u.origin_is u.number_is in
        elim (cases_eq t.dot.number (count_of c t.dot.origin)) [
          | inl same ↦ (lasts.each t.dot.origin (is.origins t m)).below t m refl same
          | inr other ↦
              let own : count_of u.tx.cut u.tx.dot.origin + 1 ≡ u.tx.dot.number = is.own u.tx u.member in
              let moved : count_of u.tx.cut u.tx.dot.origin ≡ count_of u.tx.cut t.dot.origin =
              ap (count_of u.tx.cut) u.origin_is in
              let number = u.number_is in
              let before : Covers u.tx.cut t.dot = omega (arith, covers, other, own, moved, number) in
              let below = histories.seen_below h is u.tx t u.member m (covers_covered u.tx.cut t.dot before) in
              record { counts = λ o. let low = below.counts o in let high = last.counts o in omega (arith, low, high) }
        ]

    pub lasts_enough : AllBelow h c
    lasts_enough = below_from h c (λ t m. record {
      below = λ covers.
          let positive = histories.positive h is t m in
          let some : 0 < count_of c t.dot.origin = omega (arith, positive, covers) in
          by_last t m covers (dots_there h is t.dot.origin (count_of c t.dot.origin) some (within t.dot.origin));
    })

  -- closed cuts are those whose members are below
  pub closed_from : (within : (o : ℕ) → count_of c o ≤ number_of o h) → AllBelow h c → IsClosed h c
  closed_from within all = record {
    within = within;
    below = λ t m covers.
        let here : get_or h m.place t ≡ t = get_or_from_slice_get h m.place t t m.at in
        let b = subst (λ (x : Tx). IsBelowIfCovered c x) here (all m.place t (slice_get_within h m.place t m.at)) in
        b.below covers;
  }
