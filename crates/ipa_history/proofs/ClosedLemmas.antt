-- A closed cut by its two parts.
use Rattle.std.proofs.Common.{◌≡◌, ℕ, ◌<◌, List, length, get_or, subst, arith, inl, inr}
use Rattle.std.proofs.lemmas.Bool.{cases_lt}
use Rattle.std.proofs.lemmas.List.{get_or_past}
use Rattle.std.proofs.lemmas.Option.{slice_get-get_or, slice_get_within, get_or_from_slice_get}
use Rattle.ipa_clock.specs.declared.cut.Cut.{Cut}
use Rattle.ipa_clock.specs.Cut.{count_of, IsBelow}
use Rattle.ipa_history.specs.Histories.{IsClosed, number_of}
use Rattle.ipa_history.specs.Closings.{IsBelowIfCovered, AllBelow}
use Rattle.ipa_history.specs.declared.history.Tx.{Tx}

module _ (h : List Tx) (c clock : Cut) (wide : length c.counts ≡ 16)
    (counts : (o : ℕ) → o < 16 → count_of clock o ≡ number_of o h) where
  pub IsClosed-from_parts : IsBelow c clock → AllBelow h c → IsClosed h c
  IsClosed-from_parts below all = record {
    within = λ o. elim (cases_lt o 16) [
      | inl lt ↦ let b = below.counts o in let n = counts o lt in omega (arith, b, n)
      | inr ge ↦ let none : count_of c o ≡ 0 = get_or_past c.counts o 0 (omega arith) in omega (arith, none)
    ];
    below = λ t m covers. let here : get_or h m.place t ≡ t = get_or_from_slice_get h m.place t t m.at in
        let b = subst (λ (x : Tx). IsBelowIfCovered c x) here
        (all m.place t (slice_get_within h m.place t m.at)) in b.below covers;
  }

  pub IsBelow-from_closed : IsClosed h c → IsBelow c clock
  IsBelow-from_closed is = record {
    counts = λ o. elim (cases_lt o 16) [
      | inl lt ↦ let b = is.within o in let n = counts o lt in omega (arith, b, n)
      | inr ge ↦ let none : count_of c o ≡ 0 = get_or_past c.counts o 0 (omega arith) in omega (arith, none)
    ];
  }

  pub AllBelow-from_closed : IsClosed h c → AllBelow h c
  AllBelow-from_closed is = λ k d l. record {
    below = λ covers. is.below (get_or h k d)
        (record { place = k; at = slice_get-get_or h k d l }) covers;
  }
