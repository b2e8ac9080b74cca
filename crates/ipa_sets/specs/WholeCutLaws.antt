-- The cut with all transactions of a history.
--
--   count-front       a front has no more of an origin than the list
--   all-covered       the cut has each member
--   members-clock     so its members are the history
--   value-clock, age-clock   the values and the ages there are those of all transactions
use Rattle.std.proofs.Common.{◌≡◌, ℕ, zero, suc, ◌<◌, ◌≤◌, Bool, List, [], ◌∷◌, refl, take, ap, arith}
use Rattle.std.specs.Prelude.{◌==◌}
use Rattle.std.specs.List.{count_by}
use Rattle.std.proofs.lemmas.Bool.{eq-eqb}
use Rattle.ipa_clock.specs.Cut.{count_of, is_covered, Covers}
use Rattle.ipa_clock.specs.declared.cut.Cut.{Cut}
use Rattle.ipa_spec.specs.declared.specification.Specification.{Specification}
use Rattle.ipa_logic.specs.declared.facts.Fact.{Fact}
use Rattle.ipa_history.specs.Ages.{age_of, age_at}
use Rattle.ipa_history.specs.Histories.{IsMember, number_of, IsHistory, members_of}
use Rattle.ipa_history.specs.HistoryLaws.{count_cons, count_grows, covers_covered}
use Rattle.ipa_history.specs.Values.{value_of, value_at}
use Rattle.ipa_history.specs.declared.history.Tx.{Tx}
use Rattle.ipa_history.specs.MemberLaws.{filter_all}

-- a front has no more that pass than the list
count-front : {X : Type 0} (p : X → Bool) (xs : List X) (k : ℕ) → count_by p (take k xs) ≤ count_by p xs
count-front p [] zero = omega arith
count-front p [] (suc k) = omega arith
count-front p (x ∷ xs) zero = omega arith
count-front p (x ∷ xs) (suc k) =
    let rest = count-front p xs k in
    let low = count_cons p x (take k xs) in
    let high = count_cons p x xs in
    omega (arith, rest, low, high)

module _ (h : List Tx) (is : IsHistory h) (c : Cut)
    (clock : (origin : ℕ) → origin < 16 → count_of c origin ≡ number_of origin h) where
  -- the cut has each member
  pub all-covered : (u : Tx) → IsMember h u → Covers c u.dot
  all-covered u m =
      let number = is.numbers m.place u m.at in
      let more = count_grows (λ (v : Tx). v.dot.origin == u.dot.origin) h m.place (suc m.place) u m.at
      (eq-eqb u.dot.origin u.dot.origin refl) (omega arith) in
      let all = count-front (λ (v : Tx). v.dot.origin == u.dot.origin) h (suc m.place) in
      let here = clock u.dot.origin (is.origins u m) in
      omega (arith, number, more, all, here)

  -- so its members are the history
  pub members-clock : members_of h c ≡ h
  members-clock = filter_all (λ t. is_covered c t.dot) h (λ u m. covers_covered c u.dot (all-covered u m))

  -- the values and the ages there are those of all transactions
  pub value-clock : (s : Specification) (base : List Fact) (f : Fact) → value_at s base h c f ≡ value_of s base h f
  value-clock s base f = ap (λ (ms : List Tx). value_of s base ms f) members-clock

  pub age-clock : (s : Specification) (f : Fact) → age_at s h c f ≡ age_of s h f
  age-clock s f = ap (λ (ms : List Tx). age_of s ms f) members-clock
