-- A transaction of one legal history that stands next in another.
--
--   CanCross h other t       the two have no two transactions under one dot; t is one of `other`, and `h` holds its cut
--   crossing-closed          its cut is closed in `h`
--   crossing-legal           and it is legal there
--   crossing-number          it has the next number of its origin there, where it is no member
use Rattle.std.proofs.Common.{◌≡◌, ℕ, ◌+◌, ◌≤◌, List, take, slice_get, Some, sym, subst, arith, inl, inr}
use Rattle.std.proofs.lemmas.Bool.{cases_lt}
use Rattle.ipa_clock.specs.Cut.{count_of, Covers}
use Rattle.ipa_spec.specs.declared.specification.Specification.{Specification}
use Rattle.ipa_logic.specs.Facts.{Universe}
use Rattle.ipa_logic.specs.declared.facts.Fact.{Fact}
use Rattle.ipa_history.specs.Histories.{IsMember, IsClosed, number_of}
use Rattle.ipa_history.specs.HistoryLaws.{positive, seen_below, covers_covered, member-take}
use Rattle.ipa_history.specs.PushLaws.{dots_there}
use Rattle.ipa_history.specs.Legality.{IsLegal, IsLegalHistory}
use Rattle.ipa_history.specs.declared.history.Tx.{Tx}
use Rattle.ipa_lift.specs.CutLaws.{Agree, IsLegal-agree}
use Rattle.ipa_world.specs.HistoryParts.{one_dot}

-- two histories have no two transactions under one dot; t stands in the other one, and `h` holds its cut
pub record CanCross (h other : List Tx) (t : Tx) : Type 0 where
  pub same : (u v : Tx) → IsMember h u → IsMember other v → u.dot ≡ v.dot → u ≡ v
  pub place : ℕ
  pub at : slice_get other place ≡ Some t
  pub holds : (origin : ℕ) → count_of t.cut origin ≤ number_of origin h

module _ (s : Specification) (universe : Universe) (base : List Fact) (h other : List Tx)
    (is : IsLegalHistory s universe base h) (there_is : IsLegalHistory s universe base other) (t : Tx)
    (crosses : CanCross h other t) where
  member : IsMember other t
  member = record { place = crosses.place; at = crosses.at }

  -- what its cut covers of `h` stands before it in the other history
  before : (u : Tx) → IsMember h u → Covers t.cut u.dot → IsMember (take crosses.place other) u
  before u m covers =
      let stands = there_is.history.seen crosses.place t u.dot crosses.at (positive h is.history u m) covers in
      let earlier = member-take crosses.place other stands.tx stands.member in
      let same = crosses.same u stands.tx m earlier (sym stands.named) in
      subst (λ (x : Tx). IsMember (take crosses.place other) x) (sym same) stands.member

  -- and what it covers of the other history is in `h`
  held : (u : Tx) → IsMember other u → Covers t.cut u.dot → IsMember h u
  held u m covers =
      let low : u.dot.number ≤ count_of t.cut u.dot.origin = covers in
      let has = crosses.holds u.dot.origin in
      let v = dots_there h is.history u.dot.origin u.dot.number (positive other there_is.history u m)
      (omega (arith, low, has)) in
      let same = crosses.same v.tx u v.member m (one_dot v.tx.dot u.dot v.origin_is v.number_is) in
      subst (λ (x : Tx). IsMember h x) same v.member

  agree : Agree (take crosses.place other) h t.cut
  agree = record {
    there = λ u covers m. held u (member-take crosses.place other u m) covers;
    back = λ u covers m. before u m covers;
  }

  -- its cut is closed in `h`
  pub crossing-closed : IsClosed h t.cut
  crossing-closed = record {
    within = crosses.holds;
    below = λ u m covers. seen_below other there_is.history t u member
        (member-take crosses.place other u (before u m covers)) (covers_covered t.cut u.dot covers);
  }

  -- and it is legal there
  pub crossing-legal : IsLegal s universe base h t
  crossing-legal =
      IsLegal-agree s universe base (take crosses.place other) h t agree (there_is.legal crosses.place t crosses.at)

  -- where it is no member, it has the next number of its origin there
  pub crossing-number : (IsMember h t → ⊥) → t.dot.number ≡ number_of t.dot.origin h + 1
  crossing-number new = elim (cases_lt (number_of t.dot.origin h) t.dot.number) [
    | inl less ↦
        let low = crosses.holds t.dot.origin in
        let own = there_is.history.own t member in
        omega (arith, less, low, own)
    | inr more ↦
        let u = dots_there h is.history t.dot.origin t.dot.number (positive other there_is.history t member) more in
        let same = crosses.same u.tx t u.member member (one_dot u.tx.dot t.dot u.origin_is u.number_is) in
        absurd (new (subst (λ (x : Tx). IsMember h x) same u.member))
  ]
