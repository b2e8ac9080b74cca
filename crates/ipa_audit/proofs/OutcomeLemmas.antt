-- The lists of outcomes, one for each list of requests.
--
--   outcomes_are, outcomes_there   the list of a session has its outcomes
--   length_outcomes        there is one for each list of requests
--   one_at                 one item stands in a place
--   LineAt, line_at        an outcome is told by a line
--   at_line                a line tells an outcome
use Rattle.std.proofs.Common.{◌≡◌, ℕ, zero, suc, ◌+◌, ◌<◌, List, [], ◌∷◌, length, Some, None, slice_get, take, refl, sym, ◌∙◌, ap, arith}
use Rattle.std.proofs.lemmas.Bool.{eqb-true, eq-eqb}
use Rattle.std.proofs.lemmas.Option.{slice_get_within}
use Rattle.ipa_logic.specs.declared.facts.Request.{Request}
use Rattle.ipa_history.specs.LawfulEnds.{IsAt}
use Rattle.ipa_history.specs.declared.outcomes.Outcome.{Outcome}
use Rattle.ipa_journal.specs.declared.journal.OutLine.{OutLine}
use Rattle.ipa_audit.specs.Journals.{is_of, lines_of, outcome_of, outcomes_of, outcomes_from, outcomes_by}
use Rattle.ipa_audit.specs.Order.{count_in}
use Rattle.ipa_audit.proofs.PlaceLemmas.{map_at, at_map, filter_place, place_filter}

outcomes_are_from : (requests : List (List Request)) (first i : ℕ) (outs : List OutLine) (list : List Outcome) →
    slice_get (outcomes_from first requests outs) i ≡ Some list → list ≡ outcomes_of (first + i) outs
outcomes_are_from [] first i outs list e = absurd (let n : None ≡ Some list = e in cc)
outcomes_are_from (asked ∷ later) first zero outs list e =
    let s : Some (outcomes_of first outs) ≡ Some list = e in
    let t : outcomes_of first outs ≡ list = cc in
    let same : first ≡ first + 0 = omega arith in
    sym t ∙ ap (λ (k : ℕ). outcomes_of k outs) same
outcomes_are_from (asked ∷ later) first (suc i) outs list e =
    let same : (first + 1) + i ≡ first + suc i = omega arith in
    outcomes_are_from later (first + 1) i outs list e ∙ ap (λ (k : ℕ). outcomes_of k outs) same

outcomes_there_from : (requests : List (List Request)) (first i : ℕ) (outs : List OutLine) → i < length requests →
    slice_get (outcomes_from first requests outs) i ≡ Some (outcomes_of (first + i) outs)
outcomes_there_from [] first i outs l = absurd (omega arith)
outcomes_there_from (asked ∷ later) first zero outs l =
    let same : first ≡ first + 0 = omega arith in
    ap (λ (k : ℕ). Some (outcomes_of k outs)) same
outcomes_there_from (asked ∷ later) first (suc i) outs l =
    let same : (first + 1) + i ≡ first + suc i = omega arith in
    outcomes_there_from later (first + 1) i outs (omega arith) ∙ ap (λ (k : ℕ). Some (outcomes_of k outs)) same

length_outcomes_from : (requests : List (List Request)) (first : ℕ) (outs : List OutLine) →
    length (outcomes_from first requests outs) ≡ length requests
length_outcomes_from [] first outs = refl
length_outcomes_from (asked ∷ later) first outs = ap suc (length_outcomes_from later (first + 1) outs)

module _ (requests : List (List Request)) (outs : List OutLine) where
  -- there is one for each list of requests
  pub length_outcomes : length (outcomes_by requests outs) ≡ length requests
  length_outcomes = length_outcomes_from requests 0 outs

  -- the list of a session has its outcomes
  pub outcomes_are : (i : ℕ) (list : List Outcome) → slice_get (outcomes_by requests outs) i ≡ Some list →
      list ≡ outcomes_of i outs
  outcomes_are i list e =
      let same : 0 + i ≡ i = omega arith in
      outcomes_are_from requests 0 i outs list e ∙ ap (λ (k : ℕ). outcomes_of k outs) same

  pub outcomes_there : (i : ℕ) → i < length requests →
      slice_get (outcomes_by requests outs) i ≡ Some (outcomes_of i outs)
  outcomes_there i l =
      let same : 0 + i ≡ i = omega arith in
      outcomes_there_from requests 0 i outs l ∙ ap (λ (k : ℕ). Some (outcomes_of k outs)) same

-- one item stands in a place
pub one_at : {X : Type 0} (xss : List (List X)) (i j : ℕ) (x y : X) → IsAt xss i j x → IsAt xss i j y → x ≡ y
one_at xss i j x y one other =
    let lists : Some one.list ≡ Some other.list = sym one.list_at ∙ other.list_at in
    let list : one.list ≡ other.list = cc in
    let items : Some x ≡ Some y = sym one.at ∙ (ap (λ (xs : List _). slice_get xs j) list ∙ other.at) in
    cc

-- a line tells an outcome, behind so many others of its session
pub record LineAt (requests : List (List Request)) (outs : List OutLine) (i j : ℕ) (outcome : Outcome) : Type 0 where
  pub line : OutLine
  pub place : ℕ
  pub at : slice_get outs place ≡ Some line
  pub session : line.session ≡ i
  pub before : count_in (take place outs) i ≡ j
  pub outcome_is : outcome_of line ≡ outcome
  pub among : slice_get (lines_of i outs) j ≡ Some line
  pub inside : i < length requests

-- an outcome is told by a line
pub line_at : (requests : List (List Request)) (outs : List OutLine) (i j : ℕ) (outcome : Outcome) →
    IsAt (outcomes_by requests outs) i j outcome → LineAt requests outs i j outcome
line_at requests outs i j outcome is =
    let list = outcomes_are requests outs i is.list is.list_at in
    let within = slice_get_within (outcomes_by requests outs) i is.list is.list_at in
    let m = map_at outcome_of (lines_of i outs) j outcome (ap (λ (xs : List Outcome). slice_get xs j) (sym list) ∙ is.at) in
    let p = place_filter (is_of i) outs j m.item m.at in
    record {
      line = m.item;
      place = p.place;
      at = p.at;
      session = eqb-true m.item.session i p.passes;
      before = p.before;
      outcome_is = m.same;
      among = m.at;
      inside = omega (arith, within, length_outcomes requests outs);
    }

-- a line that stands among those of its session tells its outcome
pub at_lines : (requests : List (List Request)) (outs : List OutLine) (i j : ℕ) (o : OutLine) → i < length requests →
    slice_get (lines_of i outs) j ≡ Some o → IsAt (outcomes_by requests outs) i j (outcome_of o)
at_lines requests outs i j o inside e = record {
  list = outcomes_of i outs;
  list_at = outcomes_there requests outs i inside;
  at = at_map outcome_of (lines_of i outs) j o e;
}

-- a line tells an outcome
pub at_line : (requests : List (List Request)) (outs : List OutLine) (i k : ℕ) (o : OutLine) → i < length requests →
    slice_get outs k ≡ Some o → o.session ≡ i
    → IsAt (outcomes_by requests outs) i (count_in (take k outs) i) (outcome_of o)
at_line requests outs i k o inside e session =
    at_lines requests outs i (count_in (take k outs) i) o inside
    (filter_place (is_of i) outs k o e (eq-eqb o.session i session))
