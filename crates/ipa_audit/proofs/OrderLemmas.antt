-- What follows from the order of the `out` lines.
--
--   count_other, count_own   the number of a session's lines, one line further
--   own_count         a line's place is the number of its session's lines before it
--   placed_lines      so it stands there among the lines of its session
--   last_adjacent     a session's last line before the next one stands just before it
--   none_before       or there is none
--   requests_at       the requests of a session
--   answered_more, answered_all   the sessions have as many lines as requests, one after the other
--   has_fewer         one has fewer
--   due_at, at_due, next_by, by_next   the numbers of lines are as they have to be
--   few_lines         a session has no more lines than requests
use Rattle.std.proofs.Common.{◌≡◌, ℕ, zero, suc, ◌+◌, ◌<◌, ◌≤◌, Bool, true, false, cond, List, length, Some, slice_get, take, get_or, refl, sym, ◌∙◌, ap, subst, arith, inl, inr}
use Rattle.std.proofs.lemmas.Bool.{cases_lt, cases_order, eqb-true, eq-eqb}
use Rattle.std.proofs.lemmas.Option.{slice_get_within, slice_get-get_or}
use Rattle.std.proofs.lemmas.List.{length-map}
use Rattle.std.specs.Prelude.{slice_index}
use Rattle.ipa_logic.specs.declared.facts.Request.{Request}
use Rattle.ipa_history.specs.LawfulEnds.{IsAt}
use Rattle.ipa_history.specs.PushLaws.{at_place}
use Rattle.ipa_reader.specs.declared.sessions.SessionWork.{SessionWork}
use Rattle.ipa_journal.specs.declared.journal.OutLine.{OutLine}
use Rattle.ipa_audit.specs.Journals.{requests_of, is_of, lines_of}
use Rattle.ipa_audit.specs.Order.{count_in, IsDueIn, IsNextBy, IsNextLine, IsLastLine}
use Rattle.ipa_audit.specs.GoodLines.{AreAllAnswered, HasFewer}
use Rattle.ipa_audit.specs.Steps.{IsDueAt}
use Rattle.ipa_audit.proofs.PlaceLemmas.{map_at, at_map, filter_place, place_filter, count_step, last_filter}

-- the number of a session's lines, one line further
pub count_other : (outs : List OutLine) (k i : ℕ) (o : OutLine) → slice_get outs k ≡ Some o → (o.session ≡ i → ⊥) →
    count_in (take (k + 1) outs) i ≡ count_in (take k outs) i
count_other outs k i o e other = by_test (is_of i o) refl (count_step (is_of i) outs k o e)
  where
    by_test : (b : Bool) → is_of i o ≡ b →
        count_in (take (k + 1) outs) i ≡ count_in (take k outs) i + cond b 1 0
        → count_in (take (k + 1) outs) i ≡ count_in (take k outs) i
    by_test true h step = absurd (other (eqb-true o.session i h))
    by_test false h step = omega (arith, step)

pub count_own : (outs : List OutLine) (k i : ℕ) (o : OutLine) → slice_get outs k ≡ Some o → o.session ≡ i →
    count_in (take (k + 1) outs) i ≡ count_in (take k outs) i + 1
count_own outs k i o e same =
    count_step (is_of i) outs k o e
    ∙ ap (λ (b : Bool). count_in (take k outs) i + cond b 1 0) (eq-eqb o.session i same)

module _ (requests : List (List Request)) (outs : List OutLine) where
  -- a line's place is the number of its session's lines before it
  pub own_count : (k : ℕ) (o : OutLine) → IsNextLine requests (take k outs) o →
      count_in (take k outs) o.session ≡ o.place
  own_count k o next =
      let asked = at_place requests o.session next.session in
      let due = next.each o.session asked.0 asked.1 in
      due.own refl

  -- so it stands there among the lines of its session
  pub placed_lines : (k : ℕ) (o : OutLine) → slice_get outs k ≡ Some o → IsNextLine requests (take k outs) o →
      slice_get (lines_of o.session outs) o.place ≡ Some o
  placed_lines k o e next =
      ap (slice_get (lines_of o.session outs)) (sym (own_count k o next))
      ∙ filter_place (is_of o.session) outs k o e (eq-eqb o.session o.session refl)

  module _ (j k : ℕ) (next : j + 1 ≡ k) (e o : OutLine) (e_at : slice_get outs j ≡ Some e)
      (e_next : IsNextLine requests (take j outs) e) (o_next : IsNextLine requests (take k outs) o) where
    moved : (i : ℕ) → count_in (take (j + 1) outs) i ≡ count_in (take k outs) i
    moved i = ap (λ (x : ℕ). count_in (take x outs) i) next

    -- a line of another session stands just before, so there is none of the next one's
    pub none_before : (e.session ≡ o.session → ⊥) → count_in (take k outs) o.session ≡ 0
    none_before other = elim (cases_order e.session o.session) [
      | inl same ↦ absurd (other same)
      | inr apart ↦ elim apart [
        | inl less ↦
            let asked = at_place requests o.session o_next.session in
            let due = e_next.each o.session asked.0 asked.1 in
            let none = due.later less in
            let step = count_other outs j o.session e e_at other in
            let same = moved o.session in
            omega (arith, none, step, same)
        | inr more ↦
            let asked = at_place requests e.session e_next.session in
            let due = o_next.each e.session asked.0 asked.1 in
            let none = due.later more in
            let step = count_own outs j e.session e e_at refl in
            let same = moved e.session in
            absurd (omega (arith, none, step, same))
      ]
    ]

    -- a line of the same session stands just before, so it is the last one of the session
    pub last_adjacent : e.session ≡ o.session → IsLastLine o.session (take k outs) e
    last_adjacent session = record {
      place = count_in (take j outs) o.session;
      at = ap (λ (x : ℕ). slice_get (lines_of o.session (take x outs)) (count_in (take j outs) o.session)) (sym next)
          ∙ last_filter (is_of o.session) outs j e e_at (eq-eqb e.session o.session session);
      last = let step = count_own outs j o.session e e_at session in
          let same = moved o.session in
          omega (arith, step, same);
    }

-- one line is the last
pub one_last : (session : ℕ) (before : List OutLine) (e d : OutLine) → IsLastLine session before e →
    IsLastLine session before d → e ≡ d
one_last session before e d one other =
    let first = one.last in
    let second = other.last in
    let place : one.place ≡ other.place = omega (arith, first, second) in
    let both : Some e ≡ Some d = sym one.at ∙ (ap (slice_get (lines_of session before)) place ∙ other.at) in
    cc

-- a session has no more lines than requests
pub few_lines : (requests : List (List Request)) (outs : List OutLine) →
    ((k : ℕ) (o : OutLine) → slice_get outs k ≡ Some o → IsNextLine requests (take k outs) o) →
    ((k : ℕ) (o : OutLine) → slice_get outs k ≡ Some o → (r : Request) × IsAt requests o.session o.place r) →
    (i : ℕ) (asked : List Request) → slice_get requests i ≡ Some asked → count_in outs i ≤ length asked
few_lines requests outs ordered there i asked e = by_count (count_in outs i) refl
  where
    by_count : (n : ℕ) → count_in outs i ≡ n → count_in outs i ≤ length asked
    by_count zero none = omega (arith, none)
    by_count (suc n) some =
        let line = at_place (lines_of i outs) n (omega (arith, some)) in
        let p = place_filter (is_of i) outs n line.0 line.1 in
        let session : line.0.session ≡ i = eqb-true line.0.session i p.passes in
        let own = own_count requests outs p.place line.0 (ordered p.place line.0 p.at) in
        let moved : count_in (take p.place outs) line.0.session ≡ count_in (take p.place outs) i =
        ap (count_in (take p.place outs)) session in
        let before : count_in (take p.place outs) i ≡ n = p.before in
        let request = there p.place line.0 p.at in
        let lists : Some request.1.list ≡ Some asked = sym request.1.list_at ∙ (ap (slice_get requests) session ∙ e) in
        let list : request.1.list ≡ asked = cc in
        let lengths : length request.1.list ≡ length asked = ap length list in
        let within = slice_get_within request.1.list line.0.place request.0 request.1.at in
        omega (arith, some, own, moved, before, lengths, within)

-- the requests of a session
pub requests_at : (sessions : List SessionWork) (k : ℕ) (work : SessionWork) → k < length sessions →
    work ≡ get_or sessions k work → slice_get (requests_of sessions) k ≡ Some work.requests
requests_at sessions k work inside e =
    at_map (λ (w : SessionWork). w.requests) sessions k work
    (slice_get-get_or sessions k work inside ∙ ap (λ (w : SessionWork). Some w) (sym e))

-- the first k sessions have as many lines as requests
abbrev pub AnsweredUpTo : List SessionWork → List OutLine → ℕ → Type 0
AnsweredUpTo sessions outs k = (i : ℕ) → i < k → (asked : List Request) →
    slice_get (requests_of sessions) i ≡ Some asked → length asked ≤ count_in outs i

pub answered_more : (sessions : List SessionWork) (outs : List OutLine) (k : ℕ) (work : SessionWork) →
    k < length sessions → work ≡ get_or sessions k work → length work.requests ≤ count_in outs k →
    AnsweredUpTo sessions outs k → AnsweredUpTo sessions outs (k + 1)
answered_more sessions outs k work inside e enough before i l asked at = elim (cases_lt i k) [
  | inl less ↦ before i less asked at
  | inr last ↦
      let same : i ≡ k = omega (arith, l, last) in
      let both : Some work.requests ≡ Some asked = sym (requests_at sessions k work inside e)
      ∙ (ap (slice_get (requests_of sessions)) (sym same) ∙ at) in
      let list : work.requests ≡ asked = cc in
      let lengths : length work.requests ≡ length asked = ap length list in
      let counts : count_in outs i ≡ count_in outs k = ap (count_in outs) same in
      omega (arith, enough, lengths, counts)
]

pub answered_all : (sessions : List SessionWork) (outs : List OutLine) (k : ℕ) → length sessions ≤ k →
    AnsweredUpTo sessions outs k → AreAllAnswered (requests_of sessions) outs
answered_all sessions outs k past before = record {
  each = λ i asked at.
      let inside = slice_get_within (requests_of sessions) i asked at in
      let sized = length-map sessions (λ (w : SessionWork). w.requests) in
      before i (omega (arith, inside, sized, past)) asked at;
}

pub has_fewer : (sessions : List SessionWork) (outs : List OutLine) (k : ℕ) (work : SessionWork) →
    k < length sessions → work ≡ get_or sessions k work → (length work.requests ≤ count_in outs k → ⊥) →
    HasFewer (requests_of sessions) outs
has_fewer sessions outs k work inside e few = record {
  session = k;
  asked = work.requests;
  at = requests_at sessions k work inside e;
  fewer = elim (cases_lt (count_in outs k) (length work.requests)) [
    | inl less ↦ less
    | inr enough ↦ absurd (few enough)
  ];
}

-- so many lines of each session are due before the line, one session after the other
pub due_at : (sessions : List SessionWork) (counts : List ℕ) (o : OutLine) (k : ℕ) (work : SessionWork) →
    k < length sessions → work ≡ get_or sessions k work → IsDueIn o k (slice_index counts k) (length work.requests) →
    IsDueAt sessions counts o k
due_at sessions counts o k work inside e due = record {
  due = λ other at.
      let both : Some work ≡ Some other = ap (λ (w : SessionWork). Some w) e
      ∙ (sym (slice_get-get_or sessions k work inside) ∙ at) in
      let same : work ≡ other = cc in
      subst (λ (w : SessionWork). IsDueIn o k (slice_index counts k) (length w.requests)) same due;
}

pub at_due : (sessions : List SessionWork) (counts : List ℕ) (o : OutLine) (k : ℕ) (work : SessionWork) →
    k < length sessions → work ≡ get_or sessions k work → IsDueAt sessions counts o k →
    IsDueIn o k (slice_index counts k) (length work.requests)
at_due sessions counts o k work inside e is =
    is.due work (slice_get-get_or sessions k work inside ∙ ap (λ (w : SessionWork). Some w) (sym e))

-- the line is of a session, and all are due
pub next_by : (sessions : List SessionWork) (counts : List ℕ) (o : OutLine) → o.session < length sessions →
    ((i : ℕ) → i < length sessions → IsDueAt sessions counts o i) → IsNextBy (requests_of sessions) (slice_index counts) o
next_by sessions counts o inside due =
    let sized = length-map sessions (λ (w : SessionWork). w.requests) in
    record {
      session = omega (arith, inside, sized);
      each = λ i asked at.
          let m = map_at (λ (w : SessionWork). w.requests) sessions i asked at in
          let within = slice_get_within sessions i m.item m.at in
          let is = due i within in
          subst (λ (xs : List Request). IsDueIn o i (slice_index counts i) (length xs)) m.same (is.due m.item m.at);
    }

pub by_next : (sessions : List SessionWork) (counts : List ℕ) (o : OutLine) →
    IsNextBy (requests_of sessions) (slice_index counts) o
    → (o.session < length sessions) × ((i : ℕ) → i < length sessions → IsDueAt sessions counts o i)
by_next sessions counts o next =
    let sized = length-map sessions (λ (w : SessionWork). w.requests) in
    let inside = next.session in (
      omega (arith, inside, sized),
      λ i l. record {
        due = λ work at. next.each i work.requests (at_map (λ (w : SessionWork). w.requests) sessions i work at);
      },
    )
