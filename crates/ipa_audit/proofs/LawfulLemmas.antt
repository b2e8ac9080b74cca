-- A journal whose lines are good has a lawful end, and the lines of a journal with a lawful end are good.
--
--   good_end          good lines, complete, with the right final facts, are a lawful end
--   lawful_good       the lines of a lawful end that stand in order are good
--   incomplete_missing, complete_missing   what is not complete is missing, and only that
--   lawful_missing    nothing of a lawful end is missing
use Rattle.std.proofs.Common.{◌≡◌, ℕ, ◌+◌, ◌<◌, ◌≤◌, List, length, Some, slice_get, take, sym, ◌∙◌, ap, subst, arith}
use Rattle.std.proofs.lemmas.List.{length-map}
use Rattle.std.proofs.lemmas.Option.{slice_get_within}
use Rattle.ipa_spec.specs.declared.operations.Action.TheVariants.{Op}
use Rattle.ipa_logic.specs.Facts.{IsStateOf}
use Rattle.ipa_logic.specs.declared.facts.Fact.{Fact}
use Rattle.ipa_logic.specs.declared.facts.Request.{Request}
use Rattle.ipa_history.specs.Histories.{IsMember}
use Rattle.ipa_history.specs.PushLaws.{at_place}
use Rattle.ipa_history.specs.Values.{value_of}
use Rattle.ipa_history.specs.Answers.{IsAnswer}
use Rattle.ipa_history.specs.LawfulEnds as ends
use Rattle.ipa_history.specs.LawfulEnds.{IsAt, IsReading, IsPast, IsEntered, IsNamedBy, AreEntries, AreRead, AreAnswers, AreAnswered, IsLawfulEnd}
use Rattle.ipa_history.specs.declared.history.Tx.{Tx}
use Rattle.ipa_history.specs.declared.outcomes.Outcome.{Outcome}
use Rattle.ipa_gate.specs.Settings.{SettingParts}
use Rattle.ipa_gate.specs.Shapes.{IsShaped}
use Rattle.ipa_gate.specs.Logs.{IsLog}
use Rattle.ipa_journal.specs.declared.journal.OutLine.{OutLine}
use Rattle.ipa_audit.specs.Journals.{lines_of, outcome_of, outcomes_by}
use Rattle.ipa_audit.specs.Order.{count_in, AreInOrder, IsNextLine}
use Rattle.ipa_audit.specs.BadLines.{IsMissing}
use Rattle.ipa_audit.specs.BadLines.IsMissing.{unanswered, unnamed}
use Rattle.ipa_audit.specs.GoodLines.{IsGoodOut, AreGood, HasCommit, IsComplete, IsIncomplete}
use Rattle.ipa_audit.specs.GoodLines.IsIncomplete.{fewer, nameless}
use Rattle.ipa_audit.proofs.PlaceLemmas.{prefix_filter}
use Rattle.ipa_audit.proofs.OutcomeLemmas.{outcomes_are, outcomes_there, length_outcomes, one_at, LineAt, line_at, at_lines, at_line}
use Rattle.ipa_audit.proofs.OrderLemmas.{own_count, placed_lines, few_lines}

-- the shape that a log asks for is that of a lawful end
pub shaped_end : (s : SettingParts) (n : ℕ) → s.sessions ≡ n → (t : Tx) → IsShaped s t →
    ends.IsShaped s.spec s.universe n t
shaped_end s n same t shaped = subst (λ (k : ℕ). ends.IsShaped s.spec s.universe k t) same shaped

-- and the other way
pub end_shaped : (s : SettingParts) (n : ℕ) → s.sessions ≡ n → (t : Tx) → ends.IsShaped s.spec s.universe n t →
    IsShaped s t
end_shaped s n same t shaped = subst (λ (k : ℕ). ends.IsShaped s.spec s.universe k t) (sym same) shaped

module _ (s : SettingParts) (requests : List (List Request)) (h : List Tx) (outs : List OutLine) where
  abbrev outcomes : List (List Outcome)
  outcomes = outcomes_by requests outs

  module _ (good : AreGood s requests h outs) where
    -- a session has no more lines than requests
    few : (i : ℕ) (asked : List Request) → slice_get requests i ≡ Some asked → count_in outs i ≤ length asked
    few = few_lines requests outs (λ k o at. (good.each k o at).next)
        (λ k o at. let g = good.each k o at in (g.request, g.asked))

    answered : IsComplete requests h outs → AreAnswered requests outcomes
    answered complete = record {
      sessions = length_outcomes requests outs;
      places = λ i asked list asked_at list_at.
          let is = outcomes_are requests outs i list list_at in
          let count : length list ≡ count_in outs i = ap length is ∙ length-map (lines_of i outs) outcome_of in
          let low = few i asked asked_at in
          let high = complete.answered.each i asked asked_at in
          omega (arith, count, low, high);
    }

    read : AreRead s.spec s.base h outcomes
    read = record {
      reading = λ i j outcome is.
          let l = line_at requests outs i j outcome is in
          let g = good.each l.place l.line l.at in
          subst (λ (x : Outcome). IsReading s.spec s.base h x.cut) l.outcome_is g.answered.reading;
      past = λ i j earlier later first second.
          let e = line_at requests outs i j earlier first in
          let l = line_at requests outs i (j + 1) later second in
          let g = good.each l.place l.line l.at in
          let count = l.before in
          let before = at_place (lines_of i (take l.place outs)) j (omega (arith, count)) in
          let there = prefix_filter _ outs l.place j before.0 before.1 in
          let both : Some before.0 ≡ Some e.line = sym there ∙ e.among in
          let same : before.0 ≡ e.line = cc in
          let past = g.past before.0 (record {
            place = j;
            at = ap (λ (x : ℕ). slice_get (lines_of x (take l.place outs)) j) l.session ∙ before.1;
            last = ap (λ (x : ℕ). count_in (take l.place outs) x) l.session ∙ l.before;
          }) in
          subst (λ (x : Outcome). IsPast i earlier x) l.outcome_is
          (subst (λ (x : Outcome). IsPast i x (outcome_of l.line)) (ap outcome_of same ∙ e.outcome_is)
          (subst (λ (x : ℕ). IsPast x (outcome_of before.0) (outcome_of l.line)) l.session past));
    }

    -- a line's request is the one in its place
    request_is : (i j : ℕ) (request : Request) (outcome : Outcome) → IsAt requests i j request →
        (l : LineAt requests outs i j outcome) → (good.each l.place l.line l.at).request ≡ request
    request_is i j request outcome is l =
        let g = good.each l.place l.line l.at in
        let own = own_count requests outs l.place l.line g.next in
        let moved : count_in (take l.place outs) l.line.session ≡ count_in (take l.place outs) i =
        ap (count_in (take l.place outs)) l.session in
        let before = l.before in
        let place : l.line.place ≡ j = omega (arith, own, moved, before) in
        one_at requests i j g.request request
        (subst (λ (x : ℕ). IsAt requests i x g.request) place
        (subst (λ (x : ℕ). IsAt requests x l.line.place g.request) l.session g.asked)) is

    answers : AreAnswers s.spec s.universe s.base requests h outcomes
    answers = record {
      answers = λ i j request outcome asked is.
          let l = line_at requests outs i j outcome is in
          let g = good.each l.place l.line l.at in
          subst (λ (x : Outcome). IsAnswer s.spec s.universe s.base h x.cut i request x.answer) l.outcome_is
          (subst (λ (x : ℕ). IsAnswer s.spec s.universe s.base h l.line.cut x request l.line.answer) l.session
          (subst (λ (x : Request). IsAnswer s.spec s.universe s.base h l.line.cut l.line.session x l.line.answer)
          (request_is i j request outcome asked l) g.answered.answer));
      entered = λ i j request outcome asked is.
          let l = line_at requests outs i j outcome is in
          let g = good.each l.place l.line l.at in
          subst (λ (x : Outcome). IsEntered h i x.cut request x.answer) l.outcome_is
          (subst (λ (x : ℕ). IsEntered h x l.line.cut request l.line.answer) l.session
          (subst (λ (x : Request). IsEntered h l.line.session l.line.cut x l.line.answer)
          (request_is i j request outcome asked l) g.answered.entered));
    }

    -- good lines stand in order
    pub good_order : AreInOrder requests outs
    good_order = record { each = λ k o at. (good.each k o at).next }

    named_by : (t : Tx) → HasCommit outs t.dot.origin t.dot.number → t.dot.origin < length requests → IsNamedBy outcomes t
    named_by t c inside = record {
      place = count_in (take c.member.place outs) t.dot.origin;
      outcome = outcome_of c.line;
      at = at_line requests outs t.dot.origin c.member.place c.line inside c.member.at c.session;
      commits = c.commits;
    }

    -- good lines, complete, with the right final facts, are a lawful end
    pub good_end : s.sessions ≡ length requests → IsLog s h → IsComplete requests h outs → (last : List Fact) →
        IsStateOf (value_of s.spec s.base h) last
        → IsLawfulEnd s.spec s.universe s.base requests h outcomes last
    good_end same log complete last final = record {
      entries_are = record {
        legal = log.legal;
        few = log.few;
        shaped = λ t m. shaped_end s (length requests) same t (log.shaped t m);
      };
      answered = answered complete;
      read = read;
      answers = answers;
      named = λ t op m action.
          let origin = (log.shaped t m).origin in
          named_by t (complete.named.each t op m action) (omega (arith, origin, same));
      last_facts = final;
    }

  -- a commit that names an entry is on a line
  named_commit : (t : Tx) → IsNamedBy outcomes t → HasCommit outs t.dot.origin t.dot.number
  named_commit t n =
      let l = line_at requests outs t.dot.origin n.place n.outcome n.at in record {
        line = l.line;
        member = record { place = l.place; at = l.at };
        session = l.session;
        commits = ap (λ (x : Outcome). x.answer) l.outcome_is ∙ n.commits;
      }

  -- what is not complete is missing
  pub incomplete_missing : IsIncomplete requests h outs → IsMissing requests h outs
  incomplete_missing (fewer f) =
      let more = f.fewer in
      let request = at_place f.asked (count_in outs f.session) f.fewer in
      unanswered (record {
        session = f.session;
        place = count_in outs f.session;
        request = request.0;
        asked = record { list = f.asked; list_at = f.at; at = request.1 };
        none = λ outcome is.
            let l = line_at requests outs f.session (count_in outs f.session) outcome is in
            let within = slice_get_within (lines_of f.session outs) (count_in outs f.session) l.line l.among in
            omega (arith, within);
      })
  incomplete_missing (nameless n) = unnamed (record {
    tx = n.tx;
    op = n.op;
    member = n.member;
    operation = n.operation;
    none = λ named. n.none (named_commit n.tx named);
  })

  module _ (is : (i : ℕ) (asked : List Request) → slice_get requests i ≡ Some asked → length asked ≤ count_in outs i)
      (named : (t : Tx) (op : ℕ) → IsMember h t → t.action ≡ Op op → IsNamedBy outcomes t) where
    -- nothing is missing where each request has its line, and each operation's entry is named
    pub none_missing : IsMissing requests h outs → ⊥
    none_missing (unanswered u) =
        let enough = is u.session u.asked.list u.asked.list_at in
        let within = slice_get_within u.asked.list u.place u.request u.asked.at in
        let line = at_place (lines_of u.session outs) u.place (omega (arith, enough, within)) in
        let inside = slice_get_within requests u.session u.asked.list u.asked.list_at in
        u.none (outcome_of line.0) (at_lines requests outs u.session u.place line.0 inside line.1)
    none_missing (unnamed u) = u.none (named u.tx u.op u.member u.operation)

  -- nothing is missing of what is complete
  pub complete_missing : AreGood s requests h outs → s.sessions ≡ length requests → IsLog s h →
      IsComplete requests h outs → IsMissing requests h outs → ⊥
  complete_missing good same log complete = none_missing complete.answered.each (λ t op m action.
      let origin = (log.shaped t m).origin in
      named_by good t (complete.named.each t op m action) (omega (arith, origin, same)))

  module _ (order : AreInOrder requests outs) (last : List Fact)
      (end : IsLawfulEnd s.spec s.universe s.base requests h outcomes last) where
    -- so many lines as requests
    enough : (i : ℕ) (asked : List Request) → slice_get requests i ≡ Some asked → length asked ≤ count_in outs i
    enough i asked e =
        let inside = slice_get_within requests i asked e in
        let list = outcomes_there requests outs i inside in
        let same = end.answered.places i asked _ e list in
        let count = length-map (lines_of i outs) outcome_of in
        omega (arith, same, count)

    -- nothing of a lawful end is missing
    pub lawful_missing : IsMissing requests h outs → ⊥
    lawful_missing = none_missing enough end.named

    -- the lines of a lawful end that stand in order are good
    pub lawful_good : AreGood s requests h outs
    lawful_good = record { each = λ k o at. good_line k o at (order.each k o at) }
      where
        good_line : (k : ℕ) (o : OutLine) → slice_get outs k ≡ Some o → IsNextLine requests (take k outs) o →
            IsGoodOut s requests h (take k outs) o
        good_line k o at next =
            let asked = at_place requests o.session next.session in
            let among = placed_lines requests outs k o at next in
            let within = slice_get_within (lines_of o.session outs) o.place o among in
            let list = outcomes_there requests outs o.session next.session in
            let same = end.answered.places o.session asked.0 _ asked.1 list in
            let count = length-map (lines_of o.session outs) outcome_of in
            let request = at_place asked.0 o.place (omega (arith, within, same, count)) in
            let here : IsAt requests o.session o.place request.0 = record {
              list = asked.0;
              list_at = asked.1;
              at = request.1;
            } in
            let told = at_lines requests outs o.session o.place o next.session among in
            let own = own_count requests outs k o next in
            record {
              next = next;
              request = request.0;
              asked = here;
              past = λ line before.
                  let place = before.last in
                  let there = prefix_filter _ outs k before.place line before.at in
                  let step : o.place ≡ before.place + 1 = omega (arith, place, own) in
                  end.read.past o.session before.place (outcome_of line) (outcome_of o)
                  (at_lines requests outs o.session before.place line next.session there)
                  (subst (λ (x : ℕ). IsAt outcomes o.session x (outcome_of o)) step told);
              answered = record {
                reading = end.read.reading o.session o.place (outcome_of o) told;
                answer = end.answers.answers o.session o.place request.0 (outcome_of o) here told;
                entered = end.answers.entered o.session o.place request.0 (outcome_of o) here told;
              };
            }
