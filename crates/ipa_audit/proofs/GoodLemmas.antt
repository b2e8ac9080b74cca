-- Good `out` lines: they are not bad, and one of the two is what the tests find.
--
--   good_bad          a good line is not bad
--   none_bad          so none of good lines is
--   good_all, good_one_more    good lines, one after the other
--   next_counted, counted_next   the next line by the numbers of lines counted
--   past_from, behind_from     the session's line before stands just before, or there is none
--   session_inside    a good line is of a session
--   answered_or_false   the last test of a line
--   bad_false         a line that does not tell the answer is bad
use Rattle.std.proofs.Common.{◌≡◌, ℕ, Bool, true, false, zero, suc, ◌+◌, ◌<◌, ◌≤◌, List, [], ◌∷◌, length, None, Some, slice_get, slice_set, take, refl, sym, ◌∙◌, ap, subst, arith, inl, inr}
use Rattle.std.specs.Prelude.{slice_index, ◌↔◌, IsTrue, MatchBool}
use Rattle.std.proofs.lemmas.Bool.{cases_lt, cases_eq, false≢true}
use Rattle.std.proofs.lemmas.List.{get_or-set_same, get_or-set_other, length-set}
use Rattle.std.proofs.lemmas.Option.{slice_get_within}
use Rattle.ipa_spec.specs.declared.specification.Specification.{Specification}
use Rattle.ipa_logic.specs.Facts.{Universe}
use Rattle.ipa_logic.specs.Groups.{Within}
use Rattle.ipa_logic.specs.declared.facts.Fact.{Fact}
use Rattle.ipa_logic.specs.declared.facts.Request.{Request}
use Rattle.ipa_history.specs.Answers.{IsAnswer}
use Rattle.ipa_history.specs.LawfulEnds.{IsAt, IsReading, IsPast, IsEntered}
use Rattle.ipa_history.specs.PushLaws.{at_place}
use Rattle.ipa_history.specs.Values.{value_at}
use Rattle.ipa_history.specs.declared.history.Tx.{Tx}
use Rattle.ipa_gate.specs.Settings.{SettingParts}
use Rattle.ipa_journal.specs.declared.journal.OutLine.{OutLine}
use Rattle.ipa_audit.specs.Journals.{lines_of, outcome_of}
use Rattle.ipa_audit.specs.Order.{count_in, IsDueIn, IsNextBy, IsNextLine, IsLastLine}
use Rattle.ipa_audit.specs.BadLines.{IsBadOut, IsBehind, NoneBad, IsFirstBadOut}
use Rattle.ipa_audit.specs.BadLines.IsBadOut.{misplaced, unasked, uncovered, open_cut, over, behind, misanswered, unentered}
use Rattle.ipa_audit.specs.GoodLines.{IsAnswered, IsFalse, IsGoodOut, AreGood}
use Rattle.ipa_audit.specs.GoodLines.IsFalse.{over as is_over, misanswered as is_misanswered, unentered as is_unentered}
use Rattle.ipa_audit.specs.Steps.{IsPastAt, IsBehindAt, AreCounted, AreGoodUpTo, IsGoodAt, IsBadAt}
use Rattle.ipa_audit.proofs.PlaceLemmas.{front_at, take_take}
use Rattle.ipa_audit.proofs.OrderLemmas.{own_count, none_before, last_adjacent, one_last, count_other, count_own}
use Rattle.ipa_audit.proofs.OutcomeLemmas.{one_at}
use Rattle.ipa_audit.proofs.ReasonLemmas.{one_state, one_answer}

module _ (s : SettingParts) (requests : List (List Request)) (h : List Tx) where
  -- a good line is not bad
  pub good_bad : (before : List OutLine) (o : OutLine) → IsGoodOut s requests h before o →
      IsBadOut s requests h before o → ⊥
  good_bad before o good (misplaced n) = n good.next
  good_bad before o good (unasked u) = u.none good.request good.asked
  good_bad before o good (uncovered n) = n good.answered.reading.closed.within
  good_bad before o good (open_cut n) = n good.answered.reading.closed
  good_bad before o good (over v) =
      let reading = good.answered.reading in
      v.over (subst (λ (x : List Fact). Within s.spec.bounds x)
      (one_state (value_at s.spec s.base h o.cut) reading.state v.state reading.at v.at) reading.within)
  good_bad before o good (behind b) = b.behind (good.past b.line b.last)
  good_bad before o good (misanswered request asked m) =
      let same : good.request ≡ request = one_at requests o.session o.place good.request request good.asked asked in
      m.other (one_answer s.spec s.universe s.base h o.cut o.session request o.answer m.answer
      (subst (λ (r : Request). IsAnswer s.spec s.universe s.base h o.cut o.session r o.answer) same good.answered.answer)
      m.answered)
  good_bad before o good (unentered request asked u) =
      let same : good.request ≡ request = one_at requests o.session o.place good.request request good.asked asked in
      u.none (subst (λ (r : Request). IsEntered h o.session o.cut r o.answer) same good.answered.entered)

  -- so none of good lines is
  pub none_bad : (outs : List OutLine) → AreGood s requests h outs → NoneBad s requests h outs
  none_bad outs good = record { each = λ k o at bad. good_bad (take k outs) o (good.each k o at) bad }

  -- none of the first is
  none_bad_up_to : (outs : List OutLine) (k : ℕ) → AreGoodUpTo s requests h outs k →
      NoneBad s requests h (take k outs)
  none_bad_up_to outs k good = record {
    each = λ j o at bad.
        let there = front_at outs k j o at in
        good_bad (take j outs) o (good.each j o there.0 there.1)
        (subst (λ (before : List OutLine). IsBadOut s requests h before o) (take_take outs j k (omega (arith, there.0))) bad);
  }

  -- the first bad line
  pub first_bad_at : (outs : List OutLine) (k line : ℕ) (o : OutLine) → slice_get outs k ≡ Some o → line ≡ o.line →
      AreGoodUpTo s requests h outs k → IsBadAt s requests h outs k → IsFirstBadOut s requests h outs line
  first_bad_at outs k line o at line_is good bad = record {
    place = k;
    out = bad.out;
    at = bad.at;
    earlier = none_bad_up_to outs k good;
    line_is = line_is ∙ (let both : Some o ≡ Some bad.out = sym at ∙ bad.at in
        let same : o ≡ bad.out = cc in
        ap (λ (x : OutLine). x.line) same);
    bad = bad.bad;
  }

  -- one good line more
  pub good_one_more : (outs : List OutLine) (k : ℕ) → AreGoodUpTo s requests h outs k → IsGoodAt s requests h outs k →
      AreGoodUpTo s requests h outs (k + 1)
  good_one_more outs k good here = record {
    each = λ j o l at. elim (cases_lt j k) [
      | inl less ↦ good.each j o less at
      | inr last ↦
          let place : k ≡ j = omega (arith, l, last) in
          let both : Some here.out ≡ Some o = sym here.at ∙ (ap (slice_get outs) place ∙ at) in
          let same : here.out ≡ o = cc in
          subst (λ (x : OutLine). IsGoodOut s requests h (take j outs) x) same
          (subst (λ (x : ℕ). IsGoodOut s requests h (take x outs) here.out) place here.good)
    ];
  }

  pub good_none : (outs : List OutLine) → AreGoodUpTo s requests h outs 0
  good_none outs = record { each = λ j o l at. absurd (omega arith) }

  -- all are good
  pub good_all : (outs : List OutLine) (k : ℕ) → length outs ≤ k → AreGoodUpTo s requests h outs k →
      AreGood s requests h outs
  good_all outs k past good = record {
    each = λ j o at. let inside = slice_get_within outs j o at in good.each j o (omega (arith, inside, past)) at;
  }

  -- the session's line before stands just before, or there is none
  pub past_from : (outs : List OutLine) (k : ℕ) (o : OutLine) → slice_get outs k ≡ Some o →
      AreGoodUpTo s requests h outs k → IsNextLine requests (take k outs) o → IsPastAt outs k → (line : OutLine) →
      IsLastLine o.session (take k outs) line → IsPast o.session (outcome_of line) (outcome_of o)
  past_from outs zero o at good next past line last =
      absurd (let none : None ≡ Some line = ap (λ (xs : List OutLine). slice_get (lines_of o.session xs) last.place)
      (sym (none_taken outs)) ∙ last.at in cc)
    where
      none_taken : (xs : List OutLine) → take 0 xs ≡ []
      none_taken [] = refl
      none_taken (x ∷ xs) = refl
  past_from outs (suc j) o at good next past line last =
      let within = slice_get_within outs (suc j) o at in
      let e = at_place outs j (omega (arith, within)) in
      let step : j + 1 ≡ suc j = omega arith in
      let e_next = (good.each j e.0 (omega arith) e.1).next in
      elim (cases_eq e.0.session o.session) [
        | inl same ↦
            let adjacent = last_adjacent requests outs j (suc j) step e.0 o e.1 e_next next same in
            let line_is : e.0 ≡ line = one_last o.session (take (suc j) outs) e.0 line adjacent last in
            let is = past.each j e.0 o step e.1 at in
            subst (λ (x : OutLine). IsPast o.session (outcome_of x) (outcome_of o)) line_is (is.past same)
        | inr other ↦
            let none = none_before requests outs j (suc j) step e.0 o e.1 e_next next other in
            let some = last.last in
            absurd (omega (arith, none, some))
      ]

  pub behind_from : (outs : List OutLine) (k : ℕ) (o : OutLine) → slice_get outs k ≡ Some o →
      AreGoodUpTo s requests h outs k → IsNextLine requests (take k outs) o → IsBehindAt outs k →
      IsBehind (take k outs) o
  behind_from outs k o at good next b =
      let both : Some b.later ≡ Some o = sym b.later_at ∙ at in
      let same : b.later ≡ o = cc in
      let step = b.next in
      let e_next = (good.each b.j b.earlier (omega (arith, step)) b.earlier_at).next in
      let session : b.earlier.session ≡ o.session = b.behind.session ∙ ap (λ (x : OutLine). x.session) same in
      record {
        line = b.earlier;
        last = last_adjacent requests outs b.j k b.next b.earlier o b.earlier_at e_next next session;
        behind = λ past. b.behind.behind (subst (λ (x : OutLine). IsPast x.session (outcome_of b.earlier) (outcome_of x))
            (sym same) past);
      }

  -- a good line is of a session
  pub session_inside : (outs : List OutLine) (k : ℕ) (o : OutLine) → slice_get outs k ≡ Some o → length requests ≤ 16 →
      IsGoodAt s requests h outs k → o.session < 16
  session_inside outs k o at few is =
      let both : Some is.out ≡ Some o = sym is.at ∙ at in
      let same : is.out ≡ o = cc in
      let inside = is.good.next.session in
      let moved : is.out.session ≡ o.session = ap (λ (x : OutLine). x.session) same in
      omega (arith, inside, moved, few)

  pub next_good : (outs : List OutLine) (k : ℕ) (o : OutLine) → slice_get outs k ≡ Some o →
      IsGoodAt s requests h outs k → IsNextLine requests (take k outs) o
  next_good outs k o at is =
      let both : Some is.out ≡ Some o = sym is.at ∙ at in
      let same : is.out ≡ o = cc in
      subst (λ (x : OutLine). IsNextLine requests (take k outs) x) same is.good.next

  -- a line that does not tell the answer is bad
  pub bad_false : (before : List OutLine) (o : OutLine) (request : Request) → IsAt requests o.session o.place request →
      IsFalse s.spec s.universe s.base h request o → IsBadOut s requests h before o
  bad_false before o request asked (is_over v) = over v
  bad_false before o request asked (is_misanswered m) = misanswered request asked m
  bad_false before o request asked (is_unentered u) = unentered request asked u

-- the next line by the numbers of lines counted
module _ (requests : List (List Request)) (few : length requests ≤ 16) (before : List OutLine) (counts : List ℕ)
    (counted : AreCounted before counts) (o : OutLine) where
  pub next_counted : IsNextLine requests before o → IsNextBy requests (slice_index counts) o
  next_counted next = record {
    session = next.session;
    each = λ i asked e.
        let inside = slice_get_within requests i asked e in
        subst (λ (n : ℕ). IsDueIn o i n (length asked)) (sym (counted.each i (omega (arith, inside, few)))) (next.each i asked e);
  }

  pub counted_next : IsNextBy requests (slice_index counts) o → IsNextLine requests before o
  counted_next next = record {
    session = next.session;
    each = λ i asked e.
        let inside = slice_get_within requests i asked e in
        subst (λ (n : ℕ). IsDueIn o i n (length asked)) (counted.each i (omega (arith, inside, few))) (next.each i asked e);
  }

-- the numbers with one line more
pub counted_more : (requests : List (List Request)) (outs : List OutLine) (k : ℕ) (o : OutLine) (counts : List ℕ) →
    slice_get outs k ≡ Some o → IsNextLine requests (take k outs) o → o.session < 16 → AreCounted (take k outs) counts →
    AreCounted (take (k + 1) outs) (slice_set counts o.session (o.place + 1))
counted_more requests outs k o counts at next inside counted = record {
  wide = length-set counts o.session (o.place + 1) ∙ counted.wide;
  each = λ i l. elim (cases_eq o.session i) [
    | inl same ↦
        let wide = counted.wide in
        let own = own_count requests outs k o next in
        let moved : count_in (take k outs) o.session ≡ count_in (take k outs) i = ap (count_in (take k outs)) same in
        let step = count_own outs k i o at same in
        let read : slice_index (slice_set counts o.session (o.place + 1)) i ≡ o.place + 1 =
        ap (slice_index (slice_set counts o.session (o.place + 1))) (sym same)
        ∙ get_or-set_same counts o.session (o.place + 1) 0 (omega (arith, wide, inside)) in
        omega (arith, read, step, own, moved)
    | inr other ↦
        get_or-set_other counts o.session i (o.place + 1) 0 (λ same. other (sym same))
        ∙ (counted.each i l ∙ sym (count_other outs k i o at other))
  ];
}

-- the last test of a line
pub answered_or_false : (s : Specification) (universe : Universe) (base : List Fact) (h : List Tx) (request : Request)
    (o : OutLine) (b : Bool) → (IsTrue b ↔ IsEntered h o.session o.cut request o.answer) →
    IsReading s base h o.cut → IsAnswer s universe base h o.cut o.session request o.answer
    → MatchBool b (IsAnswered s universe base h request o) (IsFalse s universe base h request o)
answered_or_false s universe base h request o true test reading answer = record {
  reading = reading;
  answer = answer;
  entered = test.0 refl;
}
answered_or_false s universe base h request o false test reading answer =
    is_unentered (record { none = λ e. false≢true (test.1 e) })

-- what follows from either side of a test
pub either : {P Q R S : Type 0} (b : Bool) → (P → R) → (Q → S) → MatchBool b P Q → MatchBool b R S
either true f g m = f m
either false f g m = g m
