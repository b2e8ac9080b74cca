use Rattle.std.proofs.Common.{◌≡◌, ◌≤◌, List, length, Some, slice_get, take, sym, ◌∙◌, ap, arith}
use Rattle.std.proofs.lemmas.Bool.{false≢true}
use Rattle.std.proofs.lemmas.List.{length-map}
use Rattle.std.proofs.lemmas.Option.{slice_get-get_or}
use Rattle.ipa_reader.specs.declared.sessions.SessionWork.{SessionWork}
use Rattle.ipa_journal.specs.declared.journal.OutLine.{OutLine}
use Rattle.ipa_audit.specs.Journals.{requests_of}
use Rattle.ipa_audit.specs.Order.{IsNextLine}
use Rattle.ipa_audit.specs.BadLines.IsBadOut.{misplaced, unasked, open_cut, behind}
use Rattle.ipa_audit.proofs.GoodLemmas.{next_counted, counted_next, past_from, behind_from, bad_false, either}
use Rattle.ipa_audit.proofs.outcomes.is_good.Goals as goal

few_requests : (sessions : List SessionWork) → length sessions ≤ 16 → length (requests_of sessions) ≤ 16
few_requests sessions few =
    let sized = length-map sessions (λ (w : SessionWork). w.requests) in
    omega (arith, sized, few)

pub returns-then-not-is_next : goal.returns-then-not-is_next
returns-then-not-is_next c =
    let k = c.args.place in
    let outs = c.args.outs.now in
    let o = c.index-outs-place.result in
    record {
      out = o;
      at = slice_get-get_or outs k o c.requires.place ∙ ap (λ (x : OutLine). Some x) (sym c.index-outs-place.is);
      bad = misplaced (λ next. false≢true (sym c.if-not-is_next.true ∙ c.is_next.ensures.1
          (next_counted (requests_of c.args.sessions.now) (few_requests c.args.sessions.now c.requires.few) (take k outs)
          c.args.counts.now c.requires.counted o next)));
    }

pub returns-then-not-is_past_last : goal.returns-then-not-is_past_last
returns-then-not-is_past_last c =
    let k = c.args.place in
    let outs = c.args.outs.now in
    let o = c.index-outs-place.result in
    let rs = requests_of c.args.sessions.now in
    let at : slice_get outs k ≡ Some o = slice_get-get_or outs k o c.requires.place
    ∙ ap (λ (x : OutLine). Some x) (sym c.index-outs-place.is) in
    let next : IsNextLine rs (take k outs) o = counted_next rs (few_requests c.args.sessions.now c.requires.few)
    (take k outs) c.args.counts.now c.requires.counted o (c.is_next.ensures.0 c.if-not-is_next.false) in
    record {
      out = o;
      at = at;
      bad = behind (behind_from c.args.setting.now rs c.args.index.now.entries outs k o at c.requires.before next
          c.if-not-is_past_last.ensures);
    }

pub returns-in_default : goal.returns-in_default
returns-in_default c =
    let k = c.args.place in
    let outs = c.args.outs.now in
    let o = c.index-outs-place.result in
    let none = c.in_default.ensures in
    record {
      out = o;
      at = slice_get-get_or outs k o c.requires.place ∙ ap (λ (x : OutLine). Some x) (sym c.index-outs-place.is);
      bad = unasked (record { none = none.none });
    }

pub returns-then-not-is_closed : goal.returns-then-not-is_closed
returns-then-not-is_closed c =
    let k = c.args.place in
    let outs = c.args.outs.now in
    let o = c.index-outs-place.result in
    record {
      out = o;
      at = slice_get-get_or outs k o c.requires.place ∙ ap (λ (x : OutLine). Some x) (sym c.index-outs-place.is);
      bad = open_cut (λ closed. false≢true (sym c.if-not-is_closed.true ∙ c.is_closed.ensures.1 closed));
    }

pub returns : goal.returns
returns c =
    let k = c.args.place in
    let outs = c.args.outs.now in
    let o = c.index-outs-place.result in
    let s = c.args.setting.now in
    let h = c.args.index.now.entries in
    let rs = requests_of c.args.sessions.now in
    let at : slice_get outs k ≡ Some o = slice_get-get_or outs k o c.requires.place
    ∙ ap (λ (x : OutLine). Some x) (sym c.index-outs-place.is) in
    let next : IsNextLine rs (take k outs) o = counted_next rs (few_requests c.args.sessions.now c.requires.few)
    (take k outs) c.args.counts.now c.requires.counted o (c.is_next.ensures.0 c.if-not-is_next.false) in
    let asked = c.in-Some.ensures in
    either c.in_ok-good.good
    (λ answered. record {
      out = o;
      at = at;
      good = record {
        next = next;
        request = c.in-Some.request.now;
        asked = asked;
        past = past_from s rs h outs k o at c.requires.before next c.if-not-is_past_last.ensures;
        answered = answered;
      };
    })
    (λ is. record { out = o; at = at; bad = bad_false s rs h (take k outs) o c.in-Some.request.now asked is })
    c.in_ok-good.ensures
