use Rattle.std.proofs.Common.{◌≡◌, ◌≤◌, List, length, get_or, Some, slice_get, sym, ◌∙◌, ap, subst, refl, arith, ℕ, take, ◌+◌}
use Rattle.std.proofs.lemmas.List.{length-map}
use Rattle.std.proofs.lemmas.Option.{slice_get-get_or}
use Rattle.ipa_reader.specs.declared.sessions.SessionWork.{SessionWork}
use Rattle.ipa_journal.specs.declared.journal.OutLine.{OutLine}
use Rattle.ipa_audit.specs.Journals.{requests_of}
use Rattle.ipa_audit.specs.Steps.{AreCounted, IsGoodAt}
use Rattle.ipa_audit.proofs.GoodLemmas.{first_bad_at, session_inside, next_good, counted_more, good_one_more, good_all}
use Rattle.ipa_audit.proofs.outcomes.first_bad.Goals as goal

few_requests : (sessions : List SessionWork) → length sessions ≤ 16 → length (requests_of sessions) ≤ 16
few_requests sessions few =
    let sized = length-map sessions (λ (w : SessionWork). w.requests) in
    omega (arith, sized, few)

pub returns-then-not-branch : goal.returns-then-not-branch
returns-then-not-branch c =
    let outs = c.args.outs.now in
    let k = c.loop-place.place in
    let d = c.index-outs-place.result in
    first_bad_at c.args.setting.now (requests_of c.args.sessions.now) c.args.index.now.entries outs k _ (get_or outs k d)
    (slice_get-get_or outs k d c.loop-place-test.true) refl c.loop-place.invariant.good
    (rw c.if-not-branch.true at c.in_ok-is_good.ensures)

pub count-requires : goal.count-requires
count-requires c =
    let outs = c.args.outs.now in
    let k = c.loop-place.place in
    let o = c.index-outs-place-in-loop-place.result in
    session_inside c.args.setting.now (requests_of c.args.sessions.now) c.args.index.now.entries outs k o
    (slice_get-get_or outs k o c.loop-place-test.true
    ∙ ap (λ (x : OutLine). Some x) (sym c.index-outs-place-in-loop-place.is))
    (few_requests c.args.sessions.now c.requires.few)
    (rw c.if-not-branch.false at c.in_ok-is_good.ensures)

pub loop-place-preserved : goal.loop-place-preserved
loop-place-preserved c =
    let outs = c.args.outs.now in
    let k = c.loop-place.place in
    let o = c.index-outs-place-in-loop-place.result in
    let s = c.args.setting.now in
    let rs = requests_of c.args.sessions.now in
    let h = c.args.index.now.entries in
    let at : slice_get outs k ≡ Some o = slice_get-get_or outs k o c.loop-place-test.true
    ∙ ap (λ (x : OutLine). Some x) (sym c.index-outs-place-in-loop-place.is) in
    let good : IsGoodAt s rs h outs k = rw c.if-not-branch.false at c.in_ok-is_good.ensures in
    record {
      counted = subst (λ (xs : List ℕ). AreCounted (take (k + 1) outs) xs) (sym c.count.ensures)
          (counted_more rs outs k o c.loop-place.counts at (next_good s rs h outs k o at good)
          (session_inside s rs h outs k o at (few_requests c.args.sessions.now c.requires.few) good)
          c.loop-place.invariant.counted);
      good = good_one_more s rs h outs k c.loop-place.invariant.good good;
    }

pub returns : goal.returns
returns c = good_all c.args.setting.now (requests_of c.args.sessions.now) c.args.index.now.entries c.args.outs.now
    c.loop-place.place c.loop-place-test.false c.loop-place.invariant.good
