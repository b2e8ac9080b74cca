use Rattle.std.proofs.Common.{◌≡◌, ◌<◌, true, length, sym, ◌∙◌, arith}
use Rattle.ipa_clock.specs.Cut.{is_covered}
use Rattle.ipa_history.specs.PushLaws.{at_place}
use Rattle.ipa_history.specs.declared.history.Tx.{Tx}
use Rattle.ipa_gate.specs.Fronts.{front-next}
use Rattle.ipa_gate.proofs.log.Log.covered_to.Goals as goal

pub loop-place-preserved : goal.loop-place-preserved
loop-place-preserved c =
    let inside : c.loop-place.place < length c.entries-entries.result.now =
    omega (arith, c.loop-place-test.true, c.len-place-end.ensures) in
    let here = at_place c.entries-entries.result.now c.loop-place.place inside in
    front-next (λ (t : Tx). is_covered c.args.peer.now t.dot ≡ true) c.entries-entries.result.now c.loop-place.place
    here.0 c.loop-place.invariant here.1
    (sym (c.is_covered_at.ensures here.0 here.1) ∙ c.if-not-is_covered_at.false)
