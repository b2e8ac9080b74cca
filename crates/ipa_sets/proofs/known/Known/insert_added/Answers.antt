use Rattle.std.proofs.Common.{◌+◌, List, arith, ◌∙◌, ap, take}
use Rattle.std.specs.List.{list_any}
use Rattle.std.proofs.lemmas.Bool.{false≢true, or_right}
use Rattle.ipa_spec.specs.Actions.{effects_of}
use Rattle.ipa_logic.specs.Facts.{has}
use Rattle.ipa_logic.specs.Touches.{gives}
use Rattle.ipa_logic.specs.declared.facts.Fact.{Fact}
use Rattle.ipa_sets.specs.Knowns.{fewer-places}
use Rattle.ipa_sets.proofs.EffectLemmas.{any-at, known-more}
use Rattle.ipa_sets.proofs.known.Known.insert_added.Goals as goal

pub loop-place-preserved : goal.loop-place-preserved
loop-place-preserved g c = record {
  known = known-more c.args.spec.now c.args.tx.now c.args.self.now.facts.items c.loop-place.self.facts.items
      c.insert_given.new.self.facts.items c.loop-place.place c.loop-place.invariant.known c.in_ok-insert_given.ensures.facts;
  truths = λ told. c.insert_given.ensures.truths (c.loop-place.invariant.truths told);
  left = λ n h. c.insert_given.ensures.left n (c.loop-place.invariant.left (n + 1)
      (fewer-places (n + 1 + c.loop-place.place) (n + (c.loop-place.place + 1)) c.args.self.now (omega arith) h));
}

pub returns-in_err-insert_given-clause-kept : goal.returns-in_err-insert_given-clause-kept
returns-in_err-insert_given-clause-kept g c f h = ap (λ (xs : List Fact). has xs f) c.in_err-insert_given.ensures.refused
    ∙ (c.loop-place.invariant.known.facts f
    ∙ or_right (list_any (gives c.args.spec.now c.args.tx.now.args f) (take c.loop-place.place (effects_of c.args.spec.now c.args.tx.now.action)))
    (has c.args.self.now.facts.items f) h)

pub returns-in_err-insert_given-clause-truths : goal.returns-in_err-insert_given-clause-truths
returns-in_err-insert_given-clause-truths g c told = c.insert_given.ensures.truths (c.loop-place.invariant.truths told)

pub returns-in_err-insert_given-clause-room : goal.returns-in_err-insert_given-clause-room
returns-in_err-insert_given-clause-room g c room = let less = c.loop-place-test.true in
    absurd (false≢true (c.in_err-insert_given.ensures.room (c.loop-place.invariant.left 1
    (fewer-places (1 + c.loop-place.place) 12 c.args.self.now (omega (arith, less)) room))))

pub returns-in_err-insert_given-clause-ready : goal.returns-in_err-insert_given-clause-ready
returns-in_err-insert_given-clause-ready g c all = absurd (false≢true (c.in_err-insert_given.ensures.ready (λ f h.
    c.loop-place.invariant.known.facts f
    ∙ or_right (list_any (gives c.args.spec.now c.args.tx.now.args f) (take c.loop-place.place (effects_of c.args.spec.now c.args.tx.now.action)))
    (has c.args.self.now.facts.items f)
    (all f (any-at (gives c.args.spec.now c.args.tx.now.args f) (effects_of c.args.spec.now c.args.tx.now.action) c.loop-place.place h)))))

pub returns-in_err-insert_given-clause-left : goal.returns-in_err-insert_given-clause-left
returns-in_err-insert_given-clause-left g c n h = let less = c.loop-place-test.true in
    c.insert_given.ensures.left n (c.loop-place.invariant.left (n + 1)
    (fewer-places (n + 1 + c.loop-place.place) (n + 12) c.args.self.now (omega (arith, less)) h))

pub returns-clause-left : goal.returns-clause-left
returns-clause-left g c n h = c.loop-place.invariant.left n
    (fewer-places (n + c.loop-place.place) (n + 12) c.args.self.now (omega (arith, c.loop-place.auto.place-end)) h)
