use Rattle.std.proofs.Common.{arith}
use Rattle.std.specs.Ordering.{is_eq}
use Rattle.std.proofs.lemmas.Bool.{false≢true}
use Rattle.ipa_spec.specs.Actions.{effects_of}
use Rattle.ipa_spec.specs.declared.operations.Effect.{Effect}
use Rattle.ipa_sets.specs.Keys.{key_cmp, key_of}
use Rattle.ipa_sets.proofs.EffectLemmas.{any-at, put-more, put-all, effects-few}
use Rattle.ipa_sets.proofs.rows.Rows.put_effects.Goals as goal

pub loop-place-preserved : goal.loop-place-preserved
loop-place-preserved c = put-more c.args.spec.now c.args.tx.now c.args.self.now c.loop-place.self c.put_effect.new.self
    c.loop-place.place c.loop-place.invariant c.in_ok-put_effect.ensures.rows c.put_effect.ensures.kept c.put_effect.ensures.spare

pub returns-clause-rows : goal.returns-clause-rows
returns-clause-rows c =
    let few = effects-few c.args.spec.now c.spec_is_fit.ensures.fit c.args.tx.now.action in
    put-all c.args.spec.now c.args.tx.now c.args.self.now c.loop-place.self c.loop-place.place
    (omega (arith, few, c.loop-place-test.false)) c.loop-place.invariant

pub returns-in_err-put_effect-clause-kept : goal.returns-in_err-put_effect-clause-kept
returns-in_err-put_effect-clause-kept c k h = c.put_effect.ensures.kept k (c.loop-place.invariant.kept k h)

pub returns-in_err-put_effect-clause-ready : goal.returns-in_err-put_effect-clause-ready
returns-in_err-put_effect-clause-ready c all = absurd (false≢true (c.in_err-put_effect.ensures.ready
    (λ k h. c.loop-place.invariant.kept k (all k (any-at (λ (e : Effect). is_eq (key_cmp (key_of c.args.spec.now c.args.tx.now.args e) k))
    (effects_of c.args.spec.now c.args.tx.now.action) c.loop-place.place h)))))
