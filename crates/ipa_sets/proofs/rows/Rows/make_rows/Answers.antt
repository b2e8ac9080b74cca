use Rattle.std.proofs.Common.{arith, ◌∙◌}
use Rattle.std.specs.Ordering.{is_eq}
use Rattle.std.proofs.lemmas.Bool.{false≢true}
use Rattle.ipa_spec.specs.Actions.{effects_of}
use Rattle.ipa_spec.specs.declared.operations.Effect.{Effect}
use Rattle.ipa_sets.specs.Keys.{key_cmp, key_of}
use Rattle.ipa_sets.proofs.EffectLemmas.{any-at, made-none, made-more, made-all, effects-few}
use Rattle.ipa_sets.proofs.rows.Rows.make_rows.Goals as goal

pub loop-place-init : goal.loop-place-init
loop-place-init c = made-none c.args.spec.now c.args.tx.now c.args.self.now

pub loop-place-preserved : goal.loop-place-preserved
loop-place-preserved c = made-more c.args.spec.now c.args.tx.now c.args.self.now c.loop-place.self c.make_row_at.new.self
    c.loop-place.place c.loop-place.invariant c.in_ok-make_row_at.ensures.made c.make_row_at.ensures.same c.make_row_at.ensures.kept
    c.make_row_at.ensures.spare

pub returns-in_err-make_row_at-clause-same : goal.returns-in_err-make_row_at-clause-same
returns-in_err-make_row_at-clause-same c k = c.make_row_at.ensures.same k ∙ c.loop-place.invariant.same k

pub returns-in_err-make_row_at-clause-kept : goal.returns-in_err-make_row_at-clause-kept
returns-in_err-make_row_at-clause-kept c k h = c.make_row_at.ensures.kept k (c.loop-place.invariant.kept k h)

pub returns-in_err-make_row_at-clause-ready : goal.returns-in_err-make_row_at-clause-ready
returns-in_err-make_row_at-clause-ready c all = absurd (false≢true (c.in_err-make_row_at.ensures.ready
    (λ k h. c.loop-place.invariant.kept k (all k (any-at (λ (e : Effect). is_eq (key_cmp (key_of c.args.spec.now c.args.tx.now.args e) k))
    (effects_of c.args.spec.now c.args.tx.now.action) c.loop-place.place h)))))

pub returns-clause-made : goal.returns-clause-made
returns-clause-made c =
    let few = effects-few c.args.spec.now c.spec_is_fit.ensures.fit c.args.tx.now.action in
    made-all c.args.spec.now c.args.tx.now c.args.self.now c.loop-place.self c.loop-place.place
    (omega (arith, few, c.loop-place-test.false)) c.loop-place.invariant
