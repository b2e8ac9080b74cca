use Rattle.std.proofs.Common.{◌||◌, arith, take, false, slice_get}
use Rattle.std.specs.List.{list_any}
use Rattle.std.specs.Option.{option_map_or}
use Rattle.ipa_spec.specs.Actions.{effects_of}
use Rattle.ipa_logic.specs.declared.facts.Fact.{Fact}
use Rattle.ipa_sets.specs.Fitting.{fits, concerns}
use Rattle.ipa_sets.specs.Keys.{key_of}
use Rattle.ipa_sets.proofs.EffectLemmas.{any-none, effects-few}
use Rattle.ipa_sets.proofs.TruthLemmas.{tells-none, tells-more, tells-same, concerns-more, concerns-all}
use Rattle.ipa_sets.proofs.truths.tell_concerned.Goals as goal

pub loop-place-init : goal.loop-place-init
loop-place-init g c = tells-none (g.T.Test.passes c.args.test.now) c.args.facts.now _ c.args.truths.now
    (λ f h. any-none (λ e. fits (key_of c.args.spec.now c.args.tx.now.args e).pattern f)
    (effects_of c.args.spec.now c.args.tx.now.action) h)

pub loop-place-preserved : goal.loop-place-preserved
loop-place-preserved g c = tells-same (g.T.Test.passes c.args.test.now) c.args.facts.now
    (λ (f : Fact). list_any (λ e. fits (key_of c.args.spec.now c.args.tx.now.args e).pattern f)
    (take c.loop-place.place (effects_of c.args.spec.now c.args.tx.now.action))
    || option_map_or (λ e. fits (key_of c.args.spec.now c.args.tx.now.args e).pattern f)
    (slice_get (effects_of c.args.spec.now c.args.tx.now.action) c.loop-place.place) false)
    _ c.args.truths.now c.tell_effect.new.truths (concerns-more c.args.spec.now c.args.tx.now c.loop-place.place)
    (tells-more (g.T.Test.passes c.args.test.now) c.args.facts.now _ _ c.args.truths.now c.loop-place.truths c.tell_effect.new.truths
    c.loop-place.invariant c.tell_effect.ensures)

pub returns : goal.returns
returns g c =
    let few = effects-few c.args.spec.now c.spec_is_fit.ensures.fit c.args.tx.now.action in
    tells-same (g.T.Test.passes c.args.test.now) c.args.facts.now _ (concerns c.args.spec.now c.args.tx.now)
    c.args.truths.now c.loop-place.truths
    (λ f. concerns-all c.args.spec.now c.args.tx.now c.loop-place.place f (omega (arith, few, c.loop-place-test.false)))
    c.loop-place.invariant
