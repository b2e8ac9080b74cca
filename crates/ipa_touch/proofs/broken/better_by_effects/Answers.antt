use Rattle.std.proofs.Common.{take}
use Rattle.std.specs.List.{list_any}
use Rattle.std.proofs.lemmas.List.Folds.{list_any_more}
use Rattle.ipa_touch.specs.Turns.{turns}
use Rattle.ipa_touch.proofs.BestLemmas.{improves-both}
use Rattle.ipa_touch.proofs.broken.better_by_effects.Goals as goal

pub loop-effect-preserved : goal.loop-effect-preserved
loop-effect-preserved g c = improves-both _ _ _
    (λ v. list_any (turns c.args.step.now.spec.now c.args.step.now.args.now v c.args.literal.now) (take c.loop-effect.effect-index c.args.effects.now)) _ _ _ _ _
    c.loop-effect.invariant c.better_by_effect-least.ensures
    (λ v. list_any_more (turns c.args.step.now.spec.now c.args.step.now.args.now v c.args.literal.now) c.args.effects.now c.loop-effect.effect-index _ c.loop-effect-test.true)
