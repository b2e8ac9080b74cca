use Rattle.std.proofs.Common.{take, sym}
use Rattle.std.proofs.lemmas.List.Folds.{list_any_more}
use Rattle.ipa_logic.specs.Touches.{some_gives, gives}
use Rattle.ipa_logic.specs.NextLaws.{next-same}
use Rattle.ipa_logic.proofs.added.next_given.Goals as goal

pub loop-effect-preserved : goal.loop-effect-preserved
loop-effect-preserved c = next-same _ _ _ _ _
    (λ f l. sym (list_any_more (gives c.args.spec.now c.args.args.now f) c.args.effects.now c.loop-effect.effect-index _ c.loop-effect-test.true))
    (c.lesser-least.ensures (some_gives c.args.spec.now (take c.loop-effect.effect-index c.args.effects.now) c.args.args.now) _ c.args.predicate c.args.after c.loop-effect.invariant c.given_above.ensures)
