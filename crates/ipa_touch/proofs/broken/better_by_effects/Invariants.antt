use Rattle.std.proofs.Common.{take}
use Rattle.std.specs.List.{list_any}
use Rattle.ipa_spec.specs.Actions.{sorts_of_vars}
use Rattle.ipa_touch.specs.Turns.{passes_after, turns}
use Rattle.ipa_touch.specs.Searches.{Improves}
use Rattle.ipa_touch.proofs.broken.better_by_effects.Given as goal

abbrev pub invariant-loop-effect : goal.invariant-loop-effect
invariant-loop-effect g l = Improves (passes_after l.step.spec.now l.step.action l.step.args.now (g.V.View.facts l.step.view.now) l.clause) l.step.universe.now.sizes (sorts_of_vars l.clause.vars)
    (λ v. list_any (turns l.step.spec.now l.step.args.now v l.literal) (take l.effect-index l.effects)) l.fn.best l.least
