use Rattle.std.proofs.Common.{None, take}
use Rattle.ipa_spec.specs.Actions.{sorts_of_vars}
use Rattle.ipa_touch.specs.Turns.{passes_after, is_touched}
use Rattle.ipa_touch.specs.Searches.{Improves}
use Rattle.ipa_touch.proofs.broken.first_broken_values.Given as goal

abbrev pub invariant-loop-literal : goal.invariant-loop-literal
invariant-loop-literal g l = Improves (passes_after l.step.spec.now l.step.action l.step.args.now (g.V.View.facts l.step.view.now) l.clause) l.step.universe.now.sizes (sorts_of_vars l.clause.vars)
    (λ v. is_touched l.step.spec.now l.step.action l.step.args.now v (take l.literal-index l.literal-items)) None l.best
