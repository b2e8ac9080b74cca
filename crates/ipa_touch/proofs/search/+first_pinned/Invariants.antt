use Rattle.std.proofs.Common.{◌-◌, length}
use Rattle.ipa_spec.specs.Actions.{sorts_of_vars}
use Rattle.ipa_touch.specs.Turns.{passes_after}
use Rattle.ipa_touch.proofs.SearchLemmas.{PassBelow}
use Rattle.ipa_touch.proofs.search.+first_pinned.Given as goal

abbrev pub decreases-first_pinned : goal.decreases-first_pinned
decreases-first_pinned g l = length l.clause.now.vars - l.at

abbrev pub decreases-loop-element : goal.decreases-loop-element
decreases-loop-element g l = l.elements.end - l.element

abbrev pub invariant-loop-element : goal.invariant-loop-element
invariant-loop-element g l = PassBelow (passes_after l.step.spec.now l.step.action l.step.args.now (g.V.View.facts l.step.view.now) l.clause) l.step.universe.now.sizes (sorts_of_vars l.clause.vars) l.pins l.values l.at l.element
