use Rattle.std.proofs.Common.{◌-◌, length}
use Rattle.ipa_spec.specs.Actions.{sorts_of_vars}
use Rattle.ipa_logic.specs.Facts.{has}
use Rattle.ipa_logic.specs.Truth.{instance_true}
use Rattle.ipa_logic.proofs.ValuesLemmas.{PassBelow}
use Rattle.ipa_logic.proofs.keeping.+first_broken_values.Given as goal

abbrev pub decreases-first_broken_values : goal.decreases-first_broken_values
decreases-first_broken_values g l = length l.clause.now.vars - l.at

abbrev pub invariant-loop-element : goal.invariant-loop-element
invariant-loop-element g l = PassBelow (λ v. instance_true l.spec (has (g.V.View.facts l.view)) v l.clause) l.universe.sizes (sorts_of_vars l.clause.vars) l.values l.at l.element
