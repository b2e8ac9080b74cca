use Rattle.std.proofs.Common.{◌-◌, length}
use Rattle.ipa_ground.proofs.InstanceLemmas.{GroundsBelow}
use Rattle.ipa_ground.proofs.grounding.+ground_values.Given as goal

abbrev pub decreases-ground_values : goal.decreases-ground_values
decreases-ground_values l = length l.clause.now.vars - l.at

abbrev pub invariant-loop-element : goal.invariant-loop-element
invariant-loop-element l = GroundsBelow l.grounder.spec.now l.grounder.universe.now.sizes l.grounder.first l.clause l.at l.values l.initial.cnf l.cnf l.element
