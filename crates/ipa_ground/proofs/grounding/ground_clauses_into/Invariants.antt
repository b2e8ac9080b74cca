use Rattle.ipa_ground.proofs.InstanceLemmas.{KeepsBelow}
use Rattle.ipa_ground.proofs.grounding.ground_clauses_into.Given as goal

abbrev pub invariant-loop-clause : goal.invariant-loop-clause
invariant-loop-clause l = KeepsBelow l.spec l.universe.sizes l.first l.initial.cnf l.cnf l.clause-index
