use Rattle.ipa_sets.specs.FactSetLaws.{facts-state, facts-age}
use Rattle.ipa_sets.proofs.laws.facts_are_the_state.Goals as goal

pub returns-clause-state : goal.returns-clause-state
returns-clause-state c s base taken facts is = facts-state s base taken facts is

pub returns-clause-ages : goal.returns-clause-ages
returns-clause-ages c s base taken facts f is here = facts-age s base taken facts is f
