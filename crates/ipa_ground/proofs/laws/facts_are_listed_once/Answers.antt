use Rattle.ipa_ground.specs.FactsLaws.{has-facts_over, IsRising-facts_over}
use Rattle.ipa_ground.proofs.laws.facts_are_listed_once.Goals as goal

pub returns : goal.returns
returns c = record { listed = has-facts_over; rising = λ s. IsRising-facts_over s.predicates }
