use Rattle.ipa_clock.specs.Lemmas.{joined_least, joined_comm, joined_assoc, joined_same}
use Rattle.ipa_clock.proofs.laws.joined_is_the_least_above.Goals as goal

pub returns : goal.returns
returns c = record { least = joined_least; commutative = joined_comm; associative = joined_assoc; idempotent = joined_same }
