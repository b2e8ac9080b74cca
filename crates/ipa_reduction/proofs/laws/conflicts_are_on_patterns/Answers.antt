use Rattle.ipa_reduction.proofs.TriplesLemmas.{conflict_on_some, conflict_from}
use Rattle.ipa_reduction.proofs.laws.conflicts_are_on_patterns.Goals as goal

pub returns : goal.returns
returns c = record { some = conflict_on_some; conflict = conflict_from }
