use Rattle.ipa_reduction.proofs.DropsLemmas.{breaks_on_some, breaks_from}
use Rattle.ipa_reduction.proofs.laws.unsafe_drops_are_on_patterns.Goals as goal

pub returns : goal.returns
returns c = record { some = breaks_on_some; breaks = breaks_from }
