use Rattle.ipa_clock.specs.Lemmas.{covered_covers, covers_above, covers_joined, covers_raised}
use Rattle.ipa_clock.proofs.laws.covers_follows_below.Goals as goal

pub returns : goal.returns
returns c = record { test = covered_covers; above = covers_above; joined = covers_joined; raised = covers_raised }
