use Rattle.ipa_sets.specs.FactSets.{lasts_on}
use Rattle.ipa_sets.proofs.facts.Facts.lasts_on.Goals as goal

pub returns : goal.returns
unfolding lasts_on
returns c = cc
