use Rattle.ipa_sets.specs.FactSets.{truth_of}
use Rattle.ipa_sets.proofs.facts.Facts.is_true_by_rows.Goals as goal

pub returns : goal.returns
unfolding truth_of
returns c = c.passes.ensures
