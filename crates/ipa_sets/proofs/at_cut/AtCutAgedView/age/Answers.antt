use Rattle.std.proofs.Common.{◌∙◌, ap}
use Rattle.ipa_sets.specs.AtCuts.{age_shown}
use Rattle.ipa_sets.specs.Lasts.{age_by_lasts}
use Rattle.ipa_sets.proofs.at_cut.AtCutAgedView.age.Goals as goal

pub returns : goal.returns
unfolding age_shown
returns c = c.age_by_lasts.ensures ∙ ap age_by_lasts c.lasts.ensures
