use Rattle.std.proofs.Common.{◌∙◌}
use Rattle.ipa_sets.specs.AtCuts.{shown}
use Rattle.ipa_sets.specs.Lasts.{value_by_lasts}
use Rattle.ipa_sets.proofs.at_cut.AtCutTest.passes.Goals as goal

pub returns : goal.returns
unfolding shown
returns c = c.value_by_lasts.ensures
    ∙ (λ i. value_by_lasts (c.rule.ensures i) (c.holds.ensures.value i) (c.lasts.ensures i))
