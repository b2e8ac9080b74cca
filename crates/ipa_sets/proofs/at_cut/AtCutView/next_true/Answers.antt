use Rattle.ipa_sets.specs.AtCuts.{facts_at}
use Rattle.ipa_sets.proofs.at_cut.AtCutView.next_true.Goals as goal

pub returns-clause-value : goal.returns-clause-value
unfolding facts_at
returns-clause-value c = c.next_listed.ensures.value

pub returns-clause-rising : goal.returns-clause-rising
unfolding facts_at
returns-clause-rising c = c.next_listed.ensures.rising
