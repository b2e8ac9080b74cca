use Rattle.ipa_logic.specs.WalkLaws.{walk-from}
use Rattle.ipa_logic.proofs.walks.true_facts_after.Goals as goal

pub returns-clause-all : goal.returns-clause-all
returns-clause-all g c = walk-from _ _ c.args.after _ c.next_true.ensures.rising c.next_true.ensures.value
