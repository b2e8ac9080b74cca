use Rattle.ipa_touch.proofs.ConstantLemmas.{below_four}
use Rattle.ipa_touch.proofs.leaps.past_constants.Goals as goal

pub returns-else-is_empty-clause-past : goal.returns-else-is_empty-clause-past
returns-else-is_empty-clause-past c k = below_four c.args.spec.now c.spec_is_fit.ensures.fit k
