use Rattle.ipa_ground.proofs.PatternsLemmas.{give-all}
use Rattle.ipa_ground.proofs.patterns.Patterns.new.Goals as goal
use Rattle.std.proofs.Common.{◌∙◌}

pub returns : goal.returns
returns c = give-all c.first.result c.args.constants.now c.args.sorts.now c.first.ensures.cursor (c.first.ensures.constants ∙ c.sizes_of.ensures) c.first.ensures.sorts c.first.ensures.classes
