use Rattle.std.proofs.Common.{rules}
use Rattle.ipa_reduction.specs.Cases.{constant_counts}
use Rattle.ipa_pairs.proofs.constants.constant_counts.Goals as goal

pub returns : goal.returns
unfolding constant_counts
returns c = search rules
