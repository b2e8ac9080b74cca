use Rattle.ipa_repair.proofs.ConstantCounts.{few_constants}
use Rattle.ipa_repair.proofs.counting.constants_are_few.Goals as goal

pub returns : goal.returns
returns c s fit = few_constants s fit
