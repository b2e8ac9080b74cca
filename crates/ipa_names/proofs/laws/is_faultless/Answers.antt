use Rattle.ipa_names.proofs.Faultless.{specification_faultless}
use Rattle.ipa_names.proofs.laws.is_faultless.Goals as goal

pub returns : goal.returns
returns c = specification_faultless
