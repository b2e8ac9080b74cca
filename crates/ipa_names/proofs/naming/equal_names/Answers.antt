use Rattle.ipa_names.proofs.RepeatLemmas.{equal-same_name}
use Rattle.ipa_names.proofs.naming.equal_names.Goals as goal

pub returns : goal.returns
returns c = equal-same_name
