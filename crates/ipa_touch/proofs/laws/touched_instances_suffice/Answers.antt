use Rattle.ipa_touch.proofs.ClauseLemmas.{instance-falsified}
use Rattle.ipa_touch.proofs.laws.touched_instances_suffice.Goals as goal

pub returns : goal.returns
returns c s sizes action args values before k clause = instance-falsified s sizes action args values before k clause
