use Rattle.ipa_world.specs.EndLaws.{one_transaction}
use Rattle.ipa_world.proofs.laws.law_logs_agree.Goals as goal

pub returns : goal.returns
returns c = one_transaction
