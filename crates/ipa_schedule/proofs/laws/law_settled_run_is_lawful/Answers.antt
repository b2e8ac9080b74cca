use Rattle.ipa_schedule.proofs.Ending.{end_settled}
use Rattle.ipa_schedule.proofs.laws.law_settled_run_is_lawful.Goals as goal

pub returns : goal.returns
returns c = end_settled
