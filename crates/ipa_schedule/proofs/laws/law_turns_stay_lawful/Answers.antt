use Rattle.ipa_schedule.proofs.Parts.{part_run, IsPart}
use Rattle.ipa_schedule.proofs.laws.law_turns_stay_lawful.Goals as goal

pub returns : goal.returns
returns c = λ number turns start r run lawful. (part_run number start turns r run).lawful lawful
