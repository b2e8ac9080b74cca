use Rattle.ipa_schedule.proofs.Parts.{part_run, IsPart}
use Rattle.ipa_schedule.proofs.Ending.{end_settled}
use Rattle.ipa_schedule.proofs.laws.law_scheduled_is_lawful.Goals as goal

pub returns : goal.returns
returns c = λ number start r end lawful scheduled is.
    let played = scheduled.is_played in
    end_settled scheduled.played r end ((part_run number start played.turns scheduled.played played.run).lawful lawful)
    played.over.done scheduled.settled scheduled.going is
