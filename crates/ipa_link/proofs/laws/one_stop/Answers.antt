use Rattle.ipa_link.proofs.Stops.{one_fault, none_is_refused, stops_one}
use Rattle.ipa_link.proofs.laws.one_stop.Goals as goal

pub returns-clause-fault : goal.returns-clause-fault
returns-clause-fault c = one_fault

pub returns-clause-read : goal.returns-clause-read
returns-clause-read c = none_is_refused c.one_frame.ensures

pub returns-clause-stop : goal.returns-clause-stop
returns-clause-stop c = stops_one c.one_frame.ensures
