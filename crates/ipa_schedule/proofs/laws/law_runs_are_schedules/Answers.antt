use Rattle.ipa_schedule.proofs.Scheduling.{turned_more, turned_full, ended_full, ended_scheduled}
use Rattle.ipa_schedule.proofs.laws.law_runs_are_schedules.Goals as goal

pub returns-clause-turns : goal.returns-clause-turns
returns-clause-turns c = λ k start s after run at. turned_more k start s run at after

pub returns-clause-full : goal.returns-clause-full
returns-clause-full c = λ k start s after run at. turned_full k start s run at after

pub returns-clause-full_at_last : goal.returns-clause-full_at_last
returns-clause-full_at_last c = λ k start s run at. ended_full k start s run at

pub returns-clause-ends : goal.returns-clause-ends
returns-clause-ends c = ended_scheduled
