use Rattle.ipa_schedule.proofs.Walking.{IsWalk, walk_run, walk_settled, walk_scheduled, walk_full}
use Rattle.ipa_schedule.proofs.laws.law_schedules_are_runs.Goals as goal

pub returns-clause-turns : goal.returns-clause-turns
returns-clause-turns c = λ number turns start r run. (walk_run number start turns r run).reached

pub returns-clause-settled : goal.returns-clause-settled
returns-clause-settled c = λ r after settled. (walk_settled r after settled).reached

pub returns-clause-scheduled : goal.returns-clause-scheduled
returns-clause-scheduled c = λ number start r scheduled. (walk_scheduled number start r scheduled).reached

pub returns-clause-full : goal.returns-clause-full
returns-clause-full c = λ number start r full. (walk_full number start r full.met).reached
