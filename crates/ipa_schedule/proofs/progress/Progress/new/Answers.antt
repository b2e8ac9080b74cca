use Rattle.ipa_schedule.proofs.Beginning.{way_begun}
use Rattle.ipa_schedule.proofs.progress.Progress.new.Goals as goal

pub returns-clause-way : goal.returns-clause-way
returns-clause-way c w = way_begun w _ c.in_ok-nothing_held.ensures c.in_ok-no_fates.ensures
