use Rattle.ipa_schedule.proofs.Giving.{IsGiving}
use Rattle.ipa_schedule.proofs.exchanges.give_all.Given as goal

abbrev pub invariant-loop-place : goal.invariant-loop-place
invariant-loop-place l =
    IsGiving l.initial.world l.initial.progress l.from l.to l.count l.place l.world l.progress
