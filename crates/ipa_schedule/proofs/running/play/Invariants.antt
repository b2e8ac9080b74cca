use Rattle.ipa_schedule.proofs.Taking.{IsPlaying}
use Rattle.ipa_schedule.specs.Remaining.{turns_left}
use Rattle.ipa_schedule.proofs.running.play.Given as goal

abbrev pub invariant-turns : goal.invariant-turns
invariant-turns g l =
    IsPlaying (λ w. (goal.Weather-dyn g (w.vtable, w.value)).due w.value)
    (λ w. (goal.Weather-dyn g (w.vtable, w.value)).asked w.value) l.initial.world l.initial.progress l.initial.plan
    l.initial.weathers.items l.world l.progress l.plan l.weathers.items

abbrev pub decreases-turns : goal.decreases-turns
decreases-turns g l = turns_left l.world l.plan
