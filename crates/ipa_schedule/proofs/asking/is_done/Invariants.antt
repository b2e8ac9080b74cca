use Rattle.ipa_schedule.proofs.Asked.{IsDoneTo}
use Rattle.ipa_schedule.proofs.asking.is_done.Given as goal

abbrev pub invariant-loop-session : goal.invariant-loop-session
invariant-loop-session l = IsDoneTo l.world l.session
