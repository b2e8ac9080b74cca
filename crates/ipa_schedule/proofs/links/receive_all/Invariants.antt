use Rattle.ipa_schedule.proofs.Receiving.{IsReceiving}
use Rattle.ipa_schedule.proofs.links.receive_all.Given as goal

abbrev pub invariant-loop-frame : goal.invariant-loop-frame
invariant-loop-frame l =
    IsReceiving l.initial.world l.initial.progress l.from l.to l.frames l.frame-index l.world l.progress
