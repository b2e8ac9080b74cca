use Rattle.std.proofs.Common.{◌-◌, length}
use Rattle.ipa_link.proofs.Progress.{SoFar}
use Rattle.ipa_link.proofs.pouring.pour.Given as goal

abbrev pub invariant-loop-poured : goal.invariant-loop-poured
invariant-loop-poured l = SoFar l.initial.log l.bytes l.poured l.log

abbrev pub decreases-loop-poured : goal.decreases-loop-poured
decreases-loop-poured l = length l.bytes - l.poured.read
