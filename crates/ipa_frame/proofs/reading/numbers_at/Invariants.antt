use Rattle.ipa_frame.proofs.Fields.{AreReadBelow}
use Rattle.ipa_frame.proofs.reading.numbers_at.Given as goal

abbrev pub invariant-loop-place : goal.invariant-loop-place
invariant-loop-place l = AreReadBelow l.place l.bytes l.start l.numbers
