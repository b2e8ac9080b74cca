use Rattle.ipa_clock.proofs.Counts.{GreaterBelow}
use Rattle.ipa_clock.proofs.cut.Cut.joined.Given as goal

abbrev pub invariant-loop-origin : goal.invariant-loop-origin
invariant-loop-origin l = GreaterBelow l.origin l.self.counts l.other.counts l.counts
