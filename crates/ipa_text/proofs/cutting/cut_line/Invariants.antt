use Rattle.std.proofs.Common.{length, ◌-◌}
use Rattle.ipa_text.proofs.CutLemmas.{IsCutSoFar}
use Rattle.ipa_text.proofs.cutting.cut_line.Given as goal

abbrev pub invariant-loop-at : goal.invariant-loop-at
invariant-loop-at l = IsCutSoFar l.line l.tokens.items l.at

abbrev pub decreases-loop-at : goal.decreases-loop-at
decreases-loop-at l = length l.line - l.at
