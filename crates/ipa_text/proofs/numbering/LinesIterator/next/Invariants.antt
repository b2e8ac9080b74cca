use Rattle.std.proofs.Common.{length}
use Rattle.ipa_text.proofs.LineLemmas.{IsAt}
use Rattle.ipa_text.proofs.numbering.LinesIterator.next.Given as goal

abbrev pub invariant-loop-self : goal.invariant-loop-self
invariant-loop-self l = IsAt l.fn.self l.self-inside.number l.self-inside.start l.self-inside.rest.now

abbrev pub decreases-loop-self : goal.decreases-loop-self
decreases-loop-self l = length l.self-inside.rest.now
