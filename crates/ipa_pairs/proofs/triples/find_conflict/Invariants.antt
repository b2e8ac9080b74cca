use Rattle.std.proofs.Common.{length}
use Rattle.ipa_reduction.specs.Cases.{constant_counts, triple_sorts, ConflictOn}
use Rattle.ipa_pairs.proofs.TriedLemmas.{Tried}
use Rattle.ipa_pairs.specs.Grounded.{AreOf}
use Rattle.ipa_pairs.proofs.triples.find_conflict.Given as goal

-- the triple is in conflict on none of the patterns before those to come
abbrev pub invariant-loop-pattern : goal.invariant-loop-pattern
invariant-loop-pattern l = Tried (ConflictOn l.spec l.left l.right l.clause) (constant_counts l.spec) (triple_sorts l.spec l.left l.right l.clause) l.patterns × AreOf l.spec l.grounded

abbrev pub decreases-loop-pattern : goal.decreases-loop-pattern
decreases-loop-pattern l = length l.patterns
