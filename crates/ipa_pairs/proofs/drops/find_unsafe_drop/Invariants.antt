use Rattle.std.proofs.Common.{length}
use Rattle.ipa_reduction.specs.Cases.{constant_counts, drop_sorts, DropBreaksOn}
use Rattle.ipa_pairs.proofs.TriedLemmas.{Tried}
use Rattle.ipa_pairs.specs.Grounded.{AreOf}
use Rattle.ipa_pairs.proofs.drops.find_unsafe_drop.Given as goal

-- the drop breaks the clause on none of the patterns before those to come
abbrev pub invariant-loop-pattern : goal.invariant-loop-pattern
invariant-loop-pattern l = Tried (DropBreaksOn l.spec l.bound l.declared l.clause) (constant_counts l.spec) (drop_sorts l.spec l.bound l.clause) l.patterns × AreOf l.spec l.grounded

abbrev pub decreases-loop-pattern : goal.decreases-loop-pattern
decreases-loop-pattern l = length l.patterns
