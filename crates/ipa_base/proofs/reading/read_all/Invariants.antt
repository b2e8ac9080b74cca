use Rattle.std.proofs.Common.{◌+◌, ◌-◌, vec_len}
use Rattle.ipa_base.proofs.Told.{ReadSoFar}
use Rattle.ipa_base.proofs.reading.read_all.Given as goal

abbrev pub invariant-loop-piece : goal.invariant-loop-piece
invariant-loop-piece g l = ReadSoFar (g.S.Source.left l.initial.source) (g.S.Source.left l.source)
    (g.S.Source.faults l.initial.source) (g.S.Source.faults l.source)
    (g.S.Source.reads l.initial.source) (g.S.Source.reads l.source) l.bytes.items l.limit

abbrev pub decreases-loop-piece : goal.decreases-loop-piece
decreases-loop-piece g l = l.limit + 1 - vec_len l.bytes
