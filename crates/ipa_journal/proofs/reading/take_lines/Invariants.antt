use Rattle.std.proofs.Common.{◌≡◌, ◌++◌}
use Rattle.ipa_text.specs.Lines.{lines_of}
use Rattle.ipa_journal.specs.Readings.{context_of, IsReadUpTo}
use Rattle.ipa_journal.proofs.reading.take_lines.Given as goal

-- the lines so far are read, and those that are left are the others
abbrev pub invariant-loop-line : goal.invariant-loop-line
invariant-loop-line l = record {
  read : IsReadUpTo (context_of l.spec l.elements l.sessions l.first_line) l.bytes l.yielded l.standing;
  left : l.yielded ++ l.line-iterator ≡ lines_of l.bytes;
}
