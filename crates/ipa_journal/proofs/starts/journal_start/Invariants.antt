use Rattle.std.proofs.Common.{◌≡◌, ◌++◌}
use Rattle.std.specs.List.{All}
use Rattle.ipa_text.specs.Lines.{lines_of}
use Rattle.ipa_journal.specs.Starts.{BeginsNone}
use Rattle.ipa_journal.proofs.starts.journal_start.Given as goal

-- the lines so far begin no journal, and those that are left are the others
abbrev pub invariant-loop-line : goal.invariant-loop-line
invariant-loop-line l = record {
  none : All (BeginsNone l.bytes) l.yielded;
  left : l.yielded ++ l.line-iterator ≡ lines_of l.bytes;
}
