use Rattle.std.proofs.Common.{◌≡◌, ◌++◌, drop}
use Rattle.ipa_journal.specs.Texts.{outcomes_text}
use Rattle.ipa_journal.proofs.writing.write_outcomes.Given as goal

-- what is printed, and the lines that are left, are all lines
abbrev pub invariant-loop-answers : goal.invariant-loop-answers
invariant-loop-answers l = record {
  counted : l.session ≡ l.answers-index;
  printed : l.page ++ outcomes_text l.spec l.elements l.origins l.answers-index (drop l.answers-index l.outcomes)
      ≡ l.initial.page ++ outcomes_text l.spec l.elements l.origins 0 l.outcomes;
}
