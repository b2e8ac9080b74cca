use Rattle.std.proofs.Common.{◌≡◌, ◌++◌, drop}
use Rattle.ipa_journal.specs.Texts.{answers_text}
use Rattle.ipa_journal.proofs.writing.write_answers.Given as goal

-- what is printed, and the lines that are left, are all lines
abbrev pub invariant-loop-outcome : goal.invariant-loop-outcome
invariant-loop-outcome l = record {
  counted : l.place ≡ l.outcome-index;
  printed : l.page ++ answers_text l.spec l.elements l.origins l.session l.outcome-index (drop l.outcome-index l.outcomes)
      ≡ l.initial.page ++ answers_text l.spec l.elements l.origins l.session 0 l.outcomes;
}
