use Rattle.std.proofs.Common.{◌∙◌, ap}
use Rattle.ipa_command.specs.Statuses.{is_of_input}
use Rattle.ipa_journal_commands.specs.Journals.AfterJournal.{read}
use Rattle.ipa_journal_commands.proofs.JournalLemmas.{verdict-of_input}
use Rattle.ipa_journal_commands.proofs.auditing.judge_journal.Goals as goal

pub returns : goal.returns
returns c = record {
  says = read c.in_ok-journal.journal c.in_ok-journal.ensures.journal (record {
    verdict = c.in_ok-verdict.verdict;
    is_verdict = c.in_ok-verdict.ensures;
    status_is = c.in_ok-answer_with.ensures.status;
    text_is = c.in_ok-answer_with.ensures.text;
  });
  may_be = ap is_of_input c.in_ok-answer_with.ensures.status ∙ verdict-of_input c.in_ok-verdict.verdict;
}
