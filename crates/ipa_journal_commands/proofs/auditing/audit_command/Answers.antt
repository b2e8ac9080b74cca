use Rattle.ipa_command.specs.Statuses.{is_of_input}
use Rattle.ipa_command.specs.AnswerLaws.{answers-input, of_input}
use Rattle.ipa_journal_commands.specs.Audits.{AuditVerdict}
use Rattle.ipa_journal_commands.proofs.auditing.audit_command.Goals as goal

pub returns : goal.returns
returns g c =
    answers-input is_of_input of_input AuditVerdict _ _ c.answer_of-ended.result c.write_answer.result c.answer_of-ended.ensures c.write_answer.ensures.written c.write_answer.ensures.count
