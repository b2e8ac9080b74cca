use Rattle.ipa_command.specs.Statuses.{is_of_input}
use Rattle.ipa_command.specs.Steps.{IsJudgement}
use Rattle.ipa_command.specs.StepLaws.{ends-weaker}
use Rattle.ipa_command.specs.Verdicts.AfterWidth.{narrow}
use Rattle.ipa_command.specs.Verdicts.AfterAcceptance.{accepted}
use Rattle.ipa_journal_commands.specs.Audits.{IsAuditOf, IsDocumentAudited}
use Rattle.ipa_journal_commands.specs.Journals.{AfterJournal}
use Rattle.ipa_journal_commands.proofs.auditing.judge_document.Goals as goal

pub returns : goal.returns
returns g c =
    let document = c.args.document.now in
    let bytes = c.args.bytes.now in
    ends-weaker ⊥ ⊥ (IsJudgement is_of_input (AfterJournal document c.args.start bytes (IsAuditOf document))) (IsJudgement is_of_input (IsDocumentAudited bytes c.args.start document))
    (λ never. never)
    (λ status text judged. record {
      says = narrow c.in_ok-accepted.ensures.narrow (accepted c.in_ok-accepted.ensures.accepted judged.says);
      may_be = judged.may_be;
    })
    c.judge_journal.result c.judge_journal.ensures
