use Rattle.ipa_command.specs.Statuses.{is_of_input}
use Rattle.ipa_command.specs.Steps.{IsJudgement}
use Rattle.ipa_command.specs.StepLaws.{ends-weaker}
use Rattle.ipa_command.specs.Verdicts.AfterReading.{read}
use Rattle.ipa_journal_commands.specs.Migrations.{IsDocumentMigrated, IsMigrated}
use Rattle.ipa_journal_commands.proofs.migrating.judge.Goals as goal

pub returns : goal.returns
returns c =
    let bytes = c.args.bytes.now in
    let start = c.in_ok-start.start in
    let document = c.in_ok-document.document in
    ends-weaker ⊥ ⊥ (IsJudgement is_of_input (IsDocumentMigrated bytes start document)) (IsJudgement is_of_input (IsMigrated bytes))
    (λ never. never)
    (λ status text judged. record {
      says = record {
        start = start;
        begins = c.in_ok-start.ensures.start;
        later = read document c.in_ok-document.ensures.document judged.says;
      };
      may_be = judged.may_be;
    })
    c.judge_document.result c.judge_document.ensures
