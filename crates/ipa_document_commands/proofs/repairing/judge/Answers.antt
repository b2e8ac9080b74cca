use Rattle.std.proofs.Common.{◌∙◌, ap}
use Rattle.std.proofs.lemmas.Result.{err_from_is_err_and}
use Rattle.ipa_command.specs.Statuses.{is_of_input}
use Rattle.ipa_command.specs.Verdicts.{AfterWidth, Nothing}
use Rattle.ipa_document_commands.specs.Repairs.{IsRepairJudged, IsRepairOf}
use Rattle.ipa_command.specs.Verdicts.AfterReading.{read}
use Rattle.ipa_command.specs.Verdicts.AfterWidth.{narrow}
use Rattle.ipa_command.specs.StepLaws.{judgement-weaker, width-first}
use Rattle.ipa_document_commands.proofs.RepairLemmas.{repaired-of_input}
use Rattle.ipa_document_commands.proofs.repairing.judge.Goals as goal

pub returns-in_err-repaired : goal.returns-in_err-repaired
returns-in_err-repaired g c =
    let s = c.in_ok-document.document.spec in
    let p = err_from_is_err_and c.from_residual-in_err-repaired.result c.from_residual-in_err-repaired.ensures.1 in
    rw (p.1, p.2)
    (judgement-weaker is_of_input (AfterWidth s Nothing) (IsRepairJudged c.args.bytes.now)
    (λ status text h. read c.in_ok-document.document c.in_ok-document.ensures.document (width-first s (IsRepairOf s) status text h))
    c.in_err-repaired.field-0.0 c.in_err-repaired.ensures.stop)

pub returns : goal.returns
returns g c = record {
  says = read c.in_ok-document.document c.in_ok-document.ensures.document
      (narrow c.in_ok-repaired.ensures.narrow
      (record {
        repaired = c.in_ok-repaired.repaired;
        is_repaired = c.in_ok-repaired.ensures.repaired;
        status_is = c.in_ok-answer_with.ensures.status;
        text_is = c.in_ok-answer_with.ensures.text;
      }));
  may_be = ap is_of_input c.in_ok-answer_with.ensures.status ∙ repaired-of_input c.in_ok-repaired.repaired;
}
