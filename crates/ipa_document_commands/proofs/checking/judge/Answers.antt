use Rattle.std.proofs.Common.{ap}
use Rattle.std.proofs.lemmas.Result.{err_from_is_err_and}
use Rattle.ipa_command.specs.Statuses.{is_of_input}
use Rattle.ipa_command.specs.Verdicts.{AfterWidth, AfterAcceptance, Nothing}
use Rattle.ipa_document_commands.specs.Checks.{IsAcceptance, IsChecked}
use Rattle.ipa_command.specs.Verdicts.AfterReading.{read}
use Rattle.ipa_command.specs.Verdicts.AfterWidth.{narrow}
use Rattle.ipa_command.specs.Verdicts.AfterAcceptance.{accepted}
use Rattle.ipa_command.specs.StepLaws.{judgement-weaker, width-before}
use Rattle.ipa_document_commands.proofs.checking.judge.Goals as goal

pub returns-in_err-_accepted : goal.returns-in_err-_accepted
returns-in_err-_accepted g c =
    let s = c.in_ok-document.document.spec in
    let p = err_from_is_err_and c.from_residual-in_err-_accepted.result c.from_residual-in_err-_accepted.ensures.1 in
    rw (p.1, p.2)
    (judgement-weaker is_of_input (AfterWidth s (AfterAcceptance s Nothing)) (IsChecked c.args.bytes.now)
    (λ status text h. read c.in_ok-document.document c.in_ok-document.ensures.document (width-before s IsAcceptance status text h))
    c.in_err-_accepted.field-0.0 c.in_err-_accepted.ensures.stop)

pub returns : goal.returns
returns g c = record {
  says = read c.in_ok-document.document c.in_ok-document.ensures.document
      (narrow c.in_ok-_accepted.ensures.narrow
      (accepted c.in_ok-_accepted.ensures.accepted
      (record { status_is = c.in_ok-text_answer.ensures.status; text_is = c.in_ok-text_answer.ensures.text })));
  may_be = ap is_of_input c.in_ok-text_answer.ensures.status;
}
