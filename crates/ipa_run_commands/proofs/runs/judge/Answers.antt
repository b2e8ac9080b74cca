use Rattle.std.proofs.lemmas.Result.{err_from_is_err_and}
use Rattle.ipa_command.specs.Statuses.{is_of_input}
use Rattle.ipa_command.specs.StepLaws.{judgement-weaker}
use Rattle.ipa_command.specs.Verdicts.{AfterWidth, AfterAcceptance, Nothing}
use Rattle.ipa_command.specs.Verdicts.AfterReading.{read}
use Rattle.ipa_run_commands.specs.RunVerdicts.{IsUnfit}
use Rattle.ipa_run_commands.proofs.runs.judge.Goals as goal

pub returns-in_err-accepted-clause-stop : goal.returns-in_err-accepted-clause-stop
returns-in_err-accepted-clause-stop g c =
    let s = c.in_ok-document.document.spec in
    let p = err_from_is_err_and c.from_residual-in_err-accepted.result c.from_residual-in_err-accepted.ensures.1 in
    rw (p.1, p.2)
    (judgement-weaker is_of_input (AfterWidth s (AfterAcceptance s Nothing)) (IsUnfit c.args.bytes.now)
    (λ status text h. read c.in_ok-document.document c.in_ok-document.ensures.document h)
    c.in_err-accepted.field-0.0 c.in_err-accepted.ensures.stop)

pub returns-in_err-answer-clause-stop : goal.returns-in_err-answer-clause-stop
returns-in_err-answer-clause-stop g c =
    let p = err_from_is_err_and c.from_residual-in_err-answer.result c.from_residual-in_err-answer.ensures.1 in
    rw (p.1, p.2) tt

pub returns-clause-told : goal.returns-clause-told
returns-clause-told g c = record {
  document = c.in_ok-document.document;
  within = c.requires.within;
  reads = c.in_ok-document.ensures.document;
  narrow = c.in_ok-accepted.ensures.narrow;
  accepted = c.in_ok-accepted.ensures.accepted;
  run = c.in_ok-ran.ensures.run;
  status_is = c.in_ok-answer.ensures.status;
  text_is = c.in_ok-answer.ensures.text;
}
