use Rattle.std.proofs.Common.{Some, [], refl, arith, ◌∙◌, ap, length, ◌≤◌}
use Rattle.ipa_command.specs.Steps.{IsInput}
use Rattle.ipa_command.specs.Verdicts.{longest_document}
use Rattle.ipa_work.specs.Workloads.{workload}
use Rattle.ipa_run_commands.proofs.VerdictLemmas.{judged-answered, judged-run, judged-given}
use Rattle.ipa_run_commands.specs.declared.telling.Telling.TheVariants.{Summary}
use Rattle.ipa_run_commands.proofs.generating.answer_of.Goals as goal

pub returns-clause-answered : goal.returns-clause-answered
returns-clause-answered g c =
    let bytes = c.deref.result.now in
    let same = c.deref.ensures.value ∙ c.in_ok-bytes.ensures.text in
    let short : length bytes ≤ longest_document = omega (arith, ap length c.deref.ensures.value, c.in_ok-bytes.ensures.short) in
    let input : IsInput longest_document (Some (workload c.args.number)) (Some []) bytes = record { all = same; end = refl; within = short } in
    judged-answered Summary c.args.number (Some (workload c.args.number)) (Some []) 0 0 bytes input (omega arith) c.judge.result c.judge.ensures.told c.judge.ensures.stop

pub returns-clause-run : goal.returns-clause-run
returns-clause-run g c = judged-run Summary c.args.number c.deref.result.now c.judge.result c.judge.ensures.told c.judge.ensures.stop

pub returns-clause-fates : goal.returns-clause-fates
returns-clause-fates g c = judged-given _ c.judge.result c.judge.ensures.fates
