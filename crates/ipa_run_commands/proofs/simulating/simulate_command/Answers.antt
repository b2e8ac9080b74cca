use Rattle.ipa_run_commands.proofs.VerdictLemmas.{answers-run}
use Rattle.ipa_run_commands.specs.declared.telling.Telling.TheVariants.{Journal}
use Rattle.ipa_run_commands.proofs.simulating.simulate_command.Goals as goal

pub returns-clause-run : goal.returns-clause-run
returns-clause-run g c =
    answers-run Journal c.args.number _ _ _ c.answer_of-ended.result c.conclude.result c.answer_of-ended.ensures.answered c.answer_of-ended.ensures.run c.answer_of-ended.ensures.fates
    c.conclude.ensures.written c.conclude.ensures.handed c.conclude.ensures.count
