use Rattle.ipa_run_commands.proofs.OneRun.{one-run}
use Rattle.ipa_run_commands.proofs.verdict_laws.one_run_verdict.Goals as goal

pub returns : goal.returns
returns c telling number handed bytes text other status end h k =
    one-run c.first_cases_are_one.ensures telling number handed bytes status end text other h k
