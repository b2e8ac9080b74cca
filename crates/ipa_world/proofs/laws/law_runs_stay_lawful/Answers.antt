use Rattle.ipa_world.specs.LawfulLaws.{start-lawful}
use Rattle.ipa_world.specs.RunLaws.{run-lawful}
use Rattle.ipa_world.proofs.laws.law_runs_stay_lawful.Goals as goal

pub returns-clause-start : goal.returns-clause-start
returns-clause-start c = λ s works n setup. start-lawful s works n setup.setting setup.sessions setup.some setup.few
    setup.replicas setup.fits

pub returns-clause-runs : goal.returns-clause-runs
returns-clause-runs c = run-lawful
