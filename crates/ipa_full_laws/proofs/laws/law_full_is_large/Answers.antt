use Rattle.ipa_world.specs.Worlds.{WorldParts, start_of}
use Rattle.ipa_schedule.specs.Going.{begun}
use Rattle.ipa_full_laws.proofs.Fullness.{lawful-room, stuck-large}
use Rattle.ipa_full_laws.proofs.Kept.{run-kept}
use Rattle.ipa_full_laws.proofs.Stuck.{aware-full}
use Rattle.ipa_full_laws.proofs.laws.law_full_is_large.Goals as goal

pub returns : goal.returns
returns c = λ s works replicas number after fates fit setup met.
    let first : WorldParts = start_of s works replicas in
    let lawful = c.law_runs_stay_lawful.ensures.start s works replicas setup in
    let reached = c.law_schedules_are_runs.ensures.full number (begun first) met.run met.full in
    let aware = aware-full number first met.run (lawful-room first lawful) met.full in
    let still = c.law_runs_stay_lawful.ensures.runs first reached.steps met.run.world lawful reached.run aware.room in
    stuck-large s fit works replicas met.run.world (run-kept first reached.steps met.run.world reached.run) still
    (aware.why met.full.full)
