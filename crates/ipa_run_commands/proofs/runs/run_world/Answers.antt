use Rattle.ipa_run_commands.proofs.RunLemmas.{ended-of, outcomes-of}
use Rattle.ipa_run_commands.proofs.runs.run_world.Goals as goal

pub returns-in-Ok-clause-run : goal.returns-in-Ok-clause-run
returns-in-Ok-clause-run g c =
    ended-of c.args.document.now c.args.number c.args.world.now c.run_schedule.new.world c.in-Ok.end c.requires.first c.run_schedule.ensures.later c.in-Ok.ensures.ended c.in-Ok.ensures.lawful

pub returns-in-Ok-clause-outcomes : goal.returns-in-Ok-clause-outcomes
returns-in-Ok-clause-outcomes g c =
    let both = ended-of c.args.document.now c.args.number c.args.world.now c.run_schedule.new.world c.in-Ok.end c.requires.first c.run_schedule.ensures.later c.in-Ok.ensures.ended c.in-Ok.ensures.lawful in
    outcomes-of c.args.document.now c.in-Ok.end both.1
