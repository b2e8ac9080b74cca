use Rattle.ipa_schedule.proofs.Later.{later_step}
use Rattle.ipa_schedule.proofs.Ways.{way_later, way_full}
use Rattle.ipa_schedule.proofs.progress.take_step.Goals as goal

pub returns-in-Ok-clause-way : goal.returns-in-Ok-clause-way
returns-in-Ok-clause-way c = way_later c.args.world.now c.step.new.self c.args.progress.now
    (later_step c.args.world.now c.args.step.now c.step.new.self c.in-Ok.ensures.stepped) c.requires.way

pub returns-in-Ok-clause-later : goal.returns-in-Ok-clause-later
returns-in-Ok-clause-later c = later_step c.args.world.now c.args.step.now c.step.new.self c.in-Ok.ensures.stepped

pub returns-in-Err-Full-clause-way : goal.returns-in-Err-Full-clause-way
returns-in-Err-Full-clause-way c =
    way_full c.args.world.now c.step.new.self c.args.progress.now c.in-Err-Full.ensures.unchanged c.requires.way
