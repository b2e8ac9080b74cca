use Rattle.std.proofs.Common.{refl, ap}
use Rattle.ipa_schedule.specs.Going.{RunParts}
use Rattle.ipa_schedule.specs.Running.{run_of}
use Rattle.ipa_schedule.proofs.Closing.{forecast_begun, full_of, unless_full, scheduled_end, scheduled_lawful, scheduled_full}
use Rattle.ipa_schedule.proofs.running.run_schedule.Goals as goal

pub play_out-requires-clause-way : goal.play_out-requires-clause-way
play_out-requires-clause-way g c = c.in_ok-progress.ensures.way c.args.world.now

pub play_out-requires-clause-going : goal.play_out-requires-clause-going
play_out-requires-clause-going g c =
    ap (λ (r : RunParts). r.full) (c.in_ok-progress.ensures.begun c.args.world.now)

pub returns-in_ok-end_of-in-Ok-clause-ended : goal.returns-in_ok-end_of-in-Ok-clause-ended
returns-in_ok-end_of-in-Ok-clause-ended g c =
    scheduled_end c.args.number c.args.world.now c.in_ok-progress.progress c.in_ok-plan.plan.number
    c.play_out.new.world c.play_out.new.progress c.in_ok-plan.ensures.number
    (c.in_ok-progress.ensures.begun c.args.world.now) c.in_ok-end_of-in-Ok.field-0 c.in-Ok.ensures.played.0
    (c.in_ok-end_of-in-Ok.ensures.end (run_of c.play_out.new.world c.play_out.new.progress) refl refl)

pub returns-in_ok-end_of-in-Ok-clause-lawful : goal.returns-in_ok-end_of-in-Ok-clause-lawful
returns-in_ok-end_of-in-Ok-clause-lawful g c =
    scheduled_lawful c.args.number c.args.world.now c.in_ok-progress.progress c.in_ok-plan.plan.number
    c.play_out.new.world c.play_out.new.progress c.in_ok-plan.ensures.number
    (c.in_ok-progress.ensures.begun c.args.world.now) c.in_ok-end_of-in-Ok.field-0 c.law_world_is_lawful.ensures.lawful
    c.in-Ok.ensures.played.0
    (c.in_ok-end_of-in-Ok.ensures.end (run_of c.play_out.new.world c.play_out.new.progress) refl refl)

pub returns-in_ok-end_of-in-Ok-clause-fates : goal.returns-in_ok-end_of-in-Ok-clause-fates
returns-in_ok-end_of-in-Ok-clause-fates g c =
    forecast_begun _ _ c.args.weathers.now.items c.play_out.new.weathers.items c.args.world.now c.args.world.now
    c.in_ok-progress.progress c.play_out.new.progress.fates c.in_ok-end_of-in-Ok.field-0.fates c.requires.weathers
    (c.in_ok-progress.ensures.begun c.args.world.now) c.in_ok-end_of-in-Ok.ensures.fates c.in-Ok.ensures.gone

pub returns-in-Err-Full-clause-full : goal.returns-in-Err-Full-clause-full
returns-in-Err-Full-clause-full g c =
    let met = full_of c.in-Err-Full.field-0 c.play_out.new.progress.full _ _ c.in-Err-Full.field-0-is
    c.in-Err-Full.ensures.played in
    scheduled_full c.args.number c.args.world.now c.in_ok-progress.progress c.in_ok-plan.plan.number
    c.play_out.new.world c.play_out.new.progress c.in_ok-plan.ensures.number
    (c.in_ok-progress.ensures.begun c.args.world.now) c.play_out.new.progress.fates met.0 met.1 refl

pub returns-in-Err-Full-clause-full_fates : goal.returns-in-Err-Full-clause-full_fates
returns-in-Err-Full-clause-full_fates g c =
    forecast_begun _ _ c.args.weathers.now.items c.play_out.new.weathers.items c.args.world.now c.args.world.now
    c.in_ok-progress.progress c.play_out.new.progress.fates c.play_out.new.progress.fates c.requires.weathers
    (c.in_ok-progress.ensures.begun c.args.world.now) refl
    (unless_full c.in-Err-Full.field-0 _ c.in-Err-Full.field-0-is c.in-Err-Full.ensures.gone)
