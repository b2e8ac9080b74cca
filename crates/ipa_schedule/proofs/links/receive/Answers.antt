use Rattle.std.proofs.Common.{refl}
use Rattle.ipa_schedule.proofs.Later.{later_given}
use Rattle.ipa_schedule.proofs.Receiving.{borne_of, arrival_of, got, passed, blocked}
use Rattle.ipa_schedule.proofs.Spreading.{log_stays}
use Rattle.ipa_schedule.proofs.Ways.{way_later, way_full}
use Rattle.ipa_schedule.proofs.links.receive.Goals as goal

pub receive-requires : goal.receive-requires
receive-requires c =
    arrival_of c.args.world.now c.args.from c.args.to c.args.bytes.now c.requires.link c.requires.sent

pub returns-in-Ok-clause-went : goal.returns-in-Ok-clause-went
returns-in-Ok-clause-went c log t at m framed bytes = (
  passed c.args.world.now c.args.progress.now c.args.to t c.receive.new.self c.requires.going
      (c.in-Ok.ensures.given t (record {
        log = log;
        log_at = at;
        member = m;
        frame = record { is_frame = framed; bytes_are = bytes };
      })) c.law_world_is_lawful.ensures.room,
  c.requires.going,
)

pub returns-in-Ok-clause-log : goal.returns-in-Ok-clause-log
returns-in-Ok-clause-log c log at =
    let f = c.requires.sent log at in
    log_stays c.args.world.now c.args.from c.args.to f.tx c.receive.new.self log c.requires.link.apart at
    (c.in-Ok.ensures.given f.tx (borne_of c.args.world.now c.args.from c.args.bytes.now log at f))

pub returns-in-Ok-clause-way : goal.returns-in-Ok-clause-way
returns-in-Ok-clause-way c =
    let w = c.args.world.now in
    let next = c.receive.new.self in
    let g = got w c.args.from c.args.to c.args.bytes.now next c.requires.link c.requires.sent c.in-Ok.ensures.given in
    way_later w next c.args.progress.now (later_given w c.args.to g.tx next g.given) c.requires.way

pub returns-in-Ok-clause-later : goal.returns-in-Ok-clause-later
returns-in-Ok-clause-later c =
    let w = c.args.world.now in
    let next = c.receive.new.self in
    let g = got w c.args.from c.args.to c.args.bytes.now next c.requires.link c.requires.sent c.in-Ok.ensures.given in
    later_given w c.args.to g.tx next g.given

pub returns-in-Err-Full-clause-went : goal.returns-in-Err-Full-clause-went
returns-in-Err-Full-clause-went c log t at m framed bytes = (
  blocked c.args.world.now c.args.progress.now c.args.to t c.receive.new.self c.requires.going
      (c.in-Err-Full.ensures.full t (record {
        log = log;
        log_at = at;
        member = m;
        frame = record { is_frame = framed; bytes_are = bytes };
      }) (cc)) c.in-Err-Full.ensures.unchanged,
  refl,
)

pub returns-in-Err-Full-clause-way : goal.returns-in-Err-Full-clause-way
returns-in-Err-Full-clause-way c =
    way_full c.args.world.now c.receive.new.self c.args.progress.now c.in-Err-Full.ensures.unchanged c.requires.way
