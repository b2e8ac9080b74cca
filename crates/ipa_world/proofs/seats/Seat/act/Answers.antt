use Rattle.std.proofs.Common.{[], ◌∷◌}
use Rattle.ipa_world.proofs.PlaceLemmas.{longer_by}
use Rattle.ipa_world.proofs.SeatLemmas.{on_ok, on_ok2, dropped_at, full_drop, room_some}
use Rattle.ipa_world.proofs.seats.Seat.act.Goals as goal

pub returns-in-Some-clause-acted : goal.returns-in-Some-clause-acted
returns-in-Some-clause-acted c w is = on_ok2 c.make.result c.make.ensures.seen c.make.ensures.entries
    (λ seen entries. dropped_at w c.args.self.now c.args.log.now is c.cut-cut.result c.cut-cut.ensures c.in-Some.tx
    (c.in-Some.ensures c.cut-cut.result c.cut-cut.ensures) c.make.new.session.seen c.make.new.log.entries seen entries)

pub returns-in-Some-clause-full : goal.returns-in-Some-clause-full
returns-in-Some-clause-full c w is e = full_drop w c.args.self.now c.args.log.now is c.cut-cut.result c.cut-cut.ensures
    c.in-Some.tx (c.in-Some.ensures c.cut-cut.result c.cut-cut.ensures) (c.make.ensures.full e)

pub returns-in-Some-clause-room : goal.returns-in-Some-clause-room
returns-in-Some-clause-room c w is = on_ok c.make.result c.make.ensures.room
    (λ room. room_some w c.args.self.now c.args.log.now is c.cut-cut.result c.cut-cut.ensures room)

pub returns-in-Some-clause-sees : goal.returns-in-Some-clause-sees
returns-in-Some-clause-sees c = longer_by c.make.result c.args.self.now.session.seen c.make.new.session.seen
    (c.in-Some.tx ∷ []) c.make.ensures.seen c.make.ensures.seen_stays

pub returns-in-Some-clause-grows : goal.returns-in-Some-clause-grows
returns-in-Some-clause-grows c = longer_by c.make.result c.args.log.now.entries c.make.new.log.entries
    (c.in-Some.tx ∷ []) c.make.ensures.entries c.make.ensures.log_stays
