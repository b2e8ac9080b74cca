use Rattle.ipa_world.proofs.PlaceLemmas.{longer_given, read-log, covered-log}
use Rattle.ipa_world.proofs.SeatLemmas.{on_ok}
use Rattle.ipa_world.proofs.StepLemmas.{on_err}
use Rattle.ipa_world.proofs.GiveLemmas.{log_at, givable_here, full_here, same_log, given_here, room_here, standing_give}
use Rattle.ipa_world.proofs.ReceiveLemmas.{entry_borne}
use Rattle.ipa_world.proofs.world.World.receive.Goals as goal

pub bring-brought-requires : goal.bring-brought-requires
bring-brought-requires c = record {
  tx = c.requires.tx;
  frame = c.requires.borne.frame;
  givable = givable_here c.self.inside.setting c.self.inside.logs.items c.self.inside.seats.items c.self.inside.senders.items
      c.args.self.now c.self.view_is c.self.invariant.standing c.requires.tx
      (entry_borne c.args.self.now c.args.from c.requires.tx c.args.bytes.now c.requires.borne) c.args.to c.requires.link.receives
      c.index_mut-log.result.now c.index_mut-log.ensures.value;
}

pub invariant_of-self : goal.invariant_of-self
invariant_of-self c =
    let log_there = log_at c.self.inside.setting c.self.inside.logs.items c.self.inside.seats.items
    c.self.inside.senders.items c.args.self.now c.self.view_is c.self.invariant.standing c.requires.tx
    (entry_borne c.args.self.now c.args.from c.requires.tx c.args.bytes.now c.requires.borne) c.args.to c.requires.link.receives
    c.index_mut-log.result.now c.index_mut-log.ensures.value in
    let grown = longer_given c.bring-brought.result c.index_mut-log.result.now.entries c.requires.tx c.bring-brought.new.log.entries
    (c.bring-brought.ensures.given c.requires.tx c.requires.borne.frame
    (givable_here c.self.inside.setting c.self.inside.logs.items c.self.inside.seats.items c.self.inside.senders.items
    c.args.self.now c.self.view_is c.self.invariant.standing c.requires.tx
    (entry_borne c.args.self.now c.args.from c.requires.tx c.args.bytes.now c.requires.borne) c.args.to c.requires.link.receives
    c.index_mut-log.result.now c.index_mut-log.ensures.value)) c.bring-brought.ensures.unchanged in
    record {
      standing = standing_give c.self.inside.setting c.self.inside.logs.items c.self.inside.seats.items c.self.inside.senders.items
          c.args.self.now c.self.view_is c.self.invariant.standing c.requires.tx
          (entry_borne c.args.self.now c.args.from c.requires.tx c.args.bytes.now c.requires.borne) c.args.to c.requires.link.receives
          c.index_mut-log.result.now c.index_mut-log.ensures.value
          c.bring-brought.new.log c.bring-brought.ensures.setting
          c.entries-entries.ensures.log.few c.bring-brought.result
          (c.bring-brought.ensures.given c.requires.tx c.requires.borne.frame
          (givable_here c.self.inside.setting c.self.inside.logs.items c.self.inside.seats.items c.self.inside.senders.items
          c.args.self.now c.self.view_is c.self.invariant.standing c.requires.tx
          (entry_borne c.args.self.now c.args.from c.requires.tx c.args.bytes.now c.requires.borne) c.args.to c.requires.link.receives
          c.index_mut-log.result.now c.index_mut-log.ensures.value))
          c.bring-brought.ensures.unchanged;
      read = read-log c.self.inside.logs.items c.args.to c.index_mut-log.result.now c.bring-brought.new.log log_there grown
          c.self.inside.seats.items c.self.invariant.read;
      covered = covered-log c.self.inside.logs.items c.args.to c.index_mut-log.result.now c.bring-brought.new.log log_there grown
          c.self.inside.senders.items c.self.inside.covered c.self.invariant.covered;
    }

pub returns-clause-given : goal.returns-clause-given
returns-clause-given c t is = on_ok c.bring-brought.result
    (c.bring-brought.ensures.given t is.frame
    (givable_here c.self.inside.setting c.self.inside.logs.items c.self.inside.seats.items c.self.inside.senders.items
    c.args.self.now c.self.view_is c.self.invariant.standing t
    (entry_borne c.args.self.now c.args.from t c.args.bytes.now is) c.args.to c.requires.link.receives
    c.index_mut-log.result.now c.index_mut-log.ensures.value))
    (given_here c.self.inside.setting c.self.inside.logs.items c.self.inside.seats.items c.self.inside.senders.items
    c.args.self.now c.self.view_is c.self.invariant.standing t
    (entry_borne c.args.self.now c.args.from t c.args.bytes.now is) c.args.to c.requires.link.receives
    c.index_mut-log.result.now c.index_mut-log.ensures.value
    c.bring-brought.new.log c.bring-brought.ensures.setting
    c.entries-entries.ensures.log.few)

pub returns-clause-full : goal.returns-clause-full
returns-clause-full c t is e =
    full_here c.self.inside.setting c.self.inside.logs.items c.self.inside.seats.items c.self.inside.senders.items
    c.args.self.now c.self.view_is c.self.invariant.standing t
    (entry_borne c.args.self.now c.args.from t c.args.bytes.now is) c.args.to c.requires.link.receives
    c.index_mut-log.result.now c.index_mut-log.ensures.value
    (c.bring-brought.ensures.full t is.frame
    (givable_here c.self.inside.setting c.self.inside.logs.items c.self.inside.seats.items c.self.inside.senders.items
    c.args.self.now c.self.view_is c.self.invariant.standing t
    (entry_borne c.args.self.now c.args.from t c.args.bytes.now is) c.args.to c.requires.link.receives
    c.index_mut-log.result.now c.index_mut-log.ensures.value) e)

pub returns-clause-room : goal.returns-clause-room
returns-clause-room c t is = on_ok c.bring-brought.result
    (c.bring-brought.ensures.given t is.frame
    (givable_here c.self.inside.setting c.self.inside.logs.items c.self.inside.seats.items c.self.inside.senders.items
    c.args.self.now c.self.view_is c.self.invariant.standing t
    (entry_borne c.args.self.now c.args.from t c.args.bytes.now is) c.args.to c.requires.link.receives
    c.index_mut-log.result.now c.index_mut-log.ensures.value))
    (room_here c.self.inside.setting c.self.inside.logs.items c.self.inside.seats.items c.self.inside.senders.items
    c.args.self.now c.self.view_is c.self.invariant.standing t
    (entry_borne c.args.self.now c.args.from t c.args.bytes.now is) c.args.to c.requires.link.receives
    c.index_mut-log.result.now c.index_mut-log.ensures.value
    c.bring-brought.new.log c.bring-brought.ensures.setting
    c.entries-entries.ensures.log.few)

pub returns-clause-unchanged : goal.returns-clause-unchanged
returns-clause-unchanged c = on_err c.bring-brought.result c.bring-brought.ensures.unchanged
    (same_log c.self.inside.setting c.self.inside.logs.items c.self.inside.seats.items c.self.inside.senders.items
    c.args.self.now c.self.view_is c.self.invariant.standing c.requires.tx
    (entry_borne c.args.self.now c.args.from c.requires.tx c.args.bytes.now c.requires.borne) c.args.to c.requires.link.receives
    c.index_mut-log.result.now c.index_mut-log.ensures.value
    c.bring-brought.new.log c.bring-brought.ensures.setting
    c.entries-entries.ensures.log.few)
