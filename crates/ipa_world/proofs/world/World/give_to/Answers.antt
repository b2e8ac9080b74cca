use Rattle.ipa_world.proofs.PlaceLemmas.{longer_given, read-log, covered-log}
use Rattle.ipa_world.proofs.SeatLemmas.{on_ok}
use Rattle.ipa_world.proofs.StepLemmas.{on_err}
use Rattle.ipa_world.proofs.GiveLemmas.{log_at, givable_here, full_here, same_log, given_here, room_here, standing_give}
use Rattle.ipa_world.proofs.world.World.give_to.Goals as goal

pub give-given-requires : goal.give-given-requires
give-given-requires c =
    givable_here c.self.inside.setting c.self.inside.logs.items c.self.inside.seats.items c.self.inside.senders.items
    c.args.self.now c.self.view_is c.self.invariant.standing c.args.tx c.requires.entry c.args.to c.requires.receives
    c.index_mut-log.result.now c.index_mut-log.ensures.value

pub invariant_of-self : goal.invariant_of-self
invariant_of-self c =
    let log_there = log_at c.self.inside.setting c.self.inside.logs.items c.self.inside.seats.items
    c.self.inside.senders.items c.args.self.now c.self.view_is c.self.invariant.standing c.args.tx
    c.requires.entry c.args.to c.requires.receives
    c.index_mut-log.result.now c.index_mut-log.ensures.value in
    let grown = longer_given c.give-given.result c.index_mut-log.result.now.entries c.args.tx c.give-given.new.log.entries
    c.give-given.ensures.given c.give-given.ensures.unchanged in
    record {
      standing = standing_give c.self.inside.setting c.self.inside.logs.items c.self.inside.seats.items c.self.inside.senders.items
          c.args.self.now c.self.view_is c.self.invariant.standing c.args.tx c.requires.entry c.args.to c.requires.receives
          c.index_mut-log.result.now c.index_mut-log.ensures.value c.give-given.new.log c.give-given.ensures.setting
          c.entries-entries.ensures.log.few c.give-given.result c.give-given.ensures.given c.give-given.ensures.unchanged;
      read = read-log c.self.inside.logs.items c.args.to c.index_mut-log.result.now c.give-given.new.log log_there grown
          c.self.inside.seats.items c.self.invariant.read;
      covered = covered-log c.self.inside.logs.items c.args.to c.index_mut-log.result.now c.give-given.new.log log_there grown
          c.self.inside.senders.items c.self.inside.covered c.self.invariant.covered;
    }

pub returns-clause-given : goal.returns-clause-given
returns-clause-given c = on_ok c.give-given.result c.give-given.ensures.given
    (given_here c.self.inside.setting c.self.inside.logs.items c.self.inside.seats.items c.self.inside.senders.items
    c.args.self.now c.self.view_is c.self.invariant.standing c.args.tx c.requires.entry c.args.to c.requires.receives
    c.index_mut-log.result.now c.index_mut-log.ensures.value c.give-given.new.log c.give-given.ensures.setting
    c.entries-entries.ensures.log.few)

pub returns-clause-full : goal.returns-clause-full
returns-clause-full c e =
    full_here c.self.inside.setting c.self.inside.logs.items c.self.inside.seats.items c.self.inside.senders.items
    c.args.self.now c.self.view_is c.self.invariant.standing c.args.tx c.requires.entry c.args.to c.requires.receives
    c.index_mut-log.result.now c.index_mut-log.ensures.value (c.give-given.ensures.full e)

pub returns-clause-room : goal.returns-clause-room
returns-clause-room c = on_ok c.give-given.result c.give-given.ensures.given
    (room_here c.self.inside.setting c.self.inside.logs.items c.self.inside.seats.items c.self.inside.senders.items
    c.args.self.now c.self.view_is c.self.invariant.standing c.args.tx c.requires.entry c.args.to c.requires.receives
    c.index_mut-log.result.now c.index_mut-log.ensures.value c.give-given.new.log c.give-given.ensures.setting
    c.entries-entries.ensures.log.few)

pub returns-clause-unchanged : goal.returns-clause-unchanged
returns-clause-unchanged c = on_err c.give-given.result c.give-given.ensures.unchanged
    (same_log c.self.inside.setting c.self.inside.logs.items c.self.inside.seats.items c.self.inside.senders.items
    c.args.self.now c.self.view_is c.self.invariant.standing c.args.tx c.requires.entry c.args.to c.requires.receives
    c.index_mut-log.result.now c.index_mut-log.ensures.value c.give-given.new.log c.give-given.ensures.setting
    c.entries-entries.ensures.log.few)
