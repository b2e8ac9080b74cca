use Rattle.ipa_world.proofs.PlaceLemmas.{read-pull}
use Rattle.std.proofs.Common.{arith}
use Rattle.ipa_world.proofs.SeatLemmas.{on_ok}
use Rattle.ipa_world.proofs.StepLemmas.{seat_at, log_at, on_err, replica_within, log_setting, is_placed, is_open, pulled_here, same_seat, standing_pull}
use Rattle.ipa_world.proofs.world.World.pull.Goals as goal

pub index-log-requires : goal.index-log-requires
index-log-requires c =
    let within = replica_within c.self.inside.setting c.self.inside.logs.items c.self.inside.seats.items
    c.self.inside.senders.items c.args.self.now c.self.view_is c.self.invariant.standing c.args.session c.index_mut-seat.result.now
    c.requires c.index_mut-seat.ensures.value in
    let size = c.self.inside.logs.ok.0 in
    omega (arith, within, size)

pub pull-requires-clause-setting : goal.pull-requires-clause-setting
pull-requires-clause-setting c =
    log_setting c.self.inside.setting c.self.inside.logs.items c.self.inside.seats.items
    c.self.inside.senders.items c.args.self.now c.self.view_is c.self.invariant.standing c.args.session c.index_mut-seat.result.now
    c.requires c.index_mut-seat.ensures.value c.index-log.result.now c.index-log.ensures

pub pull-requires-clause-has : goal.pull-requires-clause-has
pull-requires-clause-has c =
    let open_is = is_open c.self.inside.setting c.self.inside.logs.items c.self.inside.seats.items
    c.self.inside.senders.items c.args.self.now c.self.view_is c.self.invariant.standing c.args.session c.index_mut-seat.result.now
    c.requires c.index_mut-seat.ensures.value c.index-log.result.now c.index-log.ensures c.cut-cut.result c.cut-cut.ensures in
    open_is.has

pub pull-requires-clause-read : goal.pull-requires-clause-read
pull-requires-clause-read c =
    let seat_there = seat_at c.self.inside.setting c.self.inside.logs.items c.self.inside.seats.items
    c.self.inside.senders.items c.args.self.now c.self.view_is c.self.invariant.standing c.args.session
    c.index_mut-seat.result.now c.requires c.index_mut-seat.ensures.value in
    let log_there = log_at c.self.inside.setting c.self.inside.logs.items c.self.inside.seats.items
    c.self.inside.senders.items c.args.self.now c.self.view_is c.self.invariant.standing c.args.session
    c.index_mut-seat.result.now c.requires c.index_mut-seat.ensures.value c.index-log.result.now c.index-log.ensures in
    c.self.invariant.read.each c.args.session c.index_mut-seat.result.now c.index-log.result.now seat_there log_there

pub invariant_of-self : goal.invariant_of-self
invariant_of-self c =
    let there = is_placed c.self.inside.setting c.self.inside.logs.items c.self.inside.seats.items
    c.self.inside.senders.items c.args.self.now c.self.view_is c.self.invariant.standing c.args.session c.index_mut-seat.result.now
    c.requires c.index_mut-seat.ensures.value c.index-log.result.now c.index-log.ensures in
    let log_there = log_at c.self.inside.setting c.self.inside.logs.items c.self.inside.seats.items c.self.inside.senders.items
    c.args.self.now c.self.view_is c.self.invariant.standing c.args.session c.index_mut-seat.result.now c.requires
    c.index_mut-seat.ensures.value c.index-log.result.now c.index-log.ensures in
    record {
      standing = standing_pull c.self.inside.setting c.self.inside.logs.items c.self.inside.seats.items
          c.self.inside.senders.items c.args.self.now c.self.view_is c.self.invariant.standing c.args.session c.index_mut-seat.result.now
          c.requires c.index_mut-seat.ensures.value c.index-log.result.now c.index-log.ensures
          c.pull.new.self c.pull.ensures.setting c.pull.ensures.origin c.pull.result
          (c.pull.ensures.pulled c.args.self.now there) c.pull.ensures.unchanged;
      read = read-pull c.self.inside.logs.items c.self.inside.seats.items c.args.session c.index_mut-seat.result.now
          c.pull.new.self c.index-log.result.now log_there c.pull.ensures.replica c.pull.ensures.read
          c.self.invariant.read;
      covered = c.self.invariant.covered;
    }

pub returns-clause-stepped : goal.returns-clause-stepped
returns-clause-stepped c =
    let there = is_placed c.self.inside.setting c.self.inside.logs.items c.self.inside.seats.items
    c.self.inside.senders.items c.args.self.now c.self.view_is c.self.invariant.standing c.args.session c.index_mut-seat.result.now
    c.requires c.index_mut-seat.ensures.value c.index-log.result.now c.index-log.ensures in
    on_ok c.pull.result (c.pull.ensures.pulled c.args.self.now there)
    (pulled_here c.self.inside.setting c.self.inside.logs.items c.self.inside.seats.items
    c.self.inside.senders.items c.args.self.now c.self.view_is c.self.invariant.standing c.args.session c.index_mut-seat.result.now
    c.requires c.index_mut-seat.ensures.value c.index-log.result.now c.index-log.ensures
    c.pull.new.self c.pull.ensures.setting c.pull.ensures.origin)

pub returns-clause-unchanged : goal.returns-clause-unchanged
returns-clause-unchanged c =
    on_err c.pull.result c.pull.ensures.unchanged
    (same_seat c.self.inside.setting c.self.inside.logs.items c.self.inside.seats.items
    c.self.inside.senders.items c.args.self.now c.self.view_is c.self.invariant.standing c.args.session c.index_mut-seat.result.now
    c.requires c.index_mut-seat.ensures.value c.index-log.result.now c.index-log.ensures
    c.pull.new.self c.pull.ensures.setting c.pull.ensures.origin)
