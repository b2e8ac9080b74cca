use Rattle.ipa_world.proofs.PlaceLemmas.{read-act, covered-log}
use Rattle.std.proofs.Common.{ℕ, subst, arith}
use Rattle.ipa_world.specs.Room.{IsActFull}
use Rattle.ipa_world.proofs.SeatLemmas.{on_ok}
use Rattle.ipa_world.proofs.StepLemmas.{seat_at, log_at, on_err2, replica_within, log_setting, is_placed, is_open, fit, seated_origin, acted_here, same_both, standing_act}
use Rattle.ipa_world.proofs.world.World.act.Goals as goal

pub index_mut-log-requires : goal.index_mut-log-requires
index_mut-log-requires c =
    let within = replica_within c.self.inside.setting c.self.inside.logs.items c.self.inside.seats.items
    c.self.inside.senders.items c.args.self.now c.self.view_is c.self.invariant.standing c.args.session c.index_mut-seat.result.now
    c.requires c.index_mut-seat.ensures.value in
    let size = c.self.inside.logs.ok.0 in
    omega (arith, within, size)

pub act-acted-requires-clause-setting : goal.act-acted-requires-clause-setting
act-acted-requires-clause-setting c =
    log_setting c.self.inside.setting c.self.inside.logs.items c.self.inside.seats.items
    c.self.inside.senders.items c.args.self.now c.self.view_is c.self.invariant.standing c.args.session c.index_mut-seat.result.now
    c.requires c.index_mut-seat.ensures.value c.index_mut-log.result.now c.index_mut-log.ensures.value

pub act-acted-requires-clause-open : goal.act-acted-requires-clause-open
act-acted-requires-clause-open c =
    is_open c.self.inside.setting c.self.inside.logs.items c.self.inside.seats.items
    c.self.inside.senders.items c.args.self.now c.self.view_is c.self.invariant.standing c.args.session c.index_mut-seat.result.now
    c.requires c.index_mut-seat.ensures.value c.index_mut-log.result.now c.index_mut-log.ensures.value
    c.cut-cut.result c.cut-cut.ensures

pub act-acted-requires-clause-fit : goal.act-acted-requires-clause-fit
act-acted-requires-clause-fit c =
    fit c.self.inside.setting c.self.inside.logs.items c.self.inside.seats.items
    c.self.inside.senders.items c.args.self.now c.self.view_is c.self.invariant.standing c.args.session c.index_mut-seat.result.now
    c.requires c.index_mut-seat.ensures.value

pub invariant_of-self : goal.invariant_of-self
invariant_of-self c =
    let there = is_placed c.self.inside.setting c.self.inside.logs.items c.self.inside.seats.items
    c.self.inside.senders.items c.args.self.now c.self.view_is c.self.invariant.standing c.args.session c.index_mut-seat.result.now
    c.requires c.index_mut-seat.ensures.value c.index_mut-log.result.now c.index_mut-log.ensures.value in
    let seat_there = seat_at c.self.inside.setting c.self.inside.logs.items c.self.inside.seats.items c.self.inside.senders.items
    c.args.self.now c.self.view_is c.self.invariant.standing c.args.session c.index_mut-seat.result.now c.requires
    c.index_mut-seat.ensures.value in
    let log_there = log_at c.self.inside.setting c.self.inside.logs.items c.self.inside.seats.items c.self.inside.senders.items
    c.args.self.now c.self.view_is c.self.invariant.standing c.args.session c.index_mut-seat.result.now c.requires
    c.index_mut-seat.ensures.value c.index_mut-log.result.now c.index_mut-log.ensures.value in
    record {
      standing = standing_act c.self.inside.setting c.self.inside.logs.items c.self.inside.seats.items
          c.self.inside.senders.items c.args.self.now c.self.view_is c.self.invariant.standing c.args.session c.index_mut-seat.result.now
          c.requires c.index_mut-seat.ensures.value c.index_mut-log.result.now c.index_mut-log.ensures.value
          c.act-acted.new.self c.act-acted.ensures.setting c.act-acted.ensures.origin c.act-acted.new.log
          c.act-acted.ensures.log_setting c.entries-entries.ensures.log.few c.act-acted.result c.act-acted.ensures.replica
          (c.act-acted.ensures.acted c.args.self.now there) c.act-acted.ensures.seat_stays c.act-acted.ensures.log_stays;
      read = read-act c.self.inside.logs.items c.self.inside.seats.items c.args.session c.index_mut-seat.result.now
          c.act-acted.new.self c.index_mut-log.result.now c.act-acted.new.log seat_there log_there
          c.act-acted.ensures.replica c.act-acted.ensures.read c.act-acted.ensures.sees c.act-acted.ensures.grows
          c.self.invariant.read;
      covered = covered-log c.self.inside.logs.items c.index_mut-seat.result.now.replica c.index_mut-log.result.now
          c.act-acted.new.log log_there c.act-acted.ensures.grows c.self.inside.senders.items c.self.inside.covered
          c.self.invariant.covered;
    }

pub returns-clause-stepped : goal.returns-clause-stepped
returns-clause-stepped c =
    let there = is_placed c.self.inside.setting c.self.inside.logs.items c.self.inside.seats.items
    c.self.inside.senders.items c.args.self.now c.self.view_is c.self.invariant.standing c.args.session c.index_mut-seat.result.now
    c.requires c.index_mut-seat.ensures.value c.index_mut-log.result.now c.index_mut-log.ensures.value in
    on_ok c.act-acted.result (c.act-acted.ensures.acted c.args.self.now there)
    (acted_here c.self.inside.setting c.self.inside.logs.items c.self.inside.seats.items
    c.self.inside.senders.items c.args.self.now c.self.view_is c.self.invariant.standing c.args.session c.index_mut-seat.result.now
    c.requires c.index_mut-seat.ensures.value c.index_mut-log.result.now c.index_mut-log.ensures.value
    c.act-acted.new.self c.act-acted.ensures.setting c.act-acted.ensures.origin c.act-acted.new.log
    c.act-acted.ensures.log_setting c.entries-entries.ensures.log.few c.act-acted.ensures.replica)

pub returns-clause-full : goal.returns-clause-full
returns-clause-full c e =
    let there = is_placed c.self.inside.setting c.self.inside.logs.items c.self.inside.seats.items
    c.self.inside.senders.items c.args.self.now c.self.view_is c.self.invariant.standing c.args.session c.index_mut-seat.result.now
    c.requires c.index_mut-seat.ensures.value c.index_mut-log.result.now c.index_mut-log.ensures.value in
    subst (λ (k : ℕ). IsActFull c.args.self.now k)
    (seated_origin c.self.inside.setting c.self.inside.logs.items c.self.inside.seats.items
    c.self.inside.senders.items c.args.self.now c.self.view_is c.self.invariant.standing c.args.session c.index_mut-seat.result.now
    c.requires c.index_mut-seat.ensures.value)
    (c.act-acted.ensures.full c.args.self.now there e)

pub returns-clause-room : goal.returns-clause-room
returns-clause-room c =
    let there = is_placed c.self.inside.setting c.self.inside.logs.items c.self.inside.seats.items
    c.self.inside.senders.items c.args.self.now c.self.view_is c.self.invariant.standing c.args.session c.index_mut-seat.result.now
    c.requires c.index_mut-seat.ensures.value c.index_mut-log.result.now c.index_mut-log.ensures.value in
    on_ok c.act-acted.result (c.act-acted.ensures.room c.args.self.now there)
    (subst (λ (k : ℕ). IsActFull c.args.self.now k → ⊥)
    (seated_origin c.self.inside.setting c.self.inside.logs.items c.self.inside.seats.items
    c.self.inside.senders.items c.args.self.now c.self.view_is c.self.invariant.standing c.args.session c.index_mut-seat.result.now
    c.requires c.index_mut-seat.ensures.value))

pub returns-clause-unchanged : goal.returns-clause-unchanged
returns-clause-unchanged c =
    on_err2 c.act-acted.result c.act-acted.ensures.seat_stays c.act-acted.ensures.log_stays
    (same_both c.self.inside.setting c.self.inside.logs.items c.self.inside.seats.items
    c.self.inside.senders.items c.args.self.now c.self.view_is c.self.invariant.standing c.args.session c.index_mut-seat.result.now
    c.requires c.index_mut-seat.ensures.value c.index_mut-log.result.now c.index_mut-log.ensures.value
    c.act-acted.new.self c.act-acted.ensures.setting c.act-acted.ensures.origin c.act-acted.new.log
    c.act-acted.ensures.log_setting c.entries-entries.ensures.log.few)
