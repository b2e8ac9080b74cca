use Rattle.std.proofs.Common.{◌≡◌, List, map, ap, ◌∙◌}
use Rattle.ipa_reader.specs.declared.sessions.SessionWork.{SessionWork}
use Rattle.ipa_world.specs.Worlds.{seat_of, start_of}
use Rattle.ipa_world.specs.Seats.{seat_parts}
use Rattle.ipa_world.specs.LawfulLaws.{start-lawful}
use Rattle.ipa_world.proofs.StandingLemmas.{world_with, standing_with}
use Rattle.ipa_world.proofs.PlaceLemmas.{read-start, covered-start}
use Rattle.ipa_world.proofs.StartLemmas.{room_none}
use Rattle.ipa_world.proofs.world.World.new.Goals as goal

pub invariant_of-result : goal.invariant_of-result
invariant_of-result c =
    let fits = c.args.setup.now.fits in
    let logs = c.in_ok-logs.ensures.entries in
    let seats : map seat_parts c.in_ok-seats.seats.items ≡ map seat_of c.args.setup.now.sessions =
    c.in_ok-seats.ensures.parts ∙ ap (λ (works : List SessionWork). map seat_of works) c.as_slice.ensures in
    let senders = c.in_ok-senders.ensures in
    record {
      standing = standing_with c.args.setting c.in_ok-logs.logs.items c.in_ok-seats.seats.items c.in_ok-senders.senders.items
          (start_of c.args.setting c.args.setup.now.sessions c.args.setup.now.replicas)
          c.in_ok-logs.ensures.logged c.in_ok-seats.ensures.seated
          (λ k. world_with c.args.setting (logs k) (seats k) (senders k))
          (start-lawful c.args.setting c.args.setup.now.sessions c.args.setup.now.replicas c.accepted-accepted.ensures.setting
          c.requires.sessions fits.some_replica fits.replica_count fits.session_replicas c.requires.fit)
          (record { each = room_none c.args.setup.now.replicas });
      read = read-start c.in_ok-logs.logs.items c.in_ok-seats.seats.items c.in_ok-seats.ensures.unread;
      covered = covered-start c.in_ok-logs.logs.items c.in_ok-senders.senders.items;
    }
