use Rattle.std.proofs.Common.{◌≡◌, map, take}
use Rattle.ipa_world.specs.Worlds.{seat_of}
use Rattle.ipa_world.specs.Seats.{seat_parts}
use Rattle.ipa_world.specs.Standing.{AreSeated}
use Rattle.ipa_world.specs.Places.{AreUnread}
use Rattle.ipa_world.proofs.world.new_seats.Given as goal

abbrev pub invariant-loop-work : goal.invariant-loop-work
invariant-loop-work l = record {
  parts : map seat_parts l.seats.items ≡ map seat_of (take l.work-index l.sessions);
  seated : AreSeated l.setting l.seats.items;
  unread : AreUnread l.seats.items;
}
