use Rattle.std.proofs.Common.{◌≡◌, map, take}
use Rattle.ipa_world.proofs.ending.outcomes_of_all.Given as goal

abbrev pub invariant-loop-seat : goal.invariant-loop-seat
invariant-loop-seat l = l.all ≡ map (λ seat. seat.outcomes) (take l.seat-index l.seats)
