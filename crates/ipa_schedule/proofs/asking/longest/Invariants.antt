use Rattle.std.specs.Prelude.{◌≡◌, ℕ, ◌≤◌, max, length, fold, take}
use Rattle.ipa_world.specs.Worlds.{SeatParts}
use Rattle.ipa_schedule.proofs.asking.longest.Given as goal

abbrev pub invariant-loop-session : goal.invariant-loop-session
invariant-loop-session l =
    l.most ≡ fold (λ (n : ℕ) (seat : SeatParts). max n (length seat.requests)) 0 (take l.session l.world.seats)
