-- Whatever the steps of a run are, the world stays lawful.
--
--   room-before       no log had more entries before a step than it has after it
--   run-lawful        a run of a lawful world leads to a lawful one
use Rattle.std.proofs.Common.{◌≡◌, ℕ, ◌≤◌, List, [], ◌∷◌, ◌++◌, length, Some, slice_get, sym, ◌∙◌, subst, arith, length-append, inl, inr}
use Rattle.std.specs.Prelude.{slice_set}
use Rattle.std.proofs.lemmas.List.{length_push}
use Rattle.ipa_history.specs.declared.history.Tx.{Tx}
use Rattle.ipa_history.specs.declared.outcomes.Outcome.{Outcome}
use Rattle.ipa_gate.specs.Logs.{most}
use Rattle.ipa_world.specs.Worlds.{WorldParts}
use Rattle.ipa_world.specs.Steps.{Actor, IsActor, with_made, IsAct, drops, answers, rests, IsGiven, takes, leaves, committed_of, IsStep, IsRun}
use Rattle.ipa_world.specs.Room.{HasRoom}
use Rattle.ipa_world.specs.Lawful.{IsLawful}
use Rattle.ipa_world.specs.LawfulMoves.{put_had}
use Rattle.ipa_world.specs.LawfulLaws.{step-lawful}
use Rattle.ipa_world.specs.declared.steps.Step.{Step}
use Rattle.ipa_world.specs.declared.steps.Step.TheVariants.{Pull, Act, Deliver, Heard}

-- where each log has room after one was replaced by a longer one, each had room before
room_before_longer : (logs : List (List Tx)) (r : ℕ) (log longer : List Tx) → slice_get logs r ≡ Some log →
    length log ≤ length longer →
    ((k : ℕ) (one : List Tx) → slice_get (slice_set logs r longer) k ≡ Some one → length one ≤ most) →
    (k : ℕ) (one : List Tx) → slice_get logs k ≡ Some one → length one ≤ most
room_before_longer logs r log longer at less room k one had = elim (put_had logs r longer k one had) [
  | inl here ↦
      let both : Some log ≡ Some one = sym at ∙ subst (λ (j : ℕ). slice_get logs j ≡ Some one) here.0 had in
      let same : log ≡ one = cc in
      let fits = room k longer here.1 in
      let size : length one ≤ length longer = subst (λ (xs : List Tx). length xs ≤ length longer) same less in
      omega (arith, fits, size)
  | inr there ↦ room k one there
]

-- before a session made some transactions
room_before_made : (w : WorldParts) (i : ℕ) (a : Actor) → IsActor w i a → (made : List Tx) (outcomes : List Outcome) →
    HasRoom (with_made w i a made outcomes) → HasRoom w
room_before_made w i a actor made outcomes room = record {
  each = room_before_longer w.logs a.seat.replica a.log (a.log ++ made) actor.log_at
      (let size = length-append a.log made in omega (arith, size)) room.each;
}

-- before a session acted
room_before_act : (w : WorldParts) (i : ℕ) (after : WorldParts) → IsAct w i after → HasRoom after → HasRoom w
room_before_act w i after (drops d) room =
    room_before_made w i d.actor d.is_actor (d.tx ∷ []) d.actor.seat.outcomes (subst HasRoom d.after_is room)
room_before_act w i after (answers d) room = room_before_made w i d.actor d.is_actor
    (committed_of w.setting.spec i d.actor.cut d.request d.outcome.answer) (d.actor.seat.outcomes ++ d.outcome ∷ [])
    (subst HasRoom d.after_is room)
room_before_act w i after (rests d) room = subst HasRoom d.after_is room

-- before a transaction was given to a replica
room_before_gift : (w : WorldParts) (r : ℕ) (t : Tx) (after : WorldParts) → IsGiven w r t after → HasRoom after →
    HasRoom w
room_before_gift w r t after (takes g) room = record {
  each = room_before_longer w.logs r g.log (g.log ++ t ∷ []) g.log_at
      (let size = length_push g.log t in omega (arith, size)) (subst HasRoom g.after_is room).each;
}
room_before_gift w r t after (leaves g) room = subst HasRoom g.after_is room

-- no log had more entries before a step than it has after it
pub room-before : (w : WorldParts) (step : Step) (after : WorldParts) → IsStep w step after → HasRoom after → HasRoom w
room-before w (Pull session) after taken room = record { each = (subst HasRoom taken.after_is room).each }
room-before w (Act session) after taken room = room_before_act w session after taken room
room-before w (Deliver from to place) after taken room = room_before_gift w to taken.tx after taken.given room
room-before w (Heard from to clock) after taken room = record { each = (subst HasRoom taken.after_is room).each }

-- nor before a run
pub room-before_run : (w : WorldParts) (steps : List Step) (after : WorldParts) → IsRun w steps after → HasRoom after →
    HasRoom w
room-before_run w [] after run room = subst HasRoom run room
room-before_run w (step ∷ steps) after run room =
    room-before w step run.0 run.2 (room-before_run run.0 steps after run.3 room)

-- a run of a lawful world leads to a lawful one, if no log has more entries than it can have
pub run-lawful : (w : WorldParts) (steps : List Step) (after : WorldParts) → IsLawful w → IsRun w steps after →
    HasRoom after → IsLawful after
run-lawful w [] after is run room = subst IsLawful (sym run) is
run-lawful w (step ∷ steps) after is run room = run-lawful run.0 steps after
    (step-lawful w step run.0 is run.1 run.2 (room-before_run run.0 steps after run.3 room)) run.3 room
