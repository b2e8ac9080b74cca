-- How many requests the sessions have left after a turn.
--
--   ahead_itself, ahead_along     nothing was done, and one part after the other
--   ahead_moved .. fewer_turn     the parts of a turn
use Rattle.std.proofs.Common.{◌≡◌, ℕ, zero, suc, ◌+◌, ◌-◌, ◌<◌, ◌≤◌, ◌⊎◌, inl, inr, Bool, true, false, List, [], ◌∷◌, ◌++◌, length, map, Some, None, slice_get, refl, sym, ◌∙◌, ap, subst, arith}
use Rattle.std.specs.Prelude.{slice_set}
use Rattle.std.specs.List.{range_with_len}
use Rattle.std.proofs.lemmas.List.{length-set, length_push}
use Rattle.std.proofs.lemmas.Option.{slice_get_within}
use Rattle.ipa_logic.specs.VariableLaws.{slice_get_none}
use Rattle.ipa_history.specs.PushLaws.{at_place}
use Rattle.ipa_history.specs.declared.history.Tx.{Tx}
use Rattle.ipa_world.specs.Worlds.{SeatParts, WorldParts, seat_with, with_seat}
use Rattle.ipa_world.specs.Steps.{IsAct, IsGiven, IsStep, committed_of}
use Rattle.ipa_world.specs.Steps.IsAct.{drops, answers, rests}
use Rattle.ipa_world.specs.Steps.IsGiven.{takes, leaves}
use Rattle.ipa_world.specs.declared.steps.Step.{Step}
use Rattle.ipa_world.specs.declared.steps.Step.TheVariants.{Pull, Act, Deliver, Heard}
use Rattle.ipa_schedule.specs.Going.{RunParts, IsMoved, IsOffered, IsOfferedAll}
use Rattle.ipa_schedule.specs.Going.IsMoved.{goes, fills, stopped}
use Rattle.ipa_schedule.specs.Going.IsOffered.{passes, blocks, stopped as halted}
use Rattle.ipa_schedule.specs.Turns.{IsCalmIn, IsDropping, IsSessionTurn, IsLinkTurn, IsTurn}
use Rattle.ipa_schedule.specs.Turns.IsDropping.{done, drops as falls, stopped as ceased}
use Rattle.ipa_schedule.specs.Schedules.{below, links_of, round_of}
use Rattle.ipa_schedule.specs.Remaining.{left_of, IsAhead, IsFewer}
use Rattle.ipa_schedule.specs.declared.turns.Turn.{Turn}
use Rattle.ipa_schedule.specs.declared.turns.Turn.TheVariants.{Session, Link}
use Rattle.ipa_schedule.proofs.Parts.{both_full}
use Rattle.ipa_schedule.proofs.Places.{set_cases, set_here}
use Rattle.ipa_schedule.proofs.Ways.{not_calm}

-- one session stands in one place
one_seat : (xs : List SeatParts) (j : ℕ) (x y : SeatParts) → slice_get xs j ≡ Some x → slice_get xs j ≡ Some y → x ≡ y
one_seat xs j x y one two = let both : Some x ≡ Some y = sym one ∙ two in cc

-- the same sessions
ahead_same : (w after : WorldParts) → after.seats ≡ w.seats → IsAhead w after
ahead_same w after same = record {
  sessions = ap (λ (xs : List SeatParts). length xs) same;
  each = λ j seat since at since_at.
      let one = one_seat w.seats j seat since at (ap (λ (xs : List SeatParts). slice_get xs j) (sym same) ∙ since_at) in
      let left = ap left_of one in
      omega (arith, left);
}

ahead_along : (u v w : WorldParts) → IsAhead u v → IsAhead v w → IsAhead u w
ahead_along u v w one two = record {
  sessions = two.sessions ∙ one.sessions;
  each = λ j seat since at since_at.
      let inside = slice_get_within u.seats j seat at in
      let same = one.sessions in
      let mid = at_place v.seats j (omega (arith, inside, same)) in
      let first = one.each j seat mid.0 at mid.1 in
      let second = two.each j mid.0 since mid.1 since_at in
      omega (arith, first, second);
}

-- one session with no more requests left
ahead_put : (w : WorldParts) (i : ℕ) (seat put : SeatParts) (after : WorldParts) → slice_get w.seats i ≡ Some seat →
    left_of put ≤ left_of seat → after.seats ≡ slice_set w.seats i put → IsAhead w after
ahead_put w i seat put after at less same = record {
  sessions = ap (λ (xs : List SeatParts). length xs) same ∙ length-set w.seats i put;
  each = λ j one since one_at since_at.
      elim (set_cases w.seats i put j since (ap (λ (xs : List SeatParts). slice_get xs j) (sym same) ∙ since_at)) [
        | inl here ↦
            let is_seat = one_seat w.seats i seat one at (ap (slice_get w.seats) (sym here.0) ∙ one_at) in
            let left = ap left_of is_seat in
            let left_since = ap left_of here.1 in
            omega (arith, less, left, left_since)
        | inr there ↦ let left = ap left_of (one_seat w.seats j one since one_at there) in omega (arith, left)
      ];
}

-- and that session
put_seat : (w : WorldParts) (i : ℕ) (seat put : SeatParts) (after : WorldParts) → slice_get w.seats i ≡ Some seat →
    after.seats ≡ slice_set w.seats i put → (since : SeatParts) → slice_get after.seats i ≡ Some since → put ≡ since
put_seat w i seat put after at same since since_at = one_seat (slice_set w.seats i put) i put since
    (set_here w.seats i seat put at) (ap (λ (xs : List SeatParts). slice_get xs i) (sym same) ∙ since_at)

-- an outcome more
one_more : (seat : SeatParts) (seen : List Tx) (o : _) →
    left_of (seat_with seat seen (seat.outcomes ++ o ∷ [])) ≡ left_of seat - 1
one_more seat seen o = let size = length_push seat.outcomes o in omega (arith, size)

ahead_act : (w : WorldParts) (i : ℕ) (after : WorldParts) → IsAct w i after → IsAhead w after
ahead_act w i after (drops d) = ahead_put w i d.actor.seat
    (seat_with d.actor.seat (d.actor.seat.seen ++ d.tx ∷ []) d.actor.seat.outcomes) after d.is_actor.seat_at (omega arith)
    (ap (λ (v : WorldParts). v.seats) d.after_is)
ahead_act w i after (answers d) =
    let made : List Tx = committed_of w.setting.spec i d.actor.cut d.request d.outcome.answer in
    let one = one_more d.actor.seat (d.actor.seat.seen ++ made) d.outcome in
    ahead_put w i d.actor.seat (seat_with d.actor.seat (d.actor.seat.seen ++ made) (d.actor.seat.outcomes ++ d.outcome ∷ []))
    after d.is_actor.seat_at (omega (arith, one)) (ap (λ (v : WorldParts). v.seats) d.after_is)
ahead_act w i after (rests d) = ahead_same w after (ap (λ (v : WorldParts). v.seats) d.after_is)

ahead_given : (w : WorldParts) (r : ℕ) (t : Tx) (after : WorldParts) → IsGiven w r t after → IsAhead w after
ahead_given w r t after (takes g) = ahead_same w after (ap (λ (v : WorldParts). v.seats) g.after_is)
ahead_given w r t after (leaves g) = ahead_same w after (ap (λ (v : WorldParts). v.seats) g.after_is)

ahead_step : (w : WorldParts) (step : Step) (after : WorldParts) → IsStep w step after → IsAhead w after
ahead_step w (Pull i) after p = ahead_put w i p.actor.seat _ after p.is_actor.seat_at (omega arith)
    (ap (λ (v : WorldParts). v.seats) p.after_is)
ahead_step w (Act i) after act = ahead_act w i after act
ahead_step w (Deliver from to place) after d = ahead_given w to d.tx after d.given
ahead_step w (Heard from to clock) after h = ahead_same w after (ap (λ (v : WorldParts). v.seats) h.after_is)

-- a run that goes on with another world
ahead_gone : (r after : RunParts) (next : WorldParts) → IsAhead r.world next →
    after ≡ record { world = next; held = r.held; fates = r.fates; full = r.full } → IsAhead r.world after.world
ahead_gone r after next ahead same = subst (λ (s : RunParts). IsAhead r.world s.world) (sym same) ahead

ahead_moved : (r : RunParts) (step : Step) (after : RunParts) → IsMoved r step after → IsAhead r.world after.world
ahead_moved r step after (goes g) = ahead_gone r after g.next (ahead_step r.world step g.next g.step_is) g.after_is
ahead_moved r step after (fills f) =
    ahead_same r.world after.world (ap (λ (s : RunParts). s.world.seats) f.after_is)
ahead_moved r step after (stopped s) =
    ahead_same r.world after.world (ap (λ (q : RunParts). q.world.seats) s.after_is)

ahead_offered : (r : RunParts) (to : ℕ) (t : Tx) (after : RunParts) → IsOffered r to t after → IsAhead r.world after.world
ahead_offered r to t after (passes p) = ahead_gone r after p.next (ahead_given r.world to t p.next p.given) p.after_is
ahead_offered r to t after (blocks b) =
    ahead_same r.world after.world (ap (λ (s : RunParts). s.world.seats) b.after_is)
ahead_offered r to t after (halted s) =
    ahead_same r.world after.world (ap (λ (q : RunParts). q.world.seats) s.after_is)

ahead_offered_all : (r : RunParts) (to : ℕ) (ts : List Tx) (after : RunParts) → IsOfferedAll r to ts after →
    IsAhead r.world after.world
ahead_offered_all r to [] after same = ahead_same r.world after.world (ap (λ (s : RunParts). s.world.seats) same)
ahead_offered_all r to (t ∷ ts) after (next, offered, rest) = ahead_along r.world next.world after.world
    (ahead_offered r to t next offered) (ahead_offered_all next to ts after rest)

ahead_dropping : (r : RunParts) (i : ℕ) (after : RunParts) → IsDropping r i after → IsAhead r.world after.world
ahead_dropping r i after (done _ _ _ d) =
    ahead_same r.world after.world (ap (λ (s : RunParts). s.world.seats) d.after_is)
ahead_dropping r i after (falls _ _ next _ going due moved rest) = ahead_along r.world next.world after.world
    (ahead_moved r (Act i) next moved) (ahead_dropping next i after rest)
ahead_dropping r i after (ceased _ _ _ s) =
    ahead_same r.world after.world (ap (λ (q : RunParts). q.world.seats) s.after_is)

-- after its drops a session stands where none is due
dropped_calm : (r : RunParts) (i : ℕ) (after : RunParts) → IsDropping r i after → after.full ≡ false →
    IsCalmIn after.world i
dropped_calm r i after (done _ _ _ d) on = subst (λ (s : RunParts). IsCalmIn s.world i) (sym d.after_is) d.calm
dropped_calm r i after (falls _ _ next _ going due moved rest) on = dropped_calm next i after rest on
dropped_calm r i after (ceased _ _ _ s) on =
    absurd (both_full after.full (ap (λ (q : RunParts). q.full) s.after_is ∙ s.full) on)

-- a session that acts where no drop is due has one request less left
fewer_act : (w : WorldParts) (i : ℕ) (after : WorldParts) → IsCalmIn w i → IsAct w i after → (seat since : SeatParts) →
    slice_get w.seats i ≡ Some seat → slice_get after.seats i ≡ Some since → left_of since ≤ left_of seat - 1
fewer_act w i after calm (drops d) seat since at since_at =
    absurd (not_calm w i calm.actor d.actor calm.is_actor d.is_actor calm.calm d.tx d.due)
fewer_act w i after calm (answers d) seat since at since_at =
    let made : List Tx = committed_of w.setting.spec i d.actor.cut d.request d.outcome.answer in
    let one = one_more d.actor.seat (d.actor.seat.seen ++ made) d.outcome in
    let left_since = ap left_of (put_seat w i d.actor.seat
    (seat_with d.actor.seat (d.actor.seat.seen ++ made) (d.actor.seat.outcomes ++ d.outcome ∷ [])) after
    d.is_actor.seat_at (ap (λ (v : WorldParts). v.seats) d.after_is) since since_at) in
    let left = ap left_of (one_seat w.seats i seat d.actor.seat at d.is_actor.seat_at) in
    omega (arith, one, left_since, left)
fewer_act w i after calm (rests d) seat since at since_at =
    let none = slice_get_none d.actor.seat.requests (length d.actor.seat.outcomes) d.done in
    let left = ap left_of (one_seat w.seats i d.actor.seat since d.is_actor.seat_at
    (ap (λ (v : WorldParts). slice_get v.seats i) (sym d.after_is) ∙ since_at)) in
    omega (arith, none, left)

fewer_moved : (r : RunParts) (i : ℕ) (after : RunParts) → IsCalmIn r.world i → IsMoved r (Act i) after →
    after.full ≡ false → (seat since : SeatParts) → slice_get r.world.seats i ≡ Some seat →
    slice_get after.world.seats i ≡ Some since → left_of since ≤ left_of seat - 1
fewer_moved r i after calm (goes g) on seat since at since_at = fewer_act r.world i g.next calm g.step_is seat since at
    (ap (λ (s : RunParts). slice_get s.world.seats i) (sym g.after_is) ∙ since_at)
fewer_moved r i after calm (fills f) on seat since at since_at =
    absurd (both_full after.full (ap (λ (s : RunParts). s.full) f.after_is) on)
fewer_moved r i after calm (stopped s) on seat since at since_at =
    absurd (both_full after.full (ap (λ (q : RunParts). q.full) s.after_is ∙ s.full) on)

-- where a run has room, it had room before
was_room : (r : RunParts) (step : Step) (after : RunParts) → IsMoved r step after → after.full ≡ false → r.full ≡ false
was_room r step after (goes g) on = g.going
was_room r step after (fills f) on = absurd (both_full after.full (ap (λ (s : RunParts). s.full) f.after_is) on)
was_room r step after (stopped s) on = ap (λ (q : RunParts). q.full) (sym s.after_is) ∙ on

-- the turn of a session
fewer_session : (r : RunParts) (i : ℕ) (after : RunParts) → IsSessionTurn r i after → after.full ≡ false →
    IsFewer r.world i after.world
fewer_session r i after turn on =
    let calmed = was_room turn.calmed (Act i) after turn.act on in
    let calm = dropped_calm turn.pulled i turn.calmed turn.drops calmed in
    let before = ahead_along r.world turn.pulled.world turn.calmed.world (ahead_moved r (Pull i) turn.pulled turn.pull)
    (ahead_dropping turn.pulled i turn.calmed turn.drops) in
    record {
      ahead = ahead_along r.world turn.calmed.world after.world before (ahead_moved turn.calmed (Act i) after turn.act);
      one = λ seat since at since_at.
          let inside = slice_get_within r.world.seats i seat at in
          let same = before.sessions in
          let mid = at_place turn.calmed.world.seats i (omega (arith, inside, same)) in
          let first = before.each i seat mid.0 at mid.1 in
          let second = fewer_moved turn.calmed i after calm turn.act on mid.0 since mid.1 since_at in
          omega (arith, first, second);
    }

-- the turn of a link
ahead_link : (r : RunParts) (from to : ℕ) (after : RunParts) → IsLinkTurn r from to after → IsAhead r.world after.world
ahead_link r from to after turn = ahead_along r.world turn.offered.world after.world
    (ahead_offered_all _ to turn.arrived turn.offered turn.offers)
    (ahead_moved turn.offered (Heard from to turn.hears.clock) after turn.hears.heard)

-- the first turns of a round are those of the sessions
item_front : {X : Type 0} (xs ys : List X) (k : ℕ) → k < length xs → slice_get (xs ++ ys) k ≡ slice_get xs k
item_front [] ys k low = absurd (omega (arith, low))
item_front (x ∷ xs) ys zero low = refl
item_front (x ∷ xs) ys (suc k) low = item_front xs ys k (omega (arith, low))

session_from : (a n k : ℕ) → k < n → slice_get (map Session (range_with_len a n)) k ≡ Some (Session (a + k))
session_from a zero k low = absurd (omega (arith, low))
session_from a (suc n) zero low = let same : a ≡ a + 0 = omega arith in ap (λ (i : ℕ). Some (Session i)) same
session_from a (suc n) (suc k) low =
    let same : a + 1 + k ≡ a + suc k = omega arith in
    session_from (a + 1) n k (omega (arith, low)) ∙ ap (λ (i : ℕ). Some (Session i)) same

sessions_in : (a n : ℕ) → length (map Session (range_with_len a n)) ≡ n
sessions_in a zero = refl
sessions_in a (suc n) = ap suc (sessions_in (a + 1) n)

session_turn_at : (w : WorldParts) (k : ℕ) → k < length w.seats → slice_get (round_of w) k ≡ Some (Session k)
session_turn_at w k low =
    let size = sessions_in 0 (length w.seats) in
    item_front (map Session (below (length w.seats))) (links_of (length w.logs)) k (omega (arith, low, size))
    ∙ session_from 0 (length w.seats) k low ∙ ap (λ (i : ℕ). Some (Session i)) (omega arith)

-- a round has no fewer turns than there are sessions
pub sessions_few : (w : WorldParts) → length w.seats ≤ length (round_of w)
sessions_few w = few (length w.seats) refl
  where
    few : (n : ℕ) → length w.seats ≡ n → length w.seats ≤ length (round_of w)
    few zero none = omega (arith, none)
    few (suc k) some =
        let inside = slice_get_within (round_of w) k (Session k) (session_turn_at w k (omega (arith, some))) in
        omega (arith, some, inside)

-- a turn of a round, at its place
pub fewer_turn : (r : RunParts) (place : ℕ) (turn : Turn) (after : RunParts) →
    slice_get (round_of r.world) place ≡ Some turn → IsTurn r turn after → after.full ≡ false →
    IsFewer r.world place after.world
fewer_turn r place (Session i) after at taken on =
    let f = fewer_session r i after taken on in
    record {
      ahead = f.ahead;
      one = λ seat since seat_at since_at.
          let inside = slice_get_within r.world.seats place seat seat_at in
          let both : Some (Session i) ≡ Some (Session place) = sym at ∙ session_turn_at r.world place inside in
          let same : i ≡ place = cc in
          f.one seat since (ap (slice_get r.world.seats) same ∙ seat_at) (ap (slice_get after.world.seats) same ∙ since_at);
    }
fewer_turn r place (Link from to) after at taken on = record {
  ahead = ahead_link r from to after taken;
  one = λ seat since seat_at since_at.
      let inside = slice_get_within r.world.seats place seat seat_at in
      absurd (let both : Some (Link from to) ≡ Some (Session place) = sym at ∙ session_turn_at r.world place inside in cc);
}

-- any turn
pub ahead_turn : (r : RunParts) (turn : Turn) (after : RunParts) → IsTurn r turn after → after.full ≡ false →
    IsAhead r.world after.world
ahead_turn r (Session i) after taken on = (fewer_session r i after taken on).ahead
ahead_turn r (Link from to) after taken on = ahead_link r from to after taken
