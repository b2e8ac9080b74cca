-- What a run has met where it says that a log was without room.
--
--   IsStuck w          a session is due an entry in a log without room, or an entry is news to one
--   IsAware r          each log of the run's world has room, and where it says that one had none, it is stuck there
--   aware-full         so is a schedule that met a log without room, where the world it began with has room
use Rattle.std.proofs.Common.{◌≡◌, ℕ, true, false, List, [], ◌∷◌, ◌++◌, length, Some, slice_get, sym, ◌∙◌, ap, subst, inl, inr}
use Rattle.std.proofs.lemmas.Bool.{false≢true, both_ways}
use Rattle.ipa_history.specs.Histories.{IsMember}
use Rattle.ipa_history.specs.MemberLaws.{member_first, member_later, member-append_left}
use Rattle.ipa_history.specs.declared.history.Tx.{Tx}
use Rattle.ipa_gate.specs.Agreements.{beyond_of}
use Rattle.ipa_weather.specs.Arrivals.{held_of}
use Rattle.ipa_world.specs.Worlds.{WorldParts, link_of}
use Rattle.ipa_world.specs.Steps.{IsGiven}
use Rattle.ipa_world.specs.Steps.IsGiven.{takes, leaves}
use Rattle.ipa_world.specs.Room.{IsActFull, IsGiveFull, IsFull, HasRoom}
use Rattle.ipa_world.specs.Lawful.{IsEntry}
use Rattle.ipa_world.specs.LawfulMoves.{put_had}
use Rattle.ipa_world.specs.declared.steps.Step.{Step}
use Rattle.ipa_world.specs.declared.steps.Step.TheVariants.{Pull, Act, Deliver, Heard}
use Rattle.ipa_schedule.specs.Going.{RunParts, begun, in_world, filled, IsMoved, IsOffered, IsOfferedAll}
use Rattle.ipa_schedule.specs.Going.IsMoved.{goes, fills, stopped}
use Rattle.ipa_schedule.specs.Going.IsOffered.{passes, blocks, stopped as halted}
use Rattle.ipa_schedule.specs.Turns.{IsDropping, IsSessionTurn, IsLinkTurn, IsTurn, with_fates, carried_all}
use Rattle.ipa_schedule.specs.Turns.IsDropping.{done, drops, stopped as ceased}
use Rattle.ipa_schedule.specs.Schedules.{links_of, IsRunTo, IsExchange, IsCalmed, IsSettled, IsFullWhere, IsFullSchedule}
use Rattle.ipa_schedule.specs.Schedules.IsCalmed.{first, nobody}
use Rattle.ipa_schedule.specs.Schedules.IsFullWhere.{turning, settling}
use Rattle.ipa_schedule.specs.Schedules.IsRunTo.{begins, turns}
use Rattle.ipa_schedule.specs.declared.turns.Turn.{Turn}
use Rattle.ipa_schedule.specs.declared.turns.Turn.TheVariants.{Session, Link}

-- a session is due an entry in a log without room, or an entry is news to one
pub data IsStuck (w : WorldParts) : Type 0 where
  acting : (i : ℕ) → IsActFull w i → IsStuck w
  giving : (r : ℕ) (t : Tx) → IsEntry w t → IsGiveFull w r t → IsStuck w

-- each log has room, and where the run says that one had none, it is stuck there
pub record IsAware (r : RunParts) : Type 0 where
  pub room : HasRoom r.world
  pub why : r.full ≡ true → IsStuck r.world

-- nothing changes
aware_same : (r after : RunParts) → IsAware r → after ≡ r → IsAware after
aware_same r after aware same = subst IsAware (sym same) aware

-- the run goes on to another world
aware_gone : (r : RunParts) (next : WorldParts) (after : RunParts) → r.full ≡ false → HasRoom next →
    after ≡ in_world r next → IsAware after
aware_gone r next after going room same = aware_same (in_world r next) after aware same
  where
    aware : IsAware (in_world r next)
    aware = record { room = room; why = λ full. absurd (both_ways r.full going full) }

-- the run is stuck
aware_filled : (r after : RunParts) → IsAware r → IsStuck r.world → after ≡ filled r → IsAware after
aware_filled r after before stuck same = aware_same (filled r) after aware same
  where
    aware : IsAware (filled r)
    aware = record { room = before.room; why = λ full. stuck }

-- a step that is due an entry in a log without room
step_stuck : (w : WorldParts) (step : Step) → IsFull w step → IsStuck w
step_stuck w (Pull session) full = absurd full
step_stuck w (Act session) full = acting session full
step_stuck w (Deliver from to place) full = giving to full.tx (record {
  replica = from;
  log = full.log;
  log_at = full.log_at;
  member = record { place = place; at = full.at };
}) full.full
step_stuck w (Heard from to clock) full = absurd full

aware_moved : (r : RunParts) (step : Step) (after : RunParts) → IsAware r → IsMoved r step after → IsAware after
aware_moved r step after aware (goes g) = aware_gone r g.next after g.going g.room g.after_is
aware_moved r step after aware (fills f) = aware_filled r after aware (step_stuck r.world step f.full) f.after_is
aware_moved r step after aware (stopped s) = aware_same r after aware s.after_is

-- an entry of the world stays one where a transaction is given
entry_given : (w : WorldParts) (r : ℕ) (t : Tx) (after : WorldParts) → IsGiven w r t after → (u : Tx) → IsEntry w u →
    IsEntry after u
entry_given w r t after (takes g) u has = subst (λ (v : WorldParts). IsEntry v u) (sym g.after_is)
    (elim (put_had w.logs r (g.log ++ t ∷ []) has.replica has.log has.log_at) [
      | inl here ↦
          let both : Some has.log ≡ Some g.log = sym has.log_at ∙ (ap (slice_get w.logs) here.0 ∙ g.log_at) in
          let same : has.log ≡ g.log = cc in
          record {
            replica = has.replica;
            log = g.log ++ t ∷ [];
            log_at = here.1;
            member = member-append_left g.log (t ∷ []) u
                (subst (λ (h : List Tx). IsMember h u) same has.member);
          }
      | inr there ↦ record { replica = has.replica; log = has.log; log_at = there; member = has.member }
    ])
entry_given w r t after (leaves g) u has = subst (λ (v : WorldParts). IsEntry v u) (sym g.after_is) has

entry_offered : (r : RunParts) (to : ℕ) (t : Tx) (after : RunParts) → IsOffered r to t after → (u : Tx) →
    IsEntry r.world u → IsEntry after.world u
entry_offered r to t after (passes p) u has =
    subst (λ (s : RunParts). IsEntry s.world u) (sym p.after_is) (entry_given r.world to t p.next p.given u has)
entry_offered r to t after (blocks b) u has = subst (λ (s : RunParts). IsEntry s.world u) (sym b.after_is) has
entry_offered r to t after (halted s) u has = subst (λ (v : RunParts). IsEntry v.world u) (sym s.after_is) has

-- transactions are given
aware_offered : (r : RunParts) (to : ℕ) (t : Tx) (after : RunParts) → IsAware r → IsEntry r.world t →
    IsOffered r to t after → IsAware after
aware_offered r to t after aware entry (passes p) = aware_gone r p.next after p.going p.room p.after_is
aware_offered r to t after aware entry (blocks b) = aware_filled r after aware (giving to t entry b.full) b.after_is
aware_offered r to t after aware entry (halted s) = aware_same r after aware s.after_is

aware_offered_all : (r : RunParts) (to : ℕ) (ts : List Tx) (after : RunParts) → IsAware r →
    ((t : Tx) → IsMember ts t → IsEntry r.world t) → IsOfferedAll r to ts after → IsAware after
aware_offered_all r to [] after aware entries same = aware_same r after aware same
aware_offered_all r to (t ∷ ts) after aware entries (next, offered, rest) =
    aware_offered_all next to ts after (aware_offered r to t next aware (entries t (member_first t ts)) offered)
    (λ u m. entry_offered r to t next offered u (entries u (member_later t ts u m))) rest

-- the parts of a turn
aware_dropping : (r : RunParts) (i : ℕ) (after : RunParts) → IsAware r → IsDropping r i after → IsAware after
aware_dropping r i after aware (done _ _ _ d) = aware_same r after aware d.after_is
aware_dropping r i after aware (drops _ _ next _ going due moved rest) =
    aware_dropping next i after (aware_moved r (Act i) next aware moved) rest
aware_dropping r i after aware (ceased _ _ _ s) = aware_same r after aware s.after_is

aware_session : (r : RunParts) (i : ℕ) (after : RunParts) → IsAware r → IsSessionTurn r i after → IsAware after
aware_session r i after aware turn = aware_moved turn.calmed (Act i) after (aware_dropping turn.pulled i turn.calmed
    (aware_moved r (Pull i) turn.pulled aware turn.pull) turn.drops) turn.act

aware_link : (r : RunParts) (from to : ℕ) (after : RunParts) → IsAware r → IsLinkTurn r from to after → IsAware after
aware_link r from to after aware turn =
    let sent : RunParts = with_fates r (link_of from to)
    (held_of turn.fates (carried_all (beyond_of turn.log turn.known))) (turn.given ++ turn.fates) in
    let before : IsAware sent = record { room = aware.room; why = aware.why } in
    aware_moved turn.offered (Heard from to turn.hears.clock) after
    (aware_offered_all sent to turn.arrived turn.offered before
    (λ t m. record { replica = from; log = turn.log; log_at = turn.link.log_at; member = turn.entries t m })
    turn.offers)
    turn.hears.heard

aware_turn : (r : RunParts) (turn : Turn) (after : RunParts) → IsAware r → IsTurn r turn after → IsAware after
aware_turn r (Session i) after aware turn = aware_session r i after aware turn
aware_turn r (Link from to) after aware turn = aware_link r from to after aware turn

-- the turns of a schedule
aware_run : (number : ℕ) (start : RunParts) (k : ℕ) (r : RunParts) → IsAware start → IsRunTo number start k r →
    IsAware r
aware_run number start _ r aware (begins _ same) = aware_same start r aware same
aware_run number start _ r aware (turns k turn before _ run going on at taken) =
    aware_turn before turn r (aware_run number start k before aware run) taken

-- its settling
aware_exchange : (r : RunParts) (links : List Turn) (after : RunParts) → IsAware r → IsExchange r links after →
    IsAware after
aware_exchange r [] after aware same = aware_same r after aware same
aware_exchange r (Session i ∷ links) after aware none = absurd none
aware_exchange r (Link from to ∷ links) after aware (next, over, rest) =
    aware_exchange next links after (aware_offered_all r to over.log next aware
    (λ t m. record { replica = from; log = over.log; log_at = over.log_at; member = m }) over.offered) rest

aware_calmed : (r after : RunParts) → IsAware r → IsCalmed r after → IsAware after
aware_calmed r after aware (first some c) =
    aware_dropping c.pulled 0 after (aware_moved r (Pull 0) c.pulled aware c.pull) c.drops
aware_calmed r after aware (nobody none same) = aware_same r after aware same

aware_settled : (r after : RunParts) → IsAware r → IsSettled r after → IsAware after
aware_settled r after aware s =
    aware_exchange s.calmed (links_of (length s.calmed.world.logs)) after (aware_calmed s.exchanged s.calmed
    (aware_exchange r (links_of (length r.world.logs)) s.exchanged aware s.first) s.calms) s.second

aware_where : (number : ℕ) (start r : RunParts) → IsAware start → IsFullWhere number start r → IsAware r
aware_where number start r aware (turning t) = aware_run number start t.turns r aware t.run
aware_where number start r aware (settling s) = aware_settled s.played r
    (aware_run number start s.is_played.turns s.played aware s.is_played.run) s.settled

-- a schedule that met a log without room, where the world it began with has room
pub aware-full : (number : ℕ) (w : WorldParts) (r : RunParts) → HasRoom w → IsFullSchedule number (begun w) r → IsAware r
aware-full number w r room full = aware_where number (begun w) r start full.met
  where
    start : IsAware (begun w)
    start = record { room = room; why = λ wrong. absurd (false≢true wrong) }
