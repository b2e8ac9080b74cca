-- What a run keeps on its way, and what its sessions are due.
--
--   way_later            what is held are frames of entries still
--   due_test             whether a drop is due where a session stands
--   entries_at w i       the entries of the log at which a session acts
--   drop_grows           each drop leaves less room there
--   goes_on              where a part has ended early, so has the whole
use Rattle.std.proofs.Common.{◌≡◌, ℕ, ◌+◌, ◌-◌, ◌<◌, ◌≤◌, Bool, true, false, List, [], ◌∷◌, ◌++◌, length, Option, Some, None, Ok, Err, Result, MatchBool, slice_get, get_or, refl, sym, ◌∙◌, ap, subst, arith}
use Rattle.std.specs.Option.{MatchOption, option_map, unwrap_or, is_some}
use Rattle.std.specs.Result.{IsErrAnd}
use Rattle.std.proofs.lemmas.List.{length_push}
use Rattle.std.proofs.lemmas.Option.{slice_get_within, slice_get-get_or}
use Rattle.ipa_clock.specs.declared.cut.Cut.{Cut}
use Rattle.ipa_history.specs.Histories.{IsMember}
use Rattle.ipa_history.specs.Clocks.{IsClockOf, one_clock}
use Rattle.ipa_history.specs.PushLaws.{at_place}
use Rattle.ipa_history.specs.declared.history.Tx.{Tx}
use Rattle.ipa_gate.specs.Logs.{most}
use Rattle.ipa_gate.specs.Settings.{SettingParts}
use Rattle.ipa_session.specs.Sessions.{SessionParts, IsCalmAt, IsDueNext}
use Rattle.ipa_world.specs.Worlds.{SeatParts, WorldParts, session_at, seat_with}
use Rattle.ipa_world.specs.Steps.{Actor, IsActor, IsAct, IsDropped, with_made}
use Rattle.ipa_world.specs.Steps.IsAct.{drops, answers, rests}
use Rattle.ipa_world.specs.Lawful.{IsLawful}
use Rattle.ipa_world.specs.OneVerdict.{calm_not_due}
use Rattle.ipa_world.specs.Room.{HasRoom}
use Rattle.ipa_world.specs.declared.steps.Step.TheVariants.{Act}
use Rattle.ipa_world.specs.declared.steps.WorldFault.{WorldFault}
use Rattle.ipa_world.specs.declared.steps.WorldFault.TheVariants.{Full, NoMemory}
use Rattle.ipa_schedule.specs.Going.{RunParts, IsMoved}
use Rattle.ipa_schedule.specs.Going.IsMoved.{goes, fills, stopped}
use Rattle.ipa_schedule.specs.Turns.{IsDueIn, IsCalmIn}
use Rattle.ipa_schedule.specs.Running.{HasEntry, IsLater, IsFrameOf, IsUnderWay, Fails, Goes, run_of}
use Rattle.ipa_schedule.specs.declared.progress.Progress.{Progress}
use Rattle.ipa_schedule.proofs.Places.{set_here}
use Rattle.ipa_schedule.proofs.Parts.{both_full}

-- a frame of a log that has grown
frame_later : (w after : WorldParts) → IsLater w after → (r : ℕ) (log more : List Tx) → slice_get w.logs r ≡ Some log →
    slice_get after.logs r ≡ Some more → (frame : List ℕ) → IsFrameOf log frame → IsFrameOf more frame
frame_later w after later r log more log_at more_at frame is =
    let has = later.entries r is.tx (record { log = log; log_at = log_at; member = is.member }) in
    let both : Some has.log ≡ Some more = sym has.log_at ∙ more_at in
    let one : has.log ≡ more = cc in
    record { tx = is.tx; member = subst (λ (xs : List Tx). IsMember xs is.tx) one has.member; is = is.is; framed = is.framed }

-- what is held are frames of entries still
pub way_later : (w after : WorldParts) (p : Progress) → IsLater w after → IsUnderWay w p → IsUnderWay after p
way_later w after p later way = record {
  links = way.links;
  given = way.given;
  held = λ from to more frames frame few more_at held_at m.
      let inside = slice_get_within after.logs from more more_at in
      let same = later.replicas in
      let log_at = slice_get-get_or w.logs from [] (omega (arith, inside, same)) in
      frame_later w after later from (get_or w.logs from []) more log_at more_at frame
      (way.held from to (get_or w.logs from []) frames frame few log_at held_at m);
}

-- also where a log was without room
pub way_full : (w after : WorldParts) (p : Progress) → after ≡ w → IsUnderWay w p →
    IsUnderWay after (record { alloc = p.alloc; held = p.held; fates = p.fates; full = true })
way_full w after p same way = record {
  links = way.links;
  given = way.given;
  held = λ from to log frames frame few log_at held_at m. way.held from to log frames frame few
      (ap (λ (v : WorldParts). slice_get v.logs from) (sym same) ∙ log_at) held_at m;
}

-- a session of a world
pub record IsSessionOf (w : WorldParts) (i : ℕ) (p : SessionParts) : Type 0 where
  pub seat : SeatParts
  pub seat_at : slice_get w.seats i ≡ Some seat
  pub seen : p.seen ≡ seat.seen
  pub setting : p.setting ≡ w.setting
  pub origin : p.origin ≡ i

pub session_of : (w : WorldParts) (i : ℕ) (p : SessionParts) → i < length w.seats →
    option_map (λ (seat : SeatParts). seat.seen) (slice_get w.seats i) ≡ Some p.seen → p.setting ≡ w.setting →
    p.origin ≡ i → IsSessionOf w i p
session_of w i p there seen setting origin =
    let one = at_place w.seats i there in
    let both : Some p.seen ≡ Some one.0.seen =
    sym seen ∙ ap (option_map (λ (seat : SeatParts). seat.seen)) one.1 in
    record { seat = one.0; seat_at = one.1; seen = cc; setting = setting; origin = origin }

-- the room that a session has counts for nothing
due_moved : (s : SettingParts) (o : ℕ) (seen : List Tx) (n : ℕ) (c : Cut) (t : Tx) →
    IsDueNext (record { setting = s; origin = o; seen = seen; spare = n }) c t →
    IsDueNext (record { setting = s; origin = o; seen = seen; spare = 0 }) c t
due_moved s o seen n c t is = record {
  lawful = record {
    next = record { dot = is.lawful.next.dot; cut = is.lawful.next.cut; shaped = is.lawful.next.shaped };
    legal = is.lawful.legal;
  };
  number = is.number;
  action = is.action;
  bound = is.bound;
  declared = is.declared;
  due = is.due;
}

calm_moved : (s : SettingParts) (o : ℕ) (seen : List Tx) (n : ℕ) (c : Cut) →
    IsCalmAt (record { setting = s; origin = o; seen = seen; spare = n }) c →
    IsCalmAt (record { setting = s; origin = o; seen = seen; spare = 0 }) c
calm_moved s o seen n c is = record { state = is.state; at = is.at; within = is.within; keeps = is.keeps }

-- what holds of a session holds of the world's
of_world : (P : SessionParts → Type 0) (w : WorldParts) (i : ℕ) (p : SessionParts) (of : IsSessionOf w i p) →
    P (record { setting = p.setting; origin = p.origin; seen = p.seen; spare = 0 }) → P (session_at w.setting i of.seat)
of_world P w i p of is =
    subst (λ (s : SettingParts). P (record { setting = s; origin = i; seen = of.seat.seen; spare = 0 })) of.setting
    (subst (λ (o : ℕ). P (record { setting = p.setting; origin = o; seen = of.seat.seen; spare = 0 })) of.origin
    (subst (λ (h : List Tx). P (record { setting = p.setting; origin = p.origin; seen = h; spare = 0 })) of.seen is))

-- the session, its log and its cut
actor_of : (w : WorldParts) → IsLawful w → (i : ℕ) (p : SessionParts) → IsSessionOf w i p → Cut → Actor
actor_of w lawful i p of cut = record { seat = of.seat; log = (lawful.seen i of.seat of.seat_at).log; cut = cut }

is_actor : (w : WorldParts) (lawful : IsLawful w) (i : ℕ) (p : SessionParts) (of : IsSessionOf w i p) (cut : Cut) →
    IsClockOf p.seen cut → IsActor w i (actor_of w lawful i p of cut)
unfolding actor_of
is_actor w lawful i p of cut clock = record {
  seat_at = of.seat_at;
  log_at = (lawful.seen i of.seat of.seat_at).log_at;
  clock = subst (λ (h : List Tx). IsClockOf h cut) of.seen clock;
}

-- whether a drop is due where a session stands
pub due_test : (w : WorldParts) → IsLawful w → (i : ℕ) (p : SessionParts) → IsSessionOf w i p → (cut : Cut) →
    IsClockOf p.seen cut → (o : Option Tx) → MatchOption o (IsCalmAt p cut) (IsDueNext p cut) →
    MatchBool (is_some o) (IsDueIn w i) (IsCalmIn w i)
unfolding actor_of
due_test w lawful i p of cut clock None calm = record {
  actor = actor_of w lawful i p of cut;
  is_actor = is_actor w lawful i p of cut clock;
  calm = of_world (λ (q : SessionParts). IsCalmAt q cut) w i p of
      (calm_moved p.setting p.origin p.seen p.spare cut calm);
}
due_test w lawful i p of cut clock (Some t) due = record {
  actor = actor_of w lawful i p of cut;
  is_actor = is_actor w lawful i p of cut clock;
  tx = t;
  due = of_world (λ (q : SessionParts). IsDueNext q cut t) w i p of
      (due_moved p.setting p.origin p.seen p.spare cut t due);
}

-- the entries of the log at which a session acts
abbrev pub entries_at : WorldParts → ℕ → List Tx
entries_at w i = unwrap_or (slice_get w.logs
    (unwrap_or (option_map (λ (seat : SeatParts). seat.replica) (slice_get w.seats i)) 0)) []

entries_of_actor : (w : WorldParts) (i : ℕ) (seat : SeatParts) (log : List Tx) → slice_get w.seats i ≡ Some seat →
    slice_get w.logs seat.replica ≡ Some log → entries_at w i ≡ log
entries_of_actor w i seat log seat_at log_at =
    ap (λ (o : Option SeatParts). unwrap_or (slice_get w.logs
    (unwrap_or (option_map (λ (one : SeatParts). one.replica) o) 0)) []) seat_at
    ∙ ap (λ (o : Option (List Tx)). unwrap_or o []) log_at

-- a session stands in one way
pub not_calm : (w : WorldParts) (i : ℕ) (a b : Actor) → IsActor w i a → IsActor w i b →
    IsCalmAt (session_at w.setting i a.seat) a.cut → (t : Tx) → IsDueNext (session_at w.setting i b.seat) b.cut t → ⊥
not_calm w i a b one two calm t due =
    let both : Some b.seat ≡ Some a.seat = sym two.seat_at ∙ one.seat_at in
    let seat : b.seat ≡ a.seat = cc in
    let clock = subst (λ (s : SeatParts). IsClockOf s.seen b.cut) seat two.clock in
    let cut : b.cut ≡ a.cut = one_clock a.seat.seen b.cut a.cut clock one.clock in
    calm_not_due (session_at w.setting i a.seat) a.cut t calm
    (subst (λ (c : Cut). IsDueNext (session_at w.setting i a.seat) c t) cut
    (subst (λ (s : SeatParts). IsDueNext (session_at w.setting i s) b.cut t) seat due))

-- the entries after a drop
dropped_entries : (w : WorldParts) (i : ℕ) (after : WorldParts) (d : IsDropped w i after) →
    entries_at after i ≡ d.actor.log ++ d.tx ∷ []
dropped_entries w i after d =
    ap (λ (v : WorldParts). entries_at v i) d.after_is
    ∙ entries_of_actor (with_made w i d.actor (d.tx ∷ []) d.actor.seat.outcomes) i
    (seat_with d.actor.seat (d.actor.seat.seen ++ d.tx ∷ []) d.actor.seat.outcomes) (d.actor.log ++ d.tx ∷ [])
    (set_here w.seats i d.actor.seat (seat_with d.actor.seat (d.actor.seat.seen ++ d.tx ∷ []) d.actor.seat.outcomes)
    d.is_actor.seat_at)
    (set_here w.logs d.actor.seat.replica d.actor.log (d.actor.log ++ d.tx ∷ []) d.is_actor.log_at)

-- no log has more entries than it can have
few_entries : (w : WorldParts) (i : ℕ) (seat : SeatParts) (log : List Tx) → slice_get w.seats i ≡ Some seat →
    slice_get w.logs seat.replica ≡ Some log → HasRoom w → length (entries_at w i) ≤ most
few_entries w i seat log seat_at log_at room =
    let few = room.each seat.replica log log_at in
    let same = ap (λ (h : List Tx). length h) (entries_of_actor w i seat log seat_at log_at) in
    omega (arith, few, same)

-- each drop leaves less room there
less_room : (w : WorldParts) (i : ℕ) (after : WorldParts) → IsDueIn w i → IsAct w i after → HasRoom after →
    most - length (entries_at after i) < most - length (entries_at w i)
less_room w i after due (drops d) room =
    let before = ap (λ (h : List Tx). length h)
    (entries_of_actor w i d.actor.seat d.actor.log d.is_actor.seat_at d.is_actor.log_at) in
    let since = ap (λ (h : List Tx). length h) (dropped_entries w i after d) in
    let more = length_push d.actor.log d.tx in
    let few = few_entries (with_made w i d.actor (d.tx ∷ []) d.actor.seat.outcomes) i
    (seat_with d.actor.seat (d.actor.seat.seen ++ d.tx ∷ []) d.actor.seat.outcomes) (d.actor.log ++ d.tx ∷ [])
    (set_here w.seats i d.actor.seat (seat_with d.actor.seat (d.actor.seat.seen ++ d.tx ∷ []) d.actor.seat.outcomes)
    d.is_actor.seat_at)
    (set_here w.logs d.actor.seat.replica d.actor.log (d.actor.log ++ d.tx ∷ []) d.is_actor.log_at)
    (subst HasRoom d.after_is room) in
    let moved = ap (λ (v : WorldParts). length (entries_at v i)) d.after_is in
    omega (arith, before, since, more, few, moved)
less_room w i after due (answers a) room =
    absurd (not_calm w i a.actor due.actor a.is_actor due.is_actor a.calm due.tx due.due)
less_room w i after due (rests r) room =
    absurd (not_calm w i r.actor due.actor r.is_actor due.is_actor r.calm due.tx due.due)

pub drop_grows : (r : RunParts) (i : ℕ) (after : RunParts) → r.full ≡ false → after.full ≡ false → IsDueIn r.world i →
    IsMoved r (Act i) after →
    most - length (entries_at after.world i) < most - length (entries_at r.world i)
drop_grows r i after going on due (goes g) = subst (λ (s : RunParts).
    most - length (entries_at s.world i) < most - length (entries_at r.world i)) (sym g.after_is)
    (less_room r.world i g.next due g.step_is g.room)
drop_grows r i after going on due (fills f) =
    absurd (both_full after.full (ap (λ (s : RunParts). s.full) f.after_is) on)
drop_grows r i after going on due (stopped s) = absurd (both_full r.full s.full going)

-- where a part has ended early, so has the whole
pub goes_on : (fault : WorldFault) (full : Bool) (P Q : Type 0) → Fails fault full P → (P → full ≡ true → Q) →
    Fails fault full Q
goes_on Full full P Q (part, is) whole = (whole part is, is)
goes_on NoMemory full P Q is whole = is

-- and where it has gone on, so has the whole
pub goes_whole : {T : Type 0} (result : Result T WorldFault) (full : Bool) (P Q : Type 0) → Goes result full P → (P → Q) →
    Goes result full Q
goes_whole (Ok x) full P Q (part, is) whole = (whole part, is)
goes_whole (Err fault) full P Q failed whole = goes_on fault full P Q failed (λ part is. whole part)

-- the same of what a `?` hands on
pub goes_err : {T : Type 0} (result : Result T WorldFault) (fault : WorldFault) (full : Bool) (P Q : Type 0) →
    IsErrAnd result (λ (e : WorldFault). e ≡ fault) → Fails fault full P → (P → full ≡ true → Q) → Goes result full Q
goes_err (Ok x) fault full P Q is failed whole = absurd is
goes_err (Err e) fault full P Q is failed whole =
    goes_on e full P Q (subst (λ (f : WorldFault). Fails f full P) (sym is) failed) whole
