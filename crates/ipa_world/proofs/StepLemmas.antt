-- A world takes a step.
--
--   by_result       what follows of an answer, whether it is a fault or not
--   In the world of these parts, for its session i, and the log of its replica:
--     seat_at, log_at, replica_within, log_setting, is_placed, is_open, fit     how they stand in it
--     pulled_here, same_seat, standing_pull     what the world is once the session has pulled
--     acted_here, same_both, standing_act       and once it has acted
--   For a link:
--     heard_here, standing_heard     once its sender has heard of a cut
use Rattle.std.proofs.Common.{◌≡◌, ℕ, ◌<◌, ◌≤◌, ◌+◌, ◌*◌, List, length, map, Some, Ok, Err, slice_get, refl, sym, ◌∙◌, ap, subst, arith}
use Rattle.std.specs.Prelude.{Result, OnOk, OnErr, slice_set, slice_index_or}
use Rattle.std.proofs.Math.Seq.{map-set_same}
use Rattle.std.proofs.lemmas.List.{length-map}
use Rattle.std.proofs.lemmas.Option.{slice_get_within}
use Rattle.ipa_clock.specs.declared.cut.Cut.{Cut}
use Rattle.ipa_clock.specs.Cut.{joined}
use Rattle.ipa_logic.specs.Requests.{IsRequest}
use Rattle.ipa_logic.specs.declared.facts.Request.{Request}
use Rattle.ipa_history.specs.Clocks.{IsClockOf}
use Rattle.ipa_gate.specs.Logs.{LogParts, most}
use Rattle.ipa_gate.specs.Settings.{SettingParts}
use Rattle.ipa_world.specs.Worlds.{SeatParts, WorldParts, link_of, with_seat, with_log, with_peer}
use Rattle.ipa_world.specs.Steps.{IsPulled, IsAct, IsHeard, IsLink}
use Rattle.ipa_world.specs.Room.{HasRoom}
use Rattle.ipa_world.specs.Lawful.{IsLawful}
use Rattle.ipa_world.specs.LawfulLaws.{pulled-lawful, acted-lawful, heard-lawful}
use Rattle.ipa_world.specs.Seats.{seat_parts, IsPlaced, placed, IsOpenTo}
use Rattle.ipa_world.specs.Standing.{entries_of, world_of, AreLogged, IsSeated, AreSeated, IsStanding}
use Rattle.ipa_world.specs.OfferLaws.{open_to}
use Rattle.ipa_world.proofs.StandingLemmas.{at_index, mapped_at, room_with, world_with, changed, changed_seat, AreLogged-set, AreSeated-set, standing_with}
use Rattle.ipa_world.proofs.PlaceLemmas.{peer_at}
use Rattle.ipa_world.specs.declared.seats.Seat.{Seat}

-- what follows of an answer, whether it is a fault or not
pub by_result : {T E : Type 0} (r : Result T E) {P Q : Type 0} (R : Type 0) → OnOk r P → OnErr r Q → (P → R) →
    (Q → R) → R
by_result (Ok x) R p q f g = f p
by_result (Err e) R p q f g = g q

pub on_err : {T E : Type 0} (r : Result T E) {P Q : Type 0} → OnErr r P → (P → Q) → OnErr r Q
on_err (Ok x) p f = tt
on_err (Err e) p f = f p

pub on_err2 : {T E : Type 0} (r : Result T E) {P Q R : Type 0} → OnErr r P → OnErr r Q → (P → Q → R) → OnErr r R
on_err2 (Ok x) p q f = tt
on_err2 (Err e) p q f = f p q

-- both of what a fault ensures
pub err_both : {T E : Type 0} (r : Result T E) (P Q : Type 0) → OnErr r P → OnErr r Q → OnErr r (P × Q)
err_both (Ok x) P Q p q = tt
err_both (Err e) P Q p q = (p, q)

module _ (s : SettingParts) (logs : List LogParts) (seats : List Seat) (peers : List Cut) (w : WorldParts)
    (view : world_of s logs seats peers ≡ w) (standing : IsStanding s logs seats peers) where
  abbrev here : WorldParts
  here = world_of s logs seats peers

  lawful_here : IsLawful w
  lawful_here = subst (λ (x : WorldParts). IsLawful x) view standing.lawful

  room_of_w : HasRoom w
  room_of_w = subst (λ (x : WorldParts). HasRoom x) view standing.room

  -- a world with the same value keeps the same
  pub standing_still : (others : List LogParts) (more : List Seat) → AreLogged s others → AreSeated s more →
      world_of s others more peers ≡ w → IsStanding s others more peers
  standing_still others more logged seated is = standing_with s others more peers w logged seated is lawful_here room_of_w

  module _ (i : ℕ) (seat : Seat) (inside : i < length w.seats) (value : seat ≡ slice_index_or seats i seat) where
    many : length seats ≡ length w.seats
    many = sym (length-map seats seat_parts) ∙ ap (λ (x : WorldParts). length x.seats) view

    pub seat_at : slice_get seats i ≡ Some seat
    seat_at = at_index seats i seat (let m = many in omega (arith, inside, m)) value

    is_seated : IsSeated s i seat
    is_seated = standing.seated.each i seat seat_at

    pub seated_origin : seat.session.origin ≡ i
    seated_origin = is_seated.origin

    there : slice_get (map seat_parts seats) i ≡ Some (seat_parts seat)
    there = mapped_at seat_parts seats i seat seat_at

    pub replica_within : seat.replica < length logs
    replica_within =
        let has = standing.lawful.seen i (seat_parts seat) there in
        let within = slice_get_within (map entries_of logs) seat.replica has.log has.log_at in
        let size = length-map logs entries_of in
        omega (arith, within, size)

    pub fit : (place : ℕ) (request : Request) → slice_get seat.requests place ≡ Some request →
        IsRequest seat.session.setting.spec seat.session.setting.universe request
    fit place request at = subst (λ (x : SettingParts). IsRequest x.spec x.universe request) (sym is_seated.setting)
        ((standing.lawful.answered i (seat_parts seat) there).fit place request at)

    module _ (log : LogParts) (log_value : log ≡ slice_index_or logs seat.replica log) where
      pub log_at : slice_get logs seat.replica ≡ Some log
      log_at = at_index logs seat.replica log replica_within log_value

      log_there : slice_get (map entries_of logs) seat.replica ≡ Some log.entries
      log_there = mapped_at entries_of logs seat.replica log log_at

      pub log_setting : log.setting ≡ seat.session.setting
      log_setting = standing.logged.each seat.replica log log_at ∙ sym is_seated.setting

      pub is_placed : IsPlaced w seat log
      is_placed = subst (λ (x : WorldParts). IsPlaced x seat log) view (record {
        setting = sym is_seated.setting;
        seat_at = subst (λ (k : ℕ). slice_get (map seat_parts seats) k ≡ Some (seat_parts seat)) (sym is_seated.origin)
            there;
        log_at = log_there;
      })

      pub is_open : (cut : Cut) → IsClockOf seat.session.seen cut → IsOpenTo seat.session log.entries
      is_open cut clock = open_to here standing.lawful i
          (record { seat = seat_parts seat; log = log.entries; cut = cut })
          (record { seat_at = there; log_at = log_there; clock = clock })
          seat.session is_seated.setting is_seated.origin refl

      module _ (new : Seat) (setting : new.session.setting ≡ seat.session.setting)
          (origin : new.session.origin ≡ seat.session.origin) where
        abbrev more : List Seat
        more = slice_set seats i new

        are_seated : AreSeated s more
        are_seated = AreSeated-set s logs seats peers i new standing.seated
            (record { setting = setting ∙ is_seated.setting; origin = origin ∙ is_seated.origin })

        -- the session has pulled
        pub pulled_here : IsPulled w seat.session.origin (with_seat w seat.session.origin (seat_parts new)) →
            IsPulled w i (world_of s logs more peers)
        pulled_here is = subst (λ (x : WorldParts). IsPulled w i x)
            (sym (changed_seat s logs seats peers i new ∙ ap (λ (x : WorldParts). with_seat x i (seat_parts new)) view))
            (subst (λ (k : ℕ). IsPulled w k (with_seat w k (seat_parts new))) is_seated.origin is)

        seats_same : seat_parts new ≡ seat_parts seat → map seat_parts more ≡ map seat_parts seats
        seats_same same = map-set_same seat_parts seats i new seat (same ∙ ap seat_parts value)

        -- or not
        pub same_seat : seat_parts new ≡ seat_parts seat → world_of s logs more peers ≡ w
        same_seat same =
            ap (λ (x : List SeatParts). world_with s (map entries_of logs) x peers) (seats_same same) ∙ view

        pub standing_pull : {T E : Type 0} (r : Result T E) →
            OnOk r (IsPulled w seat.session.origin (with_seat w seat.session.origin (seat_parts new))) →
            OnErr r (seat_parts new ≡ seat_parts seat) → IsStanding s logs more peers
        standing_pull r ok err = by_result r (IsStanding s logs more peers) ok err
            (λ is. standing_with s logs more peers (world_of s logs more peers) standing.logged are_seated refl
            (pulled-lawful w i (world_of s logs more peers) lawful_here (pulled_here is))
            (record { each = standing.room.each }))
            (λ same. standing_still logs more standing.logged are_seated (same_seat same))

        module _ (longer : LogParts) (kept : longer.setting ≡ log.setting) (few : length longer.entries ≤ most) where
          abbrev others : List LogParts
          others = slice_set logs seat.replica longer

          are_logged : AreLogged s others
          are_logged = AreLogged-set s logs seats peers seat.replica longer standing.logged
              (kept ∙ standing.logged.each seat.replica log log_at)

          -- the session has acted
          pub acted_here : new.replica ≡ seat.replica →
              IsAct w seat.session.origin (placed w seat.session.origin new longer) →
              IsAct w i (world_of s others more peers)
          acted_here replica is =
              let moved : placed w i new longer ≡ with_log (with_seat w i (seat_parts new)) seat.replica longer.entries =
              ap (λ (r : ℕ). with_log (with_seat w i (seat_parts new)) r longer.entries) replica in
              let whole = changed s logs seats peers i new seat.replica longer
              ∙ ap (λ (x : WorldParts). with_log (with_seat x i (seat_parts new)) seat.replica longer.entries) view in
              subst (λ (x : WorldParts). IsAct w i x) (moved ∙ sym whole)
              (subst (λ (k : ℕ). IsAct w k (placed w k new longer)) is_seated.origin is)

          room_after : HasRoom (world_of s others more peers)
          room_after = subst (λ (x : WorldParts). HasRoom x) (sym (changed s logs seats peers i new seat.replica longer))
              (record { each = (room_with here seat.replica longer.entries standing.room few).each })

          -- or not
          pub same_both : seat_parts new ≡ seat_parts seat → longer.entries ≡ log.entries →
              world_of s others more peers ≡ w
          same_both same still =
              let logs_same : map entries_of others ≡ map entries_of logs =
              map-set_same entries_of logs seat.replica longer log (still ∙ ap entries_of log_value) in
              let sessions = seats_same same in
              (λ k. world_with s (logs_same k) (sessions k) peers) ∙ view

          pub standing_act : {T E : Type 0} (r : Result T E) → new.replica ≡ seat.replica →
              OnOk r (IsAct w seat.session.origin (placed w seat.session.origin new longer)) →
              OnErr r (seat_parts new ≡ seat_parts seat) → OnErr r (longer.entries ≡ log.entries) →
              IsStanding s others more peers
          standing_act r replica ok one other =
              by_result r (IsStanding s others more peers) ok
              (err_both r (seat_parts new ≡ seat_parts seat) (longer.entries ≡ log.entries) one other)
              (λ is. standing_with s others more peers (world_of s others more peers) are_logged are_seated refl
              (acted-lawful w i (world_of s others more peers) lawful_here (acted_here replica is) room_after) room_after)
              (λ same. standing_still others more are_logged are_seated (same_both same.0 same.1))

  -- the sender of a link
  module _ (from to : ℕ) (link : IsLink w from to) (known : Cut)
      (value : known ≡ slice_index_or peers (8 * from + to) known) (clock new : Cut) (heard : new ≡ joined known clock)
    where
      known_at : slice_get peers (link_of from to) ≡ Some known
      known_at = peer_at s logs seats peers w view standing from to link.sends link.receives known value

      -- has heard
      pub heard_here : IsHeard w from to clock (world_of s logs seats (slice_set peers (link_of from to) new))
      heard_here = record {
        known = known;
        known_at = subst (λ (x : WorldParts). slice_get x.peers (link_of from to) ≡ Some known) view known_at;
        after_is = ap (λ (x : WorldParts). with_peer x (link_of from to) new) view
            ∙ ap (λ (x : Cut). with_peer w (link_of from to) x) heard;
      }

      pub standing_heard : IsStanding s logs seats (slice_set peers (link_of from to) new)
      standing_heard = standing_with s logs seats (slice_set peers (link_of from to) new)
          (world_of s logs seats (slice_set peers (link_of from to) new)) standing.logged standing.seated refl
          (heard-lawful w from to clock (world_of s logs seats (slice_set peers (link_of from to) new)) lawful_here heard_here)
          (record { each = standing.room.each })
