-- A world is given a transaction that one of its logs has.
--
--   log_at            the log of a replica stands in its place
--   givable_here      it can be given to the log of a replica
--   full_here         it is too much for a log that has no room
--   given_here        the replica is given it
--   same_log          or nothing changes
--   room_here         what was given was not too much
--   standing_give     what the world keeps then
--   delivered_full    an entry in its place that finds no room
use Rattle.std.proofs.Common.{◌≡◌, ℕ, ◌<◌, ◌≤◌, List, length, map, Some, slice_get, refl, sym, ◌∙◌, ap, subst, arith}
use Rattle.std.specs.Prelude.{Result, OnOk, OnErr, slice_set, slice_index_or}
use Rattle.std.proofs.Math.Seq.{map-set_same}
use Rattle.std.proofs.lemmas.List.{length-map}
use Rattle.ipa_clock.specs.declared.cut.Cut.{Cut}
use Rattle.ipa_history.specs.declared.history.Tx.{Tx}
use Rattle.ipa_gate.specs.Logs.{LogParts, most}
use Rattle.ipa_gate.specs.Settings.{SettingParts}
use Rattle.ipa_world.specs.Worlds.{WorldParts, with_log}
use Rattle.ipa_world.specs.Steps.{IsNews, IsGiven}
use Rattle.ipa_world.specs.Room.{HasRoom, IsGiveFull, IsDeliverFull}
use Rattle.ipa_world.specs.Lawful.{IsLawful, IsEntry}
use Rattle.ipa_world.specs.LawfulLaws.{given-lawful}
use Rattle.ipa_world.specs.Seats.{seat_parts, IsGivable, IsGivenTo, IsTooMuch}
use Rattle.ipa_world.specs.Standing.{entries_of, world_of, AreLogged, IsStanding}
use Rattle.ipa_world.specs.OfferLaws.{givable_entry}
use Rattle.ipa_world.proofs.StandingLemmas.{at_index, mapped_at, room_with, world_with, changed_log, AreLogged-set, standing_with}
use Rattle.ipa_world.proofs.StepLemmas.{by_result, standing_still}
use Rattle.ipa_world.specs.declared.seats.Seat.{Seat}

module _ (s : SettingParts) (logs : List LogParts) (seats : List Seat) (peers : List Cut) (w : WorldParts)
    (view : world_of s logs seats peers ≡ w) (standing : IsStanding s logs seats peers) (t : Tx) (entry : IsEntry w t)
    (to : ℕ) (within : to < length w.logs) (log : LogParts) (value : log ≡ slice_index_or logs to log) where
  lawful_here : IsLawful w
  lawful_here = subst (λ (x : WorldParts). IsLawful x) view standing.lawful

  pub log_at : slice_get logs to ≡ Some log
  log_at = at_index logs to log (
      let size = length-map logs entries_of in
      let same : length (map entries_of logs) ≡ length w.logs = ap (λ (x : WorldParts). length x.logs) view in
      omega (arith, within, size, same)) value

  log_there : slice_get w.logs to ≡ Some log.entries
  log_there = subst (λ (x : WorldParts). slice_get x.logs to ≡ Some log.entries) view
      (mapped_at entries_of logs to log log_at)

  setting_is : log.setting ≡ w.setting
  setting_is = standing.logged.each to log log_at ∙ ap (λ (x : WorldParts). x.setting) view

  -- it can be given to the log of a replica
  pub givable_here : IsGivable log.setting log.entries t
  givable_here = subst (λ (x : SettingParts). IsGivable x log.entries t) (sym setting_is)
      (givable_entry w lawful_here t entry to log.entries log_there)

  -- it is too much for a log that has no room
  pub full_here : IsTooMuch log.entries t → IsGiveFull w to t
  full_here is = record { log = log.entries; log_at = log_there; news = is.news; full = is.full }

  module _ (longer : LogParts) (kept : longer.setting ≡ log.setting) (few : length longer.entries ≤ most) where
    abbrev others : List LogParts
    others = slice_set logs to longer

    are_logged : AreLogged s others
    are_logged = AreLogged-set s logs seats peers to longer standing.logged
        (kept ∙ standing.logged.each to log log_at)

    whole : world_of s others seats peers ≡ with_log w to longer.entries
    whole = changed_log s logs seats peers to longer ∙ ap (λ (x : WorldParts). with_log x to longer.entries) view

    -- nothing changes
    pub same_log : longer.entries ≡ log.entries → world_of s others seats peers ≡ w
    same_log still =
        ap (λ (x : List (List Tx)). world_with s x (map seat_parts seats) peers)
        (map-set_same entries_of logs to longer log (still ∙ ap entries_of value)) ∙ view

    -- or the replica is given it
    pub given_here : IsGivenTo log.entries t longer.entries → IsGiven w to t (world_of s others seats peers)
    given_here (IsGivenTo.takes news room more) = IsGiven.takes (record {
      log = log.entries;
      log_at = log_there;
      news = news;
      after_is = whole ∙ ap (λ (x : List Tx). with_log w to x) more;
    })
    given_here (IsGivenTo.leaves none same) = IsGiven.leaves (record {
      log = log.entries;
      log_at = log_there;
      no_news = none;
      after_is = same_log same;
    })

    not_both : IsGivenTo log.entries t longer.entries → IsNews log.entries t → length log.entries ≡ most → ⊥
    not_both (IsGivenTo.takes news room more) is size = absurd (omega (arith, room, size))
    not_both (IsGivenTo.leaves none same) is size = none is

    -- what was given was not too much
    pub room_here : IsGivenTo log.entries t longer.entries → IsGiveFull w to t → ⊥
    room_here is full =
        let other : full.log ≡ log.entries = (
        let e : Some full.log ≡ Some log.entries = sym full.log_at ∙ log_there in cc) in
        not_both is (subst (λ (x : List Tx). IsNews x t) other full.news)
        (sym (ap (λ (x : List Tx). length x) other) ∙ full.full)

    room_after : HasRoom (world_of s others seats peers)
    room_after = subst (λ (x : WorldParts). HasRoom x) (sym (changed_log s logs seats peers to longer))
        (room_with (world_of s logs seats peers) to longer.entries standing.room few)

    -- what the world keeps then
    pub standing_give : {T E : Type 0} (r : Result T E) → OnOk r (IsGivenTo log.entries t longer.entries) →
        OnErr r (longer.entries ≡ log.entries) → IsStanding s others seats peers
    standing_give r ok err = by_result r (IsStanding s others seats peers) ok err
        (λ is. standing_with s others seats peers (world_of s others seats peers) are_logged standing.seated refl
        (given-lawful w to t (world_of s others seats peers) lawful_here entry (given_here is) room_after) room_after)
        (λ same. standing_still s logs seats peers w view standing others seats are_logged standing.seated (same_log same))

-- an entry in its place that finds no room
pub delivered_full : (w : WorldParts) (from to place : ℕ) (h : List Tx) (t : Tx) → slice_get w.logs from ≡ Some h →
    slice_get h place ≡ Some t → (IsGiveFull w to t → ⊥) → IsDeliverFull w from to place → ⊥
delivered_full w from to place h t h_at at none full =
    let one : full.log ≡ h = (let e : Some full.log ≡ Some h = sym full.log_at ∙ h_at in cc) in
    let tx : full.tx ≡ t = (
    let e : Some full.tx ≡ Some t = sym full.at ∙ (ap (λ (x : List Tx). slice_get x place) one ∙ at) in cc) in
    none (subst (λ (x : Tx). IsGiveFull w to x) tx full.full)
