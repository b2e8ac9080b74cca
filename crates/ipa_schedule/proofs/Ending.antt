-- The end of a settled run is a lawful end.
--
--   within_watched       the final facts are within all bounds
--   end_settled          the end is lawful
use Rattle.std.proofs.Common.{◌≡◌, ℕ, ◌<◌, ◌≤◌, Bool, false, List, [], length, map, Some, slice_get, refl, sym, ◌∙◌, ap, subst, arith, inl, inr}
use Rattle.std.proofs.lemmas.Option.{slice_get_within}
use Rattle.ipa_logic.specs.Facts.{IsStateOf, has}
use Rattle.ipa_logic.specs.FactLaws.{same_rising}
use Rattle.ipa_logic.specs.Groups.{Within}
use Rattle.ipa_logic.specs.declared.facts.Fact.{Fact}
use Rattle.ipa_history.specs.Histories.{IsMember}
use Rattle.ipa_history.specs.Values.{value_of}
use Rattle.ipa_history.specs.LawfulEnds.{IsLawfulEnd}
use Rattle.ipa_history.specs.MemberLaws.{member_none}
use Rattle.ipa_history.specs.declared.history.Tx.{Tx}
use Rattle.ipa_history.specs.declared.outcomes.Outcome.{Outcome}
use Rattle.ipa_history.specs.declared.outcomes.SimEnd.{SimEnd}
use Rattle.ipa_lift.specs.CutLaws.{value-same}
use Rattle.ipa_world.specs.Worlds.{SeatParts, WorldParts}
use Rattle.ipa_world.specs.Lawful.{IsLawful, AreSame, HasNoneLeft}
use Rattle.ipa_world.specs.EndLaws.{end-lawful, end-within}
use Rattle.ipa_schedule.specs.Going.{RunParts}
use Rattle.ipa_schedule.specs.Schedules.{IsSettled}
use Rattle.ipa_schedule.specs.Ends.{IsEndOf, IsLawfulFor}
use Rattle.ipa_schedule.specs.Running.{HasEntry}
use Rattle.ipa_schedule.proofs.Resting.{IsWatched, IsWatching, IsAtRest, at_rest, done_settled}
use Rattle.ipa_schedule.proofs.Resting.IsWatched.{watched, deserted}

-- without sessions there are no entries
no_entry : (w : WorldParts) → IsLawful w → length w.seats ≡ 0 → (first : List Tx) → slice_get w.logs 0 ≡ Some first →
    (t : Tx) → IsMember first t → IsMember [] t
no_entry w is none first at t m =
    let known = is.logs.made 0 first t at m in
    let inside = slice_get_within w.seats t.dot.origin known.seat known.seat_at in
    absurd (omega (arith, inside, none))

-- the final facts are within all bounds
within_watched : (w : WorldParts) → IsLawful w → AreSame w.logs → IsWatched w → (first : List Tx) →
    slice_get w.logs 0 ≡ Some first → (last : List Fact) →
    IsStateOf (value_of w.setting.spec w.setting.base first) last → Within w.setting.spec.bounds last
within_watched w is same (watched by) first at last last_is =
    let a = by.calm.actor in
    let seen = is.seen 0 a.seat by.calm.is_actor.seat_at in
    let both : Some by.saw.seat ≡ Some a.seat = sym by.saw.seat_at ∙ by.calm.is_actor.seat_at in
    let one : by.saw.seat ≡ a.seat = cc in
    end-within w is 0 a by.calm.is_actor by.calm.calm first
    (record { each = λ t m. same.each a.seat.replica 0 seen.log first t seen.log_at at (seen.lies t m) })
    (record {
      each = λ t m. subst (λ (s : SeatParts). IsMember s.seen t) one
          (by.saw.all 0 t (record { log = first; log_at = at; member = m }));
    }) last last_is
within_watched w is same (deserted none) first at last last_is =
    subst (λ (state : List Fact). Within w.setting.spec.bounds state)
    (same_rising w.setting.base last is.setting.base_state.rising last_is.rising (λ f.
    sym (last_is.facts f ∙ value-same w.setting.spec w.setting.base f first [] (no_entry w is none first at)
    (λ t m. absurd (member_none t m))))) is.setting.base_within

-- the end of a settled run is lawful
pub end_settled : (r after : RunParts) (end : SimEnd) → IsLawful r.world → HasNoneLeft r.world → IsSettled r after →
    after.full ≡ false → IsEndOf after end → IsLawfulFor after.world end
end_settled r after end lawful done settled going is =
    let rest = at_rest r after lawful settled going in
    let none = done_settled r after lawful settled going done in
    record {
      lawful = subst (λ (outcomes : List (List Outcome)). IsLawfulEnd after.world.setting.spec after.world.setting.universe
          after.world.setting.base (map (λ (seat : SeatParts). seat.requests) after.world.seats) end.entries outcomes
          end.last) (sym is.outcomes)
          (end-lawful after.world rest.lawful rest.same none end.entries is.entries end.last is.last);
      same = rest.same;
      within = within_watched after.world rest.lawful rest.same rest.watched end.entries is.entries end.last is.last;
    }
