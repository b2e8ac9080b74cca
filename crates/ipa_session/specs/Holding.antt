-- What a session keeps beside its value.
--
--   HasRoomFor seen facts width         the facts, and a list of this width, have room for one more transaction
--   IsHeld p cut calm facts room width  the cut and the facts are those of the seen history, the calm cut is one of it,
--                                       and where there is said to be room for one more transaction, it is there
use Rattle.std.specs.Prelude.{◌≡◌, ℕ, ◌<◌, ◌≤◌, List, [], length}
use Rattle.ipa_clock.specs.declared.cut.Cut.{Cut}
use Rattle.ipa_history.specs.declared.history.Tx.{Tx}
use Rattle.ipa_sets.specs.FactSets.{IsFactsOf, HasRoom}
use Rattle.ipa_sets.specs.declared.facts.Facts.{Facts}
use Rattle.ipa_history.specs.Clocks.{IsClockOf}
use Rattle.ipa_session.specs.Calms.{IsCalmOf}
use Rattle.ipa_session.specs.Sessions.{SessionParts, IsSession}
use Rattle.ipa_session.specs.declared.calm.Calm.{Calm}

-- there is room in the facts, and in a list of this width, for one transaction more than were seen
pub record HasRoomFor (seen : List Tx) (facts : Facts) (width : ℕ) : Type 0 where
  pub facts_have : HasRoom 1 facts
  pub wide : length seen < width

-- the cut and the facts are those of the seen history, the calm cut is one of it, and what is said to be spare is there
pub record IsHeld (p : SessionParts) (cut : Cut) (calm : Calm) (facts : Facts) (room : List Tx)
    (width : ℕ) : Type 0 where
  pub session : IsSession p
  pub clock : IsClockOf p.seen cut
  pub calm_is : IsCalmOf p.setting.spec p.setting.base p.seen calm
  pub facts_are : IsFactsOf p.setting.spec p.setting.base p.seen facts
  pub empty : room ≡ []
  pub few : p.spare ≤ 1
  pub spare : 0 < p.spare → HasRoomFor p.seen facts width
