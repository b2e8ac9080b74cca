-- What the sessions of a lawful world read keeps all clauses.
--
--   cut-keeps       every closed cut of every log keeps all clauses
--   read-calm       the state that an outcome was answered at keeps them too, and is within the bounds
use Rattle.std.proofs.Common.{◌≡◌, ℕ, Bool, List, Some, slice_get, sym, subst, arith}
use Rattle.std.proofs.lemmas.Option.{slice_get_within}
use Rattle.ipa_clock.specs.declared.cut.Cut.{Cut}
use Rattle.ipa_spec.specs.Fits.{IsFit}
use Rattle.ipa_logic.specs.Facts.{has}
use Rattle.ipa_logic.specs.Truth.{Keeps}
use Rattle.ipa_logic.specs.declared.facts.Fact.{Fact}
use Rattle.ipa_history.specs.Histories.{IsClosed}
use Rattle.ipa_history.specs.Values.{value_at}
use Rattle.ipa_history.specs.PushLaws.{at_place}
use Rattle.ipa_history.specs.declared.history.Tx.{Tx}
use Rattle.ipa_history.specs.declared.outcomes.Outcome.{Outcome}
use Rattle.ipa_lift.specs.Lift.{meeting_keeps}
use Rattle.ipa_gate.specs.Settings.{SettingParts, IsSetting, IsLegalFor}
use Rattle.ipa_gate.specs.VerdictLaws.{meetings_of}
use Rattle.ipa_session.specs.Sessions.{IsCalmAt}
use Rattle.ipa_world.specs.Worlds.{SeatParts, WorldParts, session_at}
use Rattle.ipa_world.specs.Lawful.{IsLawful}

-- a closed cut of a history that is legal for the setting keeps all clauses
setting_keeps : (s : SettingParts) → IsFit s.spec → IsSetting s → (h : List Tx) → IsLegalFor s h → (c : Cut) →
    IsClosed h c → Keeps s.spec s.universe (value_at s.spec s.base h c)
setting_keeps s fit setting h legal c closed =
    meeting_keeps s.spec fit s.universe s.base h legal (meetings_of s.spec setting.accepted h) c closed

-- every closed cut of every log keeps all clauses
pub cut-keeps : (w : WorldParts) → IsFit w.setting.spec → IsLawful w → (r : ℕ) (log : List Tx) (c : Cut) →
    slice_get w.logs r ≡ Some log → IsClosed log c →
    Keeps w.setting.spec w.setting.universe (value_at w.setting.spec w.setting.base log c)
cut-keeps w fit is r log c at closed =
    setting_keeps w.setting fit is.setting log (is.logs.logs r log at).legal c closed

-- the state that an outcome was answered at is within the bounds and keeps all clauses
pub read-calm : (w : WorldParts) → IsFit w.setting.spec → IsLawful w → (i place : ℕ) (seat : SeatParts) (o : Outcome) →
    slice_get w.seats i ≡ Some seat → slice_get seat.outcomes place ≡ Some o →
    IsCalmAt (session_at w.setting i seat) o.cut
read-calm w fit is i place seat o at said =
    let has_answered = is.answered i seat at in
    let inside = slice_get_within seat.outcomes place o said in
    let few = has_answered.few in
    let request = at_place seat.requests place (omega (arith, inside, few)) in
    let reading = (has_answered.outcomes place request.0 o request.1 said).reading in
    let tells : has reading.state ≡ value_at w.setting.spec w.setting.base seat.seen o.cut =
    λ i f. reading.at.facts f i in
    record {
      state = reading.state;
      at = reading.at;
      within = reading.within;
      keeps = subst (λ (x : Fact → Bool). Keeps w.setting.spec w.setting.universe x) (sym tells)
          (setting_keeps w.setting fit is.setting seat.seen (is.seen i seat at).session.legal o.cut reading.closed);
    }
