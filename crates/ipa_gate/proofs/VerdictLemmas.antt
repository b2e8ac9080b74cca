-- What comes next in a log, and what a closed cut of one has.
use Rattle.std.proofs.Common.{◌≡◌, ℕ, List}
use Rattle.ipa_clock.specs.declared.cut.Cut.{Cut}
use Rattle.ipa_spec.specs.Fits.{IsFit}
use Rattle.ipa_spec.specs.declared.operations.Action.TheVariants.{Drop}
use Rattle.ipa_logic.specs.Truth.{Keeps}
use Rattle.ipa_logic.specs.declared.facts.Broken.{Broken}
use Rattle.ipa_history.specs.Histories.{IsClosed}
use Rattle.ipa_history.specs.Values.{value_at}
use Rattle.ipa_history.specs.declared.history.Tx.{Tx}
use Rattle.ipa_history.specs.declared.reasons.Reason.TheVariants.{Clause as Breaks}
use Rattle.ipa_lift.specs.FollowLaws.{drop_never_breaks}
use Rattle.ipa_lift.specs.Lift.{meeting_keeps}
use Rattle.ipa_gate.specs.Settings.{SettingParts, IsSetting}
use Rattle.ipa_gate.specs.Logs.{IsLog}
use Rattle.ipa_gate.specs.Offers.{IsNextIn, IsUnlawful}
use Rattle.ipa_gate.specs.Verdicts.{IsAtCut}
use Rattle.ipa_gate.specs.VerdictLaws.{meetings_of}

-- what comes next in a log is at its closed cut
pub IsAtCut-next : (s : SettingParts) → IsFit s.spec → IsSetting s → (h : List Tx) → IsLog s h → (t : Tx) →
    IsNextIn s h t → IsAtCut s.spec s.universe s.base h t
IsAtCut-next s fit setting h log t next = record {
  fit = fit;
  accepted = setting.accepted;
  legal = log.legal;
  closed = next.closed;
  own = next.fresh.shaped.own;
  fitting = next.fresh.shaped.fitting;
}

-- so it never breaks a clause, where it is a drop
pub unlawful_drop : (s : SettingParts) → IsFit s.spec → IsSetting s → (h : List Tx) → IsLog s h → (t : Tx) (n : ℕ)
    (broken : Broken) → t.action ≡ Drop n → IsUnlawful s h t (Breaks broken) → ⊥
unlawful_drop s fit setting h log t n broken action is =
    let at = IsAtCut-next s fit setting h log t is.next in
    drop_never_breaks s.spec fit setting.accepted s.universe s.base h log.legal t at.closed at.own at.fitting n broken
    action is.illegal

-- every closed cut of a log keeps all clauses
pub closed_keeps : (s : SettingParts) → IsFit s.spec → IsSetting s → (h : List Tx) → IsLog s h → (c : Cut) →
    IsClosed h c → Keeps s.spec s.universe (value_at s.spec s.base h c)
closed_keeps s fit setting h log c closed =
    meeting_keeps s.spec fit s.universe s.base h log.legal (meetings_of s.spec setting.accepted h) c closed
