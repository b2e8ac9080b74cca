-- What a log is made for.
--
--   SettingParts           a specification, the sizes of a universe, the facts of a base, and a number of sessions
--   IsSetting setting      the specification is accepted, and the base is a state that keeps clauses and bounds
--   IsLegalFor setting h   the history is legal for the setting
use Rattle.std.specs.Prelude.{ℕ, ◌≤◌, List}
use Rattle.ipa_spec.specs.declared.specification.Specification.{Specification}
use Rattle.ipa_logic.specs.Facts.{Universe, IsUniverse, IsState, has}
use Rattle.ipa_logic.specs.Truth.{Keeps}
use Rattle.ipa_logic.specs.Groups.{Within}
use Rattle.ipa_logic.specs.Acceptance.{IsAccepted}
use Rattle.ipa_logic.specs.declared.facts.Fact.{Fact}
use Rattle.ipa_history.specs.Legality.{IsLegalHistory}
use Rattle.ipa_history.specs.declared.history.Tx.{Tx}

-- a specification, the sizes of a universe, the facts of a base, and a number of sessions
pub record SettingParts : Type 0 where
  pub spec : Specification
  pub universe : Universe
  pub base : List Fact
  pub sessions : ℕ

-- the specification is accepted; the base is a state over a universe of it, and keeps clauses and bounds; and there are
-- at most 16 sessions
pub record IsSetting (s : SettingParts) : Type 0 where
  pub accepted : IsAccepted s.spec
  pub sizes : IsUniverse s.spec s.universe
  pub base_state : IsState s.spec s.universe s.base
  pub base_keeps : Keeps s.spec s.universe (has s.base)
  pub base_within : Within s.spec.bounds s.base
  pub few : s.sessions ≤ 16

-- the history is legal for the setting
abbrev pub IsLegalFor : SettingParts → List Tx → Type 0
IsLegalFor s h = IsLegalHistory s.spec s.universe s.base h
