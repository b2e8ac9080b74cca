-- The shape of a transaction that a log can take.
--
--   IsWithinSessions n c        the cut has no transaction of an origin past the first n
--   IsArgumentAt s u a args k   an argument is an element of its sort, or 0 past the last
--   IsShaped setting t          the transaction has the right shape
use Rattle.std.specs.Prelude.{◌≡◌, ℕ, ◌<◌, ◌≤◌, List, slice_get, MatchOption}
use Rattle.ipa_clock.specs.declared.cut.Cut.{Cut}
use Rattle.ipa_clock.specs.Cut.{count_of}
use Rattle.ipa_spec.specs.Actions.{sorts_of}
use Rattle.ipa_spec.specs.declared.specification.Specification.{Specification}
use Rattle.ipa_spec.specs.declared.operations.Action.{Action}
use Rattle.ipa_logic.specs.Facts.{Universe, size_of}
use Rattle.ipa_logic.specs.Truth.{value_at}
use Rattle.ipa_history.specs.LawfulEnds.{IsShaped as IsShapedFor}
use Rattle.ipa_history.specs.declared.history.Tx.{Tx}
use Rattle.ipa_gate.specs.Settings.{SettingParts}

-- the cut has no transaction of an origin past the first n
pub record IsWithinSessions (n : ℕ) (c : Cut) : Type 0 where
  pub none : (origin : ℕ) → n ≤ origin → count_of c origin ≡ 0

-- what stands in place k of the arguments is an element of its sort, or 0 past the last argument
abbrev pub IsArgumentAt : Specification → Universe → Action → List ℕ → ℕ → Type 0
IsArgumentAt s universe action args k =
    MatchOption (slice_get (sorts_of s action) k) (value_at args k ≡ 0)
    (λ sort. value_at args k < size_of universe sort)

-- its fields fit the setting's specification, universe and sessions
abbrev pub IsShaped : SettingParts → Tx → Type 0
IsShaped s t = IsShapedFor s.spec s.universe s.sessions t
