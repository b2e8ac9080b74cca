-- What a log keeps beside its value.
--
--   IsKept setting index ready   the index is right for the entries of a log, and has room for what it is ready for
use Rattle.std.specs.Prelude.{◌≡◌, Option, Some}
use Rattle.ipa_history.specs.Histories.{IsMember}
use Rattle.ipa_history.specs.declared.history.Tx.{Tx}
use Rattle.ipa_sets.specs.Indexes.{IsIndexOf, IsReadyFor}
use Rattle.ipa_sets.specs.declared.index.Index.{Index}
use Rattle.ipa_gate.specs.Settings.{SettingParts}
use Rattle.ipa_gate.specs.Logs.{IsLog}

-- the entries of the index are a log of the setting, the index is right for them, and it has room for the transaction
-- that the log is ready for, where that is no entry
pub record IsKept (s : SettingParts) (index : Index) (ready : Option Tx) : Type 0 where
  pub log : IsLog s index.entries
  pub indexed : IsIndexOf s.spec index
  pub readied : (t : Tx) → ready ≡ Some t → (IsMember index.entries t → ⊥) → IsReadyFor s.spec t index
