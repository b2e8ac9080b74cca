-- Logs: legal histories of a setting that take one transaction after the other.
--
--   most                  the most entries of a log
--   LogParts              the setting of a log, its entries, and the transaction that it is ready for, if there is one
--   IsLog log             the entries are a legal history of the setting, few, and each of the right shape
use Rattle.std.specs.Prelude.{ℕ, ◌≤◌, List, length, Option}
use Rattle.ipa_history.specs.Histories.{IsMember}
use Rattle.ipa_history.specs.declared.history.Tx.{Tx}
use Rattle.ipa_gate.specs.Settings.{SettingParts, IsLegalFor}
use Rattle.ipa_gate.specs.Shapes.{IsShaped}

-- the most entries of a log
abbrev pub most : ℕ
most = 65536

-- the setting of a log, its entries, and the transaction that it is ready for, if there is one
pub record LogParts : Type 0 where
  pub setting : SettingParts
  pub entries : List Tx
  pub ready : Option Tx

-- the entries are a legal history of the setting, few, and each of the right shape
pub record IsLog (s : SettingParts) (entries : List Tx) : Type 0 where
  pub legal : IsLegalFor s entries
  pub few : length entries ≤ most
  pub shaped : (t : Tx) → IsMember entries t → IsShaped s t
