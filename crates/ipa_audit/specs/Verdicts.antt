-- What an audit finds of a journal.
--
--   IsLawfulJournal s requests j   its end is lawful for the sessions' requests, and its `out` lines stand in order
--   IsVerdict s requests j verdict   it is lawful with so many transactions, or this is its first bad line and its fault
use Rattle.std.specs.Prelude.{◌≡◌, ℕ, List, length}
use Rattle.ipa_logic.specs.declared.facts.Request.{Request}
use Rattle.ipa_history.specs.LawfulEnds.{IsLawfulEnd}
use Rattle.ipa_gate.specs.Settings.{SettingParts}
use Rattle.ipa_journal.specs.declared.journal.Journal.{Journal}
use Rattle.ipa_audit.specs.Journals.{txs_of, outcomes_by}
use Rattle.ipa_audit.specs.Order.{AreInOrder}
use Rattle.ipa_audit.specs.BadLines.{IsBadAt}
use Rattle.ipa_audit.specs.declared.verdict.Verdict.{Verdict}
use Rattle.ipa_audit.specs.declared.verdict.Verdict.TheVariants.{Legal, Bad}

-- the end is lawful for the sessions' requests, and the lines stand in the order of sessions and places
pub record IsLawfulJournal (s : SettingParts) (requests : List (List Request)) (j : Journal) : Type 0 where
  pub end : IsLawfulEnd s.spec s.universe s.base requests (txs_of j.transactions) (outcomes_by requests j.outcomes) j.last
  pub order : AreInOrder requests j.outcomes

-- the journal is lawful, with so many transactions
pub record IsLegalJournal (s : SettingParts) (requests : List (List Request)) (j : Journal) (n : ℕ) : Type 0 where
  pub lawful : IsLawfulJournal s requests j
  pub count : n ≡ length j.transactions

-- it is lawful with so many transactions, or this is its first bad line and its fault
abbrev pub IsVerdict : SettingParts → List (List Request) → Journal → Verdict → Type 0
IsVerdict s requests j (Legal n) = IsLegalJournal s requests j n
IsVerdict s requests j (Bad line fault) = IsBadAt s requests j line fault
