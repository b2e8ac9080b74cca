-- The verdict on a journal.
--
--   bad_unlawful      a journal with a bad line is not lawful
--   missing_at, wrong_at, legal_at   what is found at the final line
--   moved             what holds of three things holds of equal ones
use Rattle.std.proofs.Common.{◌≡◌, ℕ, List, length, take, refl, ◌∙◌, ap, subst}
use Rattle.std.proofs.lemmas.List.{length-map}
use Rattle.ipa_logic.specs.Facts.{IsStateOf}
use Rattle.ipa_logic.specs.declared.facts.Request.{Request}
use Rattle.ipa_history.specs.LawfulEnds.{IsLawfulEnd}
use Rattle.ipa_history.specs.Values.{value_of}
use Rattle.ipa_history.specs.declared.history.Tx.{Tx}
use Rattle.ipa_gate.specs.Logs.{IsLog}
use Rattle.ipa_gate.specs.Settings.{SettingParts}
use Rattle.ipa_journal.specs.declared.journal.Journal.{Journal}
use Rattle.ipa_journal.specs.declared.journal.TxLine.{TxLine}
use Rattle.ipa_audit.specs.Journals.{txs_of, outcomes_by}
use Rattle.ipa_audit.specs.BadLines.{AreTaken, IsFirstBadTx, IsAtEnd, IsBadAt, IsMissing, IsMissingAt, IsWrongAt, NoneBad}
use Rattle.ipa_audit.specs.GoodLines.{AreGood, IsComplete, IsIncomplete}
use Rattle.ipa_audit.specs.Verdicts.{IsLawfulJournal, IsLegalJournal}
use Rattle.ipa_audit.specs.declared.verdict.AuditFault.{AuditFault}
use Rattle.ipa_audit.specs.declared.verdict.AuditFault.TheVariants.{Offer, Repeated, Outcome, Missing, Final}
use Rattle.ipa_audit.proofs.EntryLemmas.{lawful_taken, taken_fault}
use Rattle.ipa_audit.proofs.GoodLemmas.{good_bad, none_bad}
use Rattle.ipa_audit.proofs.LawfulLemmas.{lawful_good, lawful_missing, good_end, good_order, incomplete_missing, complete_missing}

module _ (s : SettingParts) (requests : List (List Request)) (j : Journal) (same : s.sessions ≡ length requests) where
  bad_tx_unlawful : (line : ℕ) (fault : AuditFault) → IsFirstBadTx s j.transactions line fault →
      IsLawfulJournal s requests j → ⊥
  bad_tx_unlawful line fault bad lawful =
      let taken = lawful_taken s (length requests) same j.transactions lawful.end.entries_are in
      taken_fault s (txs_of (take bad.place j.transactions)) bad.entry.tx fault
      (taken.each bad.place bad.entry bad.at) bad.fault_is

  -- a journal with a bad line is not lawful
  pub bad_unlawful : (line : ℕ) (fault : AuditFault) → IsBadAt s requests j line fault → IsLawfulJournal s requests j → ⊥
  bad_unlawful line (Offer fault) bad lawful = bad_tx_unlawful line (Offer fault) bad lawful
  bad_unlawful line Repeated bad lawful = bad_tx_unlawful line Repeated bad lawful
  bad_unlawful line Outcome bad lawful =
      let good : AreGood s requests (txs_of j.transactions) j.outcomes =
      lawful_good s requests (txs_of j.transactions) j.outcomes lawful.order j.last lawful.end in
      let first = bad.first in
      good_bad s requests (txs_of j.transactions) (take first.place j.outcomes) first.out
      (good.each first.place first.out first.at) first.bad
  bad_unlawful line Missing bad lawful =
      lawful_missing s requests (txs_of j.transactions) j.outcomes lawful.order j.last lawful.end bad.missing
  bad_unlawful line Final bad lawful = bad.wrong lawful.end.last_facts

module _ (s : SettingParts) (requests : List (List Request)) (j : Journal) (same : s.sessions ≡ length requests)
    (h : List Tx) (entries : h ≡ txs_of j.transactions) (log : IsLog s h) (taken : AreTaken s j.transactions)
    (good : AreGood s requests h j.outcomes) where
  at_end : IsAtEnd s requests j j.last_line
  at_end = record {
    taken = taken;
    outcomes = subst (λ (xs : List Tx). NoneBad s requests xs j.outcomes) entries (none_bad s requests h j.outcomes good);
    line_is = refl;
  }

  -- something is missing
  pub missing_at : IsIncomplete requests h j.outcomes → IsMissingAt s requests j j.last_line
  missing_at incomplete = record {
    end = at_end;
    missing = subst (λ (xs : List Tx). IsMissing requests xs j.outcomes) entries
        (incomplete_missing s requests h j.outcomes incomplete);
  }

  -- nothing is missing, and the final facts are wrong
  pub wrong_at : IsComplete requests h j.outcomes → (IsStateOf (value_of s.spec s.base h) j.last → ⊥) →
      IsWrongAt s requests j j.last_line
  wrong_at complete wrong = record {
    end = at_end;
    complete = subst (λ (xs : List Tx). IsMissing requests xs j.outcomes → ⊥) entries
        (complete_missing s requests h j.outcomes good same log complete);
    wrong = subst (λ (xs : List Tx). IsStateOf (value_of s.spec s.base xs) j.last → ⊥) entries wrong;
  }

  -- all is right
  pub legal_at : IsComplete requests h j.outcomes → IsStateOf (value_of s.spec s.base h) j.last → (n : ℕ) →
      n ≡ length h → IsLegalJournal s requests j n
  legal_at complete final n count = record {
    lawful = record {
      end = subst (λ (xs : List Tx). IsLawfulEnd s.spec s.universe s.base requests xs (outcomes_by requests j.outcomes) j.last)
          entries (good_end s requests h j.outcomes good same log complete j.last final);
      order = good_order s requests h j.outcomes good;
    };
    count = count ∙ (ap length entries ∙ length-map j.transactions (λ (l : TxLine). l.tx));
  }

-- what holds of three things holds of equal ones
pub moved : {A B C : Type 0} (P : A → B → C → Type 0) (a one : A) (b two : B) (c three : C) → a ≡ one → b ≡ two → c ≡ three →
    P a b c → P one two three
moved P a one b two c three first second third is =
    subst (λ (x : _). P x two three) first (subst (λ (x : _). P a x three) second (subst (λ (x : _). P a b x) third is))
