-- What `audit` says of an input, which is a document and behind it a journal.
--
--   verdict_status verdict      a legal journal, or a bad one, as a status
--   IsAuditOf document journal status text   the status and the text are those of the audit
--   IsDocumentAudited bytes start document status text   what is said where the document was read
--   IsAudited bytes status text         what `audit` says of an input that is not too long
--   AuditVerdict bytes status text      what `audit` says of an input
use Rattle.std.specs.Prelude.{◌≡◌, ℕ, List, take}
use Rattle.ipa_reader.specs.declared.document.Document.{Document}
use Rattle.ipa_settings.specs.DocumentSettings.{setting_of}
use Rattle.ipa_journal.specs.declared.journal.Journal.{Journal}
use Rattle.ipa_journal.specs.declared.starts.JournalStart.{JournalStart}
use Rattle.ipa_audit.specs.Journals.{requests_of}
use Rattle.ipa_audit.specs.Verdicts.{IsVerdict}
use Rattle.ipa_audit.specs.declared.verdict.Verdict.{Verdict}
use Rattle.ipa_audit.specs.declared.verdict.Verdict.TheVariants.{Legal, Bad}
use Rattle.ipa_journal_commands.specs.AuditTexts.{verdict_text}
use Rattle.ipa_journal_commands.specs.Journals.{longest_journal, AfterStart, AfterJournal}
use Rattle.ipa_command.specs.Verdicts.{AfterLength, AfterReading, AfterWidth, AfterAcceptance}
use Rattle.ipa_command.specs.declared.status.Status.{Status}
use Rattle.ipa_command.specs.declared.status.Status.TheVariants.{Done, Rejected}

-- a legal journal, or a bad one
abbrev pub verdict_status : Verdict → Status
verdict_status (Legal transactions) = Done
verdict_status (Bad line fault) = Rejected

-- the status and the text are those of the audit
pub record IsAuditOf (document : Document) (journal : Journal) (status : Status) (text : List ℕ) : Type 0 where
  pub verdict : Verdict
  pub is_verdict : IsVerdict (setting_of document) (requests_of document.setup.sessions) journal verdict
  pub status_is : status ≡ verdict_status verdict
  pub text_is : text ≡ verdict_text document.spec document.setup.elements verdict

-- what `audit` says of a document that was read, and of what stands behind it
abbrev pub IsDocumentAudited : List ℕ → JournalStart → Document → Status → List ℕ → Type 0
IsDocumentAudited bytes start document =
    AfterWidth document.spec (AfterAcceptance document.spec (AfterJournal document start bytes (IsAuditOf document)))

-- what `audit` says of an input that is not too long
abbrev pub IsAudited : List ℕ → Status → List ℕ → Type 0
IsAudited bytes status text =
    AfterStart bytes (λ start. AfterReading (take start.at bytes) (IsDocumentAudited bytes start)) status text

-- what `audit` says of an input
abbrev pub AuditVerdict : List ℕ → Status → List ℕ → Type 0
AuditVerdict bytes status text = AfterLength longest_journal bytes (IsAudited bytes) status text
