-- What `migrate` says of an input, which is a document and behind it a journal. Nothing of the document is analysed.
--
--   IsMigrationOf document journal status text   the text is the journal's content, in the latest version
--   IsDocumentMigrated bytes start document status text   what is said where the document was read
--   IsMigrated bytes status text        what `migrate` says of an input that is not too long
--   MigrateVerdict bytes status text    what `migrate` says of an input
use Rattle.std.specs.Prelude.{◌≡◌, ℕ, List, length, take}
use Rattle.ipa_reader.specs.declared.document.Document.{Document}
use Rattle.ipa_journal.specs.Texts.{content_text}
use Rattle.ipa_journal.specs.declared.journal.Journal.{Journal}
use Rattle.ipa_journal.specs.declared.starts.JournalStart.{JournalStart}
use Rattle.ipa_journal_commands.specs.Journals.{longest_journal, AfterStart, AfterJournal}
use Rattle.ipa_command.specs.Verdicts.{AfterLength, AfterReading}
use Rattle.ipa_command.specs.declared.status.Status.{Status}
use Rattle.ipa_command.specs.declared.status.Status.TheVariants.{Done}

-- the text is the journal's content, in the latest version
pub record IsMigrationOf (document : Document) (journal : Journal) (status : Status) (text : List ℕ) : Type 0 where
  pub status_is : status ≡ Done
  pub text_is : text ≡ content_text document.spec document.setup.elements (length document.setup.sessions) journal

-- what `migrate` says of a document that was read, and of what stands behind it
abbrev pub IsDocumentMigrated : List ℕ → JournalStart → Document → Status → List ℕ → Type 0
IsDocumentMigrated bytes start document = AfterJournal document start bytes (IsMigrationOf document)

-- what `migrate` says of an input that is not too long
abbrev pub IsMigrated : List ℕ → Status → List ℕ → Type 0
IsMigrated bytes status text =
    AfterStart bytes (λ start. AfterReading (take start.at bytes) (IsDocumentMigrated bytes start)) status text

-- what `migrate` says of an input
abbrev pub MigrateVerdict : List ℕ → Status → List ℕ → Type 0
MigrateVerdict bytes status text = AfterLength longest_journal bytes (IsMigrated bytes) status text
