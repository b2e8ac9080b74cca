-- The cases of a verdict on an input that is a document and behind it a journal. They come as those of
-- `ipa_command` do, each with what comes `Later`.
--
--   longest_journal             the greatest number of bytes of a document and a journal
--   context_at document line    what a journal of the document is read by, whose first line has this number
--   AfterStart bytes Later status text    the journal begins there; what comes later is this
--   AfterJournal document start bytes Later status text   the bytes from there on have no reading as a journal; or what
--                               comes later, for the journal that they read as, is this
--   AreOneJournal               bytes have one reading as a journal at most: one journal, or one line that refuses them
use Rattle.std.specs.Prelude.{◌≡◌, ℕ, List, length, drop}
use Rattle.ipa_reader.specs.declared.document.Document.{Document}
use Rattle.ipa_journal.specs.Readings.{Context, context_of, IsRefused, ReadsAs}
use Rattle.ipa_journal.specs.Starts.{IsStart}
use Rattle.ipa_journal.specs.declared.journal.Journal.{Journal}
use Rattle.ipa_journal.specs.declared.starts.JournalStart.{JournalStart}
use Rattle.ipa_journal_commands.specs.AuditTexts.{unread_text}
use Rattle.ipa_command.specs.declared.status.Status.{Status}
use Rattle.ipa_command.specs.declared.status.Status.TheVariants.{Refused}

-- the greatest number of bytes of a document and a journal
abbrev pub longest_journal : ℕ
longest_journal = 67108864

-- what a journal of the document is read by, whose first line has this number
abbrev pub context_at : Document → ℕ → Context
context_at document line = context_of document.spec document.setup.elements (length document.setup.sessions) line

-- the journal begins at its first line, or behind the last line where there is none
pub record AfterStart (bytes : List ℕ) (Later : JournalStart → Status → List ℕ → Type 0) (status : Status)
    (text : List ℕ) : Type 0 where
  pub start : JournalStart
  pub begins : IsStart bytes start
  pub later : Later start status text

-- the bytes have no reading as a journal, and the text is the line that says so
pub record IsUnread (context : Context) (bytes : List ℕ) (text : List ℕ) : Type 0 where
  pub line : ℕ
  pub refused : IsRefused context bytes line
  pub text_is : text ≡ unread_text line

-- the bytes from there on have no reading as a journal; or what comes later, for the journal that they read as, is this
pub data AfterJournal (document : Document) (start : JournalStart) (bytes : List ℕ)
    (Later : Journal → Status → List ℕ → Type 0) (status : Status) (text : List ℕ) : Type 0 where
  unread : status ≡ Refused → IsUnread (context_at document start.line) (drop start.at bytes) text →
      AfterJournal document start bytes Later status text
  read : (journal : Journal) → ReadsAs (context_at document start.line) (drop start.at bytes) journal →
      Later journal status text → AfterJournal document start bytes Later status text

-- bytes have one reading as a journal at most: one journal, or one line that refuses them
pub record AreOneJournal : Type 0 where
  pub journal : (c : Context) (bytes : List ℕ) (j k : Journal) → ReadsAs c bytes j → ReadsAs c bytes k → j ≡ k
  pub line : (c : Context) (bytes : List ℕ) (n m : ℕ) → IsRefused c bytes n → IsRefused c bytes m → n ≡ m
  pub apart : (c : Context) (bytes : List ℕ) (j : Journal) (n : ℕ) → ReadsAs c bytes j → IsRefused c bytes n → ⊥
