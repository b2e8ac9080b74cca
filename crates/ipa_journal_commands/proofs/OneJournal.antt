-- An input has one verdict, as far as the journal goes.
--
--   one-start          a journal begins at one place
--   one-after_start, one-after_journal   these cases keep that there is one status and text
--   one-migration      an input has one verdict of `migrate`
use Rattle.std.proofs.Common.{◌≡◌, ◌∙◌, ℕ, List, [], ◌∷◌, ◌++◌, ap, sym, subst, take, drop, slice_get}
use Rattle.std.specs.List.{All}
use Rattle.std.proofs.lemmas.List.Elements.{All-head, All-tail}
use Rattle.std.proofs.lemmas.Option.{same_Some}
use Rattle.ipa_text.specs.declared.numbering.Line.{Line}
use Rattle.ipa_text.specs.Lines.{line_text, lines_of}
use Rattle.ipa_reader.specs.declared.document.Document.{Document}
use Rattle.ipa_journal.specs.Readings.{Context}
use Rattle.ipa_journal.specs.Starts.{BeginsJournal, BeginsNone, IsStart, IsStartAt}
use Rattle.ipa_journal.specs.Starts.IsStart.{at_line, nowhere}
use Rattle.ipa_journal.specs.declared.journal.Journal.{Journal}
use Rattle.ipa_journal.specs.declared.starts.JournalStart.{JournalStart}
use Rattle.ipa_command.specs.Verdicts.{AfterReading}
use Rattle.ipa_command.specs.VerdictLaws.{AreOne, IsOne, one-after_length, one-after_reading}
use Rattle.ipa_command.specs.declared.status.Status.{Status}
use Rattle.ipa_journal_commands.specs.AuditTexts.{unread_text}
use Rattle.ipa_journal_commands.specs.Journals.{AfterJournal, AfterStart, AreOneJournal, IsUnread, context_at, longest_journal}
use Rattle.ipa_journal_commands.specs.Journals.AfterJournal.{unread, read}
use Rattle.ipa_journal_commands.proofs.JournalLemmas.{middle}
use Rattle.ipa_journal_commands.specs.Migrations.{IsDocumentMigrated, IsMigrated, IsMigrationOf, MigrateVerdict}

-- the lists have the same first item, and the same others
same_head : (x y : Line) (xs ys : List Line) → x ∷ xs ≡ y ∷ ys → x ≡ y
same_head x y xs ys e = same_Some x y (ap (λ (ls : List Line). slice_get ls 0) e)

same_tail : (x y : Line) (xs ys : List Line) → x ∷ xs ≡ y ∷ ys → xs ≡ ys
same_tail x y xs ys e = ap (λ (ls : List Line). drop 1 ls) e

-- the first line that is so is one
one-first : (P : Line → Type 0) (xs ys : List Line) (x y : Line) (us vs : List Line) → xs ++ x ∷ us ≡ ys ++ y ∷ vs →
    All (λ l. P l → ⊥) xs → All (λ l. P l → ⊥) ys → P x → P y → x ≡ y
one-first P [] [] x y us vs e none_before none p q = same_head x y us vs e
one-first P [] (z ∷ ys) x y us vs e none_before none p q =
    absurd (All-head (λ l. P l → ⊥) z ys none (subst P (same_head x z us (ys ++ y ∷ vs) e) p))
one-first P (z ∷ xs) [] x y us vs e none_before none p q =
    absurd (All-head (λ l. P l → ⊥) z xs none_before (subst P (sym (same_head z y (xs ++ x ∷ us) vs e)) q))
one-first P (z ∷ xs) (w ∷ ys) x y us vs e none_before none p q =
    one-first P xs ys x y us vs (same_tail z w (xs ++ x ∷ us) (ys ++ y ∷ vs) e)
    (All-tail (λ l. P l → ⊥) z xs none_before) (All-tail (λ l. P l → ⊥) w ys none) p q

-- where a line begins a journal, not all begin none
begun : (bytes : List ℕ) (start : JournalStart) → IsStartAt bytes start → All (BeginsNone bytes) (lines_of bytes) → ⊥
begun bytes start h none =
    middle (BeginsNone bytes) h.before h.line h.later
    (subst (λ (ls : List Line). All (BeginsNone bytes) ls) (sym h.lines_are) none) h.begins

-- a journal begins at one place
pub one-start : (bytes : List ℕ) (start other : JournalStart) → IsStart bytes start → IsStart bytes other → start ≡ other
one-start bytes start other (at_line h) (at_line k) =
    let same = one-first (λ (l : Line). BeginsJournal (line_text bytes l)) h.before k.before h.line k.line h.later k.later (h.lines_are ∙ sym k.lines_are) h.none k.none h.begins k.begins in
    λ i. record {
      at = (h.at ∙ (ap (λ (l : Line). l.start) same ∙ sym k.at)) i;
      line = (h.number ∙ (ap (λ (l : Line). l.number) same ∙ sym k.number)) i;
    }
one-start bytes start other (at_line h) (nowhere k) = absurd (begun bytes start h k.none)
one-start bytes start other (nowhere h) (at_line k) = absurd (begun bytes other k h.none)
one-start bytes start other (nowhere h) (nowhere k) =
    λ i. record { at = (h.at ∙ sym k.at) i; line = (h.number ∙ sym k.number) i }

pub one-after_start : (bytes : List ℕ) (Later : JournalStart → Status → List ℕ → Type 0) →
    ((start : JournalStart) → IsOne (Later start)) → IsOne (AfterStart bytes Later)
one-after_start bytes Later one status end text other h k =
    let same : k.start ≡ h.start = one-start bytes k.start h.start k.begins h.begins in
    one h.start status end text other h.later (subst (λ (s : JournalStart). Later s end other) same k.later)

module _ (laws : AreOneJournal) where
  one-unread : (c : Context) (bytes text other : List ℕ) → IsUnread c bytes text → IsUnread c bytes other → text ≡ other
  one-unread c bytes text other h k =
      h.text_is ∙ (ap unread_text (laws.line c bytes h.line k.line h.refused k.refused) ∙ sym k.text_is)

  pub one-after_journal : (document : Document) (start : JournalStart) (bytes : List ℕ)
      (Later : Journal → Status → List ℕ → Type 0) → ((journal : Journal) → IsOne (Later journal)) →
      IsOne (AfterJournal document start bytes Later)
  one-after_journal document start bytes Later one status end text other (unread l h) (unread m k) =
      (l ∙ sym m, one-unread (context_at document start.line) (drop start.at bytes) text other h k)
  one-after_journal document start bytes Later one status end text other (unread l h) (read j m k) =
      absurd (laws.apart (context_at document start.line) (drop start.at bytes) j h.line m h.refused)
  one-after_journal document start bytes Later one status end text other (read j l h) (unread m k) =
      absurd (laws.apart (context_at document start.line) (drop start.at bytes) j k.line l k.refused)
  one-after_journal document start bytes Later one status end text other (read j l h) (read i m k) =
      let same : i ≡ j = laws.journal (context_at document start.line) (drop start.at bytes) i j m l in
      one j status end text other h (subst (λ (journal : Journal). Later journal end other) same k)

-- an input has one verdict of `migrate`
pub one-migration : AreOne → AreOneJournal → (bytes : List ℕ) → IsOne (MigrateVerdict bytes)
one-migration laws journals bytes =
    one-after_length longest_journal bytes (IsMigrated bytes)
    (one-after_start bytes (λ start. AfterReading (take start.at bytes) (IsDocumentMigrated bytes start))
    (λ start. one-after_reading laws (take start.at bytes) (IsDocumentMigrated bytes start)
    (λ document reads fit. one-after_journal journals document start bytes (IsMigrationOf document)
    (λ journal status end text other h k. (h.status_is ∙ sym k.status_is, h.text_is ∙ sym k.text_is)))))
