-- Where a journal begins in an input.
--
--   BeginsJournal text     the first word of a line of this text is `journal`
--   IsStartAt bytes start   the first such line of the input, by its place and its number
--   IsStart bytes start    where there is none, the place and the number behind the last line
use Rattle.std.specs.Prelude.{◌≡◌, ℕ, ◌+◌, List, ◌∷◌, ◌++◌, length}
use Rattle.std.specs.List.{All}
use Rattle.ipa_text.specs.Lines.{line_text, lines_of, last_line}
use Rattle.ipa_text.specs.Tokens.{IsCutInto}
use Rattle.ipa_text.specs.declared.numbering.Line.{Line}
use Rattle.ipa_text.specs.declared.tokens.Token.{Token}
use Rattle.ipa_forms.specs.Words.{Word, text, words_in}
use Rattle.ipa_journal.specs.Pieces.{keyword_text}
use Rattle.ipa_journal.specs.declared.keywords.Keyword.TheVariants.{Journal}
use Rattle.ipa_journal.specs.declared.starts.JournalStart.{JournalStart}

-- a line with a byte that starts no token has no words
pub record BeginsJournal (line : List ℕ) : Type 0 where
  pub tokens : List Token
  pub cut : IsCutInto line tokens
  pub later : List Word
  pub words_are : words_in line tokens ≡ text (keyword_text Journal) ∷ later

abbrev pub BeginsNone : List ℕ → Line → Type 0
BeginsNone bytes line = BeginsJournal (line_text bytes line) → ⊥

pub record IsStartAt (bytes : List ℕ) (start : JournalStart) : Type 0 where
  pub before : List Line
  pub line : Line
  pub later : List Line
  pub lines_are : before ++ line ∷ later ≡ lines_of bytes
  pub none : All (BeginsNone bytes) before
  pub begins : BeginsJournal (line_text bytes line)
  pub at : start.at ≡ line.start
  pub number : start.line ≡ line.number

pub record IsNowhere (bytes : List ℕ) (start : JournalStart) : Type 0 where
  pub none : All (BeginsNone bytes) (lines_of bytes)
  pub at : start.at ≡ length bytes
  pub number : start.line ≡ last_line bytes + 1

pub data IsStart (bytes : List ℕ) (start : JournalStart) : Type 0 where
  at_line : IsStartAt bytes start → IsStart bytes start
  nowhere : IsNowhere bytes start → IsStart bytes start
