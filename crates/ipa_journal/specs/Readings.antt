-- Which bytes read as which journal, and which are refused, at which line.
--
-- `first` is the number of the journal's first line in the whole input, `es` are the lists of the names of elements,
-- and n is the number of sessions.
--
--   Context                    the specification, the names of elements, the number of sessions and the first line
--   number_of c line           the number of a line in the whole input
--   Said                       a line, and the parts that it is read as
--   standing_of c said         what is read behind these lines
--   IsReadUpTo c bytes lines st   these lines of the text are read, and st is what is read behind them
--   ReadsAs c bytes journal    the bytes read as the journal
--   IsRefusedLine c st line text   a line of this text has no parts, or may not follow what is read
--   IsRefusedAt c bytes number   the lines before are read, and the one of this number is refused
--   IsEndedEarly c bytes number   all lines are read, and a further one is wanted
--   IsFault c bytes fault      a fault of a journal is true of its bytes; want of memory is true of all
use Rattle.std.specs.Prelude.{◌≡◌, ℕ, ◌+◌, ◌-◌, List, ◌∷◌, ◌++◌, map, fold, Option, None, Some}
use Rattle.std.specs.List.{All}
use Rattle.ipa_text.specs.Lines.{line_text, lines_of, last_line}
use Rattle.ipa_text.specs.declared.numbering.Line.{Line}
use Rattle.ipa_spec.specs.declared.names.Name.{Name}
use Rattle.ipa_spec.specs.declared.specification.Specification.{Specification}
use Rattle.ipa_journal.specs.Parts.{HasParts}
use Rattle.ipa_journal.specs.Unread.{IsUnread}
use Rattle.ipa_journal.specs.Order.{start, next_standing}
use Rattle.ipa_journal.specs.declared.parts.Part.{Part}
use Rattle.ipa_journal.specs.declared.journal.Journal.{Journal}
use Rattle.ipa_journal.specs.declared.journal.JournalFault.{JournalFault}
use Rattle.ipa_journal.specs.declared.journal.JournalFault.TheVariants.{At, NoMemory}
use Rattle.ipa_journal.specs.declared.standing.Place.TheVariants.{Done}
use Rattle.ipa_journal.specs.declared.standing.Standing.{Standing}

pub record Context : Type 0 where
  pub spec : Specification
  pub elements : List (List Name)
  pub sessions : ℕ
  pub first : ℕ

abbrev pub number_of : Context → Line → ℕ
number_of c line = c.first + (line.number - 1)

pub record Said : Type 0 where
  pub line : Line
  pub parts : List Part

abbrev pub next_of : Context → Standing → Line → List Part → Option Standing
next_of c st line parts = next_standing c.spec c.elements c.sessions (number_of c line) st parts

abbrev pub with_said : Context → Option Standing → Said → Option Standing
with_said c None said = None
with_said c (Some st) said = next_of c st said.line said.parts

abbrev pub standing_of : Context → List Said → Option Standing
standing_of c said = fold (with_said c) (Some start) said

abbrev pub IsSaid : List ℕ → Said → Type 0
IsSaid bytes said = HasParts (line_text bytes said.line) said.parts

pub record IsReadUpTo (c : Context) (bytes : List ℕ) (lines : List Line) (st : Standing) : Type 0 where
  pub said : List Said
  pub lines_are : map (λ x. x.line) said ≡ lines
  pub each : All (IsSaid bytes) said
  pub standing_is : standing_of c said ≡ Some st

pub record IsJournalOf (st : Standing) (journal : Journal) : Type 0 where
  pub transactions : journal.transactions ≡ st.transactions
  pub outcomes : journal.outcomes ≡ st.outcomes
  pub last : journal.last ≡ st.last
  pub last_line : journal.last_line ≡ st.last_line

-- all lines are read, up to the end
pub record ReadsAs (c : Context) (bytes : List ℕ) (journal : Journal) : Type 0 where
  pub standing : Standing
  pub read : IsReadUpTo c bytes (lines_of bytes) standing
  pub done : standing.place ≡ Done
  pub journal_is : IsJournalOf standing journal

-- the line has parts, and stands against the order or lacks the form of its place
pub record IsMisplaced (c : Context) (st : Standing) (line : Line) (text : List ℕ) : Type 0 where
  pub parts : List Part
  pub has : HasParts text parts
  pub against : next_of c st line parts ≡ None

pub data IsRefusedLine (c : Context) (st : Standing) (line : Line) (text : List ℕ) : Type 0 where
  unread : IsUnread text → IsRefusedLine c st line text
  misplaced : IsMisplaced c st line text → IsRefusedLine c st line text

pub record IsRefusedAt (c : Context) (bytes : List ℕ) (number : ℕ) : Type 0 where
  pub before : List Line
  pub line : Line
  pub later : List Line
  pub standing : Standing
  pub lines_are : before ++ line ∷ later ≡ lines_of bytes
  pub read : IsReadUpTo c bytes before standing
  pub number_is : number ≡ number_of c line
  pub refused : IsRefusedLine c standing line (line_text bytes line)

pub record IsEndedEarly (c : Context) (bytes : List ℕ) (number : ℕ) : Type 0 where
  pub standing : Standing
  pub read : IsReadUpTo c bytes (lines_of bytes) standing
  pub not_done : standing.place ≡ Done → ⊥
  pub number_is : number ≡ c.first + last_line bytes

pub data IsRefused (c : Context) (bytes : List ℕ) (number : ℕ) : Type 0 where
  at_line : IsRefusedAt c bytes number → IsRefused c bytes number
  at_end : IsEndedEarly c bytes number → IsRefused c bytes number

abbrev pub IsFault : Context → List ℕ → JournalFault → Type 0
IsFault c bytes (At number) = IsRefused c bytes number
IsFault c bytes NoMemory = Unit {0}

-- the line is read behind what stands before it
pub record TakesLine (c : Context) (bytes : List ℕ) (st : Standing) (line : Line) (next : Standing) : Type 0 where
  pub parts : List Part
  pub has : HasParts (line_text bytes line) parts
  pub next_is : next_of c st line parts ≡ Some next

-- a fault at a line is true of it
abbrev pub IsLineFault : Context → List ℕ → Standing → Line → JournalFault → Type 0
IsLineFault c bytes st line (At number) =
    (number ≡ number_of c line) × IsRefusedLine c st line (line_text bytes line)
IsLineFault c bytes st line NoMemory = Unit {0}

abbrev pub context_of : Specification → List (List Name) → ℕ → ℕ → Context
context_of s es n first = record { spec = s; elements = es; sessions = n; first = first }
