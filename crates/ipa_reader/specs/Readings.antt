-- What is known while the lines of a document are read.
--
--   IsTextFault text fault            a fault of a line's text is true of it
--   TakesLine s text next             the line says a form that is not refused, and next stands behind it
--   IsLineFault s text number fault   a fault at a line is true of it
--   IsReadUpTo bytes lines s          these lines of the text are read and accepted, and s stands behind them
--   IsFault bytes fault               a fault of a document is true of its bytes; want of memory is true of all
use Rattle.std.specs.Prelude.{◌≡◌, ℕ, List, None}
use Rattle.ipa_text.specs.declared.numbering.Line.{Line}
use Rattle.ipa_reader.specs.Standings.{standing_of, next_standing}
use Rattle.ipa_reader.specs.Refusals.{refusal_at}
use Rattle.ipa_reader.specs.Documents.{Says, SayEach, AreAccepted, IsUnread, IsRefusedLine, IsRefused}
use Rattle.ipa_reader.specs.Soundness.{IsSoundStanding}
use Rattle.ipa_forms.specs.declared.forms.Form.{Form}
use Rattle.ipa_reader.specs.declared.standing.Standing.{Standing}
use Rattle.ipa_reader.specs.declared.line_forms.TextFault.{TextFault}
use Rattle.ipa_reader.specs.declared.line_forms.TextFault.TheVariants.{Unread, NoMemory}
use Rattle.ipa_reader.specs.declared.refusals.DocFault.{DocFault}
use Rattle.ipa_reader.specs.declared.refusals.DocFault.TheVariants as fault

abbrev pub IsTextFault : List ℕ → TextFault → Type 0
IsTextFault text (Unread kind) = IsUnread text kind
IsTextFault text NoMemory = Unit {0}

pub record TakesLine (s : Standing) (text : List ℕ) (next : Standing) : Type 0 where
  pub form : Form
  pub says : Says text form
  pub accepted : refusal_at s form ≡ None
  pub next_is : next ≡ next_standing s form

abbrev pub IsLineFault : Standing → List ℕ → ℕ → DocFault → Type 0
IsLineFault s text number (fault.At line kind) = (line ≡ number) × IsRefusedLine s text kind
IsLineFault s text number fault.NoMemory = Unit {0}

pub record IsReadUpTo (bytes : List ℕ) (lines : List Line) (s : Standing) : Type 0 where
  pub forms : List Form
  pub said : SayEach bytes lines forms
  pub accepted : AreAccepted forms
  pub standing_is : s ≡ standing_of forms
  pub within : IsSoundStanding s

abbrev pub IsFault : List ℕ → DocFault → Type 0
IsFault bytes (fault.At line kind) = IsRefused bytes line kind
IsFault bytes fault.NoMemory = Unit {0}
