-- Which bytes read as which document, and which are refused, with which line and kind.
--
--   Says text form                a line of this text is cut into tokens, is no existential clause, and has the form
--   SayEach bytes lines forms     each of these lines of the text says its form
--   AreAccepted forms             none of the forms is refused, each given those before it
--   IsDocumentOf forms document   the document that these lines give
--   ReadsAs bytes document        the bytes read as the document
--   IsRefusedLine s text kind     a line of this text is refused so, given what stands before it
--   IsRefused bytes line kind     the bytes are refused at the lowest line where a refusal holds, by the least kind
--                                 there
use Rattle.std.specs.Prelude.{◌≡◌, ℕ, true, false, List, length, take, slice_get, None, Some}
use Rattle.std.specs.List.{AllZip}
use Rattle.ipa_text.specs.Lines.{line_text, lines_of, last_line}
use Rattle.ipa_text.specs.Tokens.{IsCutInto, IsBadByte}
use Rattle.ipa_text.specs.declared.numbering.Line.{Line}
use Rattle.ipa_text.specs.declared.tokens.Token.{Token}
use Rattle.ipa_logic.specs.Facts.{has, IsStateOf}
use Rattle.ipa_logic.specs.declared.facts.Fact.{Fact}
use Rattle.ipa_forms.specs.Forms.{HasForm, is_existential}
use Rattle.ipa_reader.specs.Standings.{standing_of}
use Rattle.ipa_reader.specs.Refusals.{refusal_at}
use Rattle.ipa_names.specs.Meaning.{specification_of}
use Rattle.ipa_reader.specs.Setups.{size_list, IsRefusedAtEnd, IsKept}
use Rattle.ipa_forms.specs.declared.forms.Form.{Form}
use Rattle.ipa_reader.specs.declared.standing.Standing.{Standing}
use Rattle.ipa_reader.specs.declared.document.Document.{Document}
use Rattle.ipa_reader.specs.declared.refusals.DocKind.{DocKind}
use Rattle.ipa_reader.specs.declared.refusals.DocKind.TheVariants.{BadByte, Existential, BadLine}

pub record Says (text : List ℕ) (form : Form) : Type 0 where
  pub tokens : List Token
  pub cut : IsCutInto text tokens
  pub plain : is_existential text tokens ≡ false
  pub form_is : HasForm text tokens form

abbrev pub SayEach : List ℕ → List Line → List Form → Type 0
SayEach bytes lines forms = AllZip (λ line form. Says (line_text bytes line) form) lines forms

pub record AreAccepted (forms : List Form) : Type 0 where
  pub each : (k : ℕ) (form : Form) → slice_get forms k ≡ Some form → refusal_at (standing_of (take k forms)) form ≡ None

pub record IsDocumentOf (forms : List Form) (document : Document) : Type 0 where
  pub spec : document.spec ≡ specification_of (standing_of forms).declared
  pub elements : document.setup.elements ≡ (standing_of forms).arranged.elements
  pub universe : document.setup.universe.sizes ≡ size_list (standing_of forms).arranged.elements
  pub base : IsStateOf (has (standing_of forms).arranged.facts) document.setup.base
  pub replicas : document.setup.replicas ≡ (standing_of forms).arranged.replicas
  pub sessions : document.setup.sessions ≡ (standing_of forms).arranged.sessions

pub record ReadsAs (bytes : List ℕ) (document : Document) : Type 0 where
  pub forms : List Form
  pub said : SayEach bytes (lines_of bytes) forms
  pub accepted : AreAccepted forms
  pub document_is : IsDocumentOf forms document
  pub kept : IsKept document.spec document.setup.universe.sizes document.setup.base

-- a clause that says `exists`
pub record IsExistentialText (text : List ℕ) : Type 0 where
  pub tokens : List Token
  pub cut : IsCutInto text tokens
  pub existential : is_existential text tokens ≡ true

-- the tokens have no form
pub record IsFormless (text : List ℕ) : Type 0 where
  pub tokens : List Token
  pub cut : IsCutInto text tokens
  pub plain : is_existential text tokens ≡ false
  pub formless : (form : Form) → HasForm text tokens form → ⊥

-- the line has a form, and is refused for it
pub record IsRefusedForm (s : Standing) (text : List ℕ) (kind : DocKind) : Type 0 where
  pub form : Form
  pub says : Says text form
  pub refused : refusal_at s form ≡ Some kind

-- a byte starts no token, a clause is existential, or the tokens have no form
abbrev pub IsUnread : List ℕ → DocKind → Type 0
IsUnread text BadByte = (at : ℕ) × IsBadByte text at
IsUnread text Existential = IsExistentialText text
IsUnread text BadLine = IsFormless text
IsUnread text _ = ⊥

pub data IsRefusedLine (s : Standing) (text : List ℕ) (kind : DocKind) : Type 0 where
  unread : IsUnread text kind → IsRefusedLine s text kind
  refused : IsRefusedForm s text kind → IsRefusedLine s text kind

-- the lines before this one are accepted, and this one is refused
pub record IsRefusedAtLine (bytes : List ℕ) (number : ℕ) (kind : DocKind) : Type 0 where
  pub before : List Form
  pub line : Line
  pub said : SayEach bytes (take (length before) (lines_of bytes)) before
  pub accepted : AreAccepted before
  pub here : slice_get (lines_of bytes) (length before) ≡ Some line
  pub number_is : line.number ≡ number
  pub refused : IsRefusedLine (standing_of before) (line_text bytes line) kind

-- all lines are accepted, and at the last line of the text the base is refused
pub record IsRefusedBase (bytes : List ℕ) (number : ℕ) (kind : DocKind) : Type 0 where
  pub forms : List Form
  pub said : SayEach bytes (lines_of bytes) forms
  pub accepted : AreAccepted forms
  pub state : List Fact
  pub base : IsStateOf (has (standing_of forms).arranged.facts) state
  pub number_is : last_line bytes ≡ number
  pub refused :
      IsRefusedAtEnd (specification_of (standing_of forms).declared) (standing_of forms).arranged.elements state kind

pub data IsRefused (bytes : List ℕ) (number : ℕ) (kind : DocKind) : Type 0 where
  at_line : IsRefusedAtLine bytes number kind → IsRefused bytes number kind
  at_end : IsRefusedBase bytes number kind → IsRefused bytes number kind
