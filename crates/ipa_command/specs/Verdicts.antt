-- The verdict of a command on an input: a status and a text. The first case that applies counts. The cases that come
-- first are the same for all commands, and stand here once; a command says which of them it has, and what comes
-- `Later`, as a fact of a status and a text.
--
--   AfterLength most bytes Later status text    the input is too long; or what comes later is this
--   AfterReading bytes Later status text        the bytes have no reading as a document; or what comes later, for the
--                                               document that they read as, is this
--   AfterWidth s Later status text              a live triple is too wide; or what comes later is this
--   AfterAcceptance s Later status text         the specification is not accepted; or what comes later is this
--   IsRefusal bytes text                        the bytes have no reading, and the text is the line that says so
--   IsWidthRefusal s text                       a live triple has too many patterns, and the text names the first
--   IsReport s text                             the specification is not accepted, and the text is the report of its
--                                               analysis
--   longest_document                            the greatest number of bytes of an input that is a document
use Rattle.std.specs.Prelude.{◌≡◌, ℕ, ◌<◌, ◌≤◌, List, length, codes}
use Rattle.ipa_spec.specs.declared.specification.Specification.{Specification}
use Rattle.ipa_spec.specs.declared.operations.Action.{Action}
use Rattle.ipa_logic.specs.Acceptance.{IsAccepted}
use Rattle.ipa_pairs.specs.Width.{IsDeclared, IsFirstTooWide, IsNarrow}
use Rattle.ipa_pairs.specs.Analyses.{IsRejected}
use Rattle.ipa_pairs.specs.declared.analysis.Analysis.{Analysis}
use Rattle.ipa_reader.specs.Documents.{ReadsAs, IsRefused}
use Rattle.ipa_reader.specs.declared.document.Document.{Document}
use Rattle.ipa_reader.specs.declared.refusals.DocKind.{DocKind}
use Rattle.ipa_report.specs.Reports.{report_text}
use Rattle.ipa_report.specs.Refusals.{refusal_text, too_wide_text}
use Rattle.ipa_command.specs.declared.status.Status.{Status}
use Rattle.ipa_command.specs.declared.status.Status.TheVariants.{Rejected, Refused}

abbrev pub too_long_text : List ℕ
too_long_text = codes "refused: too long\n"

-- the bytes have no reading as a document, and the text is the line that says so
pub record IsRefusal (bytes text : List ℕ) : Type 0 where
  pub line : ℕ
  pub kind : DocKind
  pub refused : IsRefused bytes line kind
  pub text_is : text ≡ refusal_text line kind

-- a live triple has too many patterns, and the text names the first
pub record IsWidthRefusal (s : Specification) (text : List ℕ) : Type 0 where
  pub left : Action
  pub right : Action
  pub clause : ℕ
  pub count : ℕ
  pub first : IsFirstTooWide s (IsDeclared s) (record { left = left; right = right; clause = clause }) count
  pub text_is : text ≡ too_wide_text s left right clause count

-- the specification is not accepted, and the text is the report of its analysis
pub record IsReport (s : Specification) (text : List ℕ) : Type 0 where
  pub analysis : Analysis
  pub rejected : IsRejected s analysis
  pub text_is : text ≡ report_text s analysis

-- the input has more bytes than the command takes; or what comes later is this
pub data AfterLength (most : ℕ) (bytes : List ℕ) (Later : Status → List ℕ → Type 0) (status : Status)
    (text : List ℕ) : Type 0 where
  too_long : most < length bytes → status ≡ Refused → text ≡ too_long_text → AfterLength most bytes Later status text
  within : length bytes ≤ most → Later status text → AfterLength most bytes Later status text

-- the bytes have no reading as a document; or what comes later, for the document that they read as, is this
pub data AfterReading (bytes : List ℕ) (Later : Document → Status → List ℕ → Type 0) (status : Status)
    (text : List ℕ) : Type 0 where
  unread : status ≡ Refused → IsRefusal bytes text → AfterReading bytes Later status text
  read : (document : Document) → ReadsAs bytes document → Later document status text →
      AfterReading bytes Later status text

-- a live triple is too wide; or what comes later is this
pub data AfterWidth (s : Specification) (Later : Status → List ℕ → Type 0) (status : Status) (text : List ℕ) : Type 0
  where
    too_wide : status ≡ Refused → IsWidthRefusal s text → AfterWidth s Later status text
    narrow : IsNarrow s (IsDeclared s) → Later status text → AfterWidth s Later status text

-- the specification is not accepted; or what comes later is this
pub data AfterAcceptance (s : Specification) (Later : Status → List ℕ → Type 0) (status : Status) (text : List ℕ) :
    Type 0 where
  rejected : status ≡ Rejected → IsReport s text → AfterAcceptance s Later status text
  accepted : IsAccepted s → Later status text → AfterAcceptance s Later status text

-- nothing comes later: what is said of a step is one of its own cases
abbrev pub Nothing : Status → List ℕ → Type 0
Nothing status text = ⊥

-- the greatest number of bytes of an input that is a document
abbrev pub longest_document : ℕ
longest_document = 4194304
