-- The first bad line of a journal, and its fault. The lines count in the order of the transactions, then of the
-- outcomes, and then that of the final facts.
--
--   IsTxFault s h t fault        a log of these entries refuses the transaction, or knows it
--   AreTaken s lines             a log of the lines before takes each transaction as new
--   IsFirstBadTx s lines line fault   the first `tx` line that is not taken so
--   IsUnasked requests o         the line names a request that is not there
--   IsOver s base h c            the state at the cut is not within the bounds
--   IsBehind before o            the cut is not past the session's `out` line before
--   IsMisanswered s universe base h request o   the result is other than the request's answer at the cut
--   IsUnentered h request o      the result is a commit that names no entry
--   IsBadOut s requests h before o   one of the cases of a bad `out` line, behind these lines
--   NoneBad s requests h outs    no `out` line is bad
--   IsFirstBadOut s requests h outs line   the first that is
--   IsMissing requests h outs    a request has no `out` line, or no commit names an operation's entry
--   IsBadAt s requests j line fault   the journal's first bad line, and its fault
use Rattle.std.specs.Prelude.{◌≡◌, ℕ, ◌≤◌, List, take, slice_get, Some}
use Rattle.ipa_clock.specs.declared.cut.Cut.{Cut}
use Rattle.ipa_clock.specs.Cut.{count_of}
use Rattle.ipa_spec.specs.declared.specification.Specification.{Specification}
use Rattle.ipa_spec.specs.declared.operations.Action.TheVariants.{Op}
use Rattle.ipa_logic.specs.Facts.{Universe, IsStateOf}
use Rattle.ipa_logic.specs.Groups.{Within}
use Rattle.ipa_logic.specs.declared.facts.Fact.{Fact}
use Rattle.ipa_logic.specs.declared.facts.Request.{Request}
use Rattle.ipa_history.specs.Histories.{IsMember, IsClosed, number_of}
use Rattle.ipa_history.specs.Values.{value_of, value_at}
use Rattle.ipa_history.specs.Answers.{IsAnswer}
use Rattle.ipa_history.specs.LawfulEnds.{IsAt, IsPast, IsEntered, IsNamedBy}
use Rattle.ipa_history.specs.declared.history.Tx.{Tx}
use Rattle.ipa_history.specs.declared.answers.Answer.{Answer}
use Rattle.ipa_history.specs.declared.outcomes.Outcome.{Outcome as TheOutcome}
use Rattle.ipa_gate.specs.Settings.{SettingParts}
use Rattle.ipa_gate.specs.Offers.{IsAdmitted, IsOfferFault}
use Rattle.ipa_gate.specs.declared.answers.OfferFault.{OfferFault}
use Rattle.ipa_gate.specs.declared.answers.OfferFault.TheVariants.{Shape, Differs, Gap, OpenCut, Full, Illegal, NoMemory}
use Rattle.ipa_journal.specs.declared.journal.Journal.{Journal}
use Rattle.ipa_journal.specs.declared.journal.TxLine.{TxLine}
use Rattle.ipa_journal.specs.declared.journal.OutLine.{OutLine}
use Rattle.ipa_audit.specs.Journals.{txs_of, outcome_of, outcomes_by}
use Rattle.ipa_audit.specs.Order.{IsNextLine, IsLastLine}
use Rattle.ipa_audit.specs.declared.verdict.AuditFault.{AuditFault}
use Rattle.ipa_audit.specs.declared.verdict.AuditFault.TheVariants.{Offer, Repeated, Outcome, Missing, Final}

-- the fault of an offer; want of memory is none
abbrev pub IsRefusal : SettingParts → List Tx → Tx → OfferFault → Type 0
IsRefusal s h t Shape = IsOfferFault s h t Shape
IsRefusal s h t (Differs here there) = IsOfferFault s h t (Differs here there)
IsRefusal s h t (Gap origin have need) = IsOfferFault s h t (Gap origin have need)
IsRefusal s h t (OpenCut member) = IsOfferFault s h t (OpenCut member)
IsRefusal s h t Full = IsOfferFault s h t Full
IsRefusal s h t (Illegal r) = IsOfferFault s h t (Illegal r)
IsRefusal s h t NoMemory = ⊥

-- a log of these entries refuses the transaction, or knows it
abbrev pub IsTxFault : SettingParts → List Tx → Tx → AuditFault → Type 0
IsTxFault s h t (Offer fault) = IsRefusal s h t fault
IsTxFault s h t Repeated = IsMember h t
IsTxFault s h t Outcome = ⊥
IsTxFault s h t Missing = ⊥
IsTxFault s h t Final = ⊥

-- a log of the lines before takes each transaction as new
pub record AreTaken (s : SettingParts) (lines : List TxLine) : Type 0 where
  pub each : (k : ℕ) (entry : TxLine) → slice_get lines k ≡ Some entry → IsAdmitted s (txs_of (take k lines)) entry.tx

-- the first transaction that a log of the lines before does not take as new
pub record IsFirstBadTx (s : SettingParts) (lines : List TxLine) (line : ℕ) (fault : AuditFault) : Type 0 where
  pub place : ℕ
  pub entry : TxLine
  pub at : slice_get lines place ≡ Some entry
  pub earlier : AreTaken s (take place lines)
  pub line_is : line ≡ entry.line
  pub fault_is : IsTxFault s (txs_of (take place lines)) entry.tx fault

-- the line names a request that is not there
pub record IsUnasked (requests : List (List Request)) (o : OutLine) : Type 0 where
  pub none : (request : Request) → IsAt requests o.session o.place request → ⊥

-- the state at the cut is not within the bounds
pub record IsOver (s : Specification) (base : List Fact) (h : List Tx) (c : Cut) : Type 0 where
  pub state : List Fact
  pub at : IsStateOf (value_at s base h c) state
  pub over : Within s.bounds state → ⊥

-- the cut does not cover the cut and the commit of the session's `out` line before
pub record IsBehind (before : List OutLine) (o : OutLine) : Type 0 where
  pub line : OutLine
  pub last : IsLastLine o.session before line
  pub behind : IsPast o.session (outcome_of line) (outcome_of o) → ⊥

-- the result is other than the request's answer at the cut
pub record IsMisanswered (s : Specification) (universe : Universe) (base : List Fact) (h : List Tx) (request : Request)
    (o : OutLine) : Type 0 where
  pub answer : Answer
  pub answered : IsAnswer s universe base h o.cut o.session request answer
  pub other : o.answer ≡ answer → ⊥

-- the result is a commit, and no entry has that origin and number with that cut, operation and arguments
pub record IsUnentered (h : List Tx) (request : Request) (o : OutLine) : Type 0 where
  pub none : IsEntered h o.session o.cut request o.answer → ⊥

-- the cut is covered by the entries
abbrev pub IsCovered : List Tx → Cut → Type 0
IsCovered h c = (origin : ℕ) → count_of c origin ≤ number_of origin h

-- one of the cases of a bad line, behind these
pub data IsBadOut (s : SettingParts) (requests : List (List Request)) (h : List Tx) (before : List OutLine)
    (o : OutLine) : Type 0 where
  misplaced : (IsNextLine requests before o → ⊥) → IsBadOut s requests h before o
  unasked : IsUnasked requests o → IsBadOut s requests h before o
  uncovered : (IsCovered h o.cut → ⊥) → IsBadOut s requests h before o
  open_cut : (IsClosed h o.cut → ⊥) → IsBadOut s requests h before o
  over : IsOver s.spec s.base h o.cut → IsBadOut s requests h before o
  behind : IsBehind before o → IsBadOut s requests h before o
  misanswered : (request : Request) → IsAt requests o.session o.place request →
      IsMisanswered s.spec s.universe s.base h request o → IsBadOut s requests h before o
  unentered : (request : Request) → IsAt requests o.session o.place request → IsUnentered h request o →
      IsBadOut s requests h before o

-- no line is bad, behind those before it
pub record NoneBad (s : SettingParts) (requests : List (List Request)) (h : List Tx) (outs : List OutLine) : Type 0 where
  pub each : (k : ℕ) (o : OutLine) → slice_get outs k ≡ Some o → IsBadOut s requests h (take k outs) o → ⊥

-- the first line that is bad
pub record IsFirstBadOut (s : SettingParts) (requests : List (List Request)) (h : List Tx) (outs : List OutLine)
    (line : ℕ) : Type 0 where
  pub place : ℕ
  pub out : OutLine
  pub at : slice_get outs place ≡ Some out
  pub earlier : NoneBad s requests h (take place outs)
  pub line_is : line ≡ out.line
  pub bad : IsBadOut s requests h (take place outs) out

-- a request without an `out` line
pub record HasUnanswered (requests : List (List Request)) (outs : List OutLine) : Type 0 where
  pub session : ℕ
  pub place : ℕ
  pub request : Request
  pub asked : IsAt requests session place request
  pub none : (outcome : TheOutcome) → IsAt (outcomes_by requests outs) session place outcome → ⊥

-- an operation's entry that no commit names
pub record HasUnnamed (requests : List (List Request)) (h : List Tx) (outs : List OutLine) : Type 0 where
  pub tx : Tx
  pub op : ℕ
  pub member : IsMember h tx
  pub operation : tx.action ≡ Op op
  pub none : IsNamedBy (outcomes_by requests outs) tx → ⊥

-- a request has no `out` line, or an operation's entry is named by no commit
pub data IsMissing (requests : List (List Request)) (h : List Tx) (outs : List OutLine) : Type 0 where
  unanswered : HasUnanswered requests outs → IsMissing requests h outs
  unnamed : HasUnnamed requests h outs → IsMissing requests h outs

-- all transactions are taken, and this is the line of the first bad outcome
pub record IsBadOutcome (s : SettingParts) (requests : List (List Request)) (j : Journal) (line : ℕ) : Type 0 where
  pub taken : AreTaken s j.transactions
  pub first : IsFirstBadOut s requests (txs_of j.transactions) j.outcomes line

-- all lines before the final facts are good, and this is the line of those
pub record IsAtEnd (s : SettingParts) (requests : List (List Request)) (j : Journal) (line : ℕ) : Type 0 where
  pub taken : AreTaken s j.transactions
  pub outcomes : NoneBad s requests (txs_of j.transactions) j.outcomes
  pub line_is : line ≡ j.last_line

-- at the end something is missing
pub record IsMissingAt (s : SettingParts) (requests : List (List Request)) (j : Journal) (line : ℕ) : Type 0 where
  pub end : IsAtEnd s requests j line
  pub missing : IsMissing requests (txs_of j.transactions) j.outcomes

-- at the end nothing is missing, and the final facts are not the state at the cut of all entries
pub record IsWrongAt (s : SettingParts) (requests : List (List Request)) (j : Journal) (line : ℕ) : Type 0 where
  pub end : IsAtEnd s requests j line
  pub complete : IsMissing requests (txs_of j.transactions) j.outcomes → ⊥
  pub wrong : IsStateOf (value_of s.spec s.base (txs_of j.transactions)) j.last → ⊥

-- the first bad line, and its fault
abbrev pub IsBadAt : SettingParts → List (List Request) → Journal → ℕ → AuditFault → Type 0
IsBadAt s requests j line (Offer fault) = IsFirstBadTx s j.transactions line (Offer fault)
IsBadAt s requests j line Repeated = IsFirstBadTx s j.transactions line Repeated
IsBadAt s requests j line Outcome = IsBadOutcome s requests j line
IsBadAt s requests j line Missing = IsMissingAt s requests j line
IsBadAt s requests j line Final = IsWrongAt s requests j line
