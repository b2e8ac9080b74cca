-- What holds of the lines of a journal that have no fault.
--
--   IsAnswered s universe base h request o   the line reads a cut within the bounds, and tells the request's answer there
--   IsFalse s universe base h request o      it does not
--   IsGoodOut s requests h before o   an `out` line is good, behind these lines
--   AreGood s requests h outs         each `out` line is
--   IsComplete requests h outs        each request has its line, and each operation's entry is named
--   HasCommit outs origin number      a line of the session commits under this number
--   IsIncomplete requests h outs      a session has fewer lines than requests, or an entry is not named
use Rattle.std.specs.Prelude.{◌≡◌, ℕ, ◌<◌, ◌≤◌, List, length, take, slice_get, Some}
use Rattle.ipa_spec.specs.declared.specification.Specification.{Specification}
use Rattle.ipa_spec.specs.declared.operations.Action.TheVariants.{Op}
use Rattle.ipa_logic.specs.Facts.{Universe}
use Rattle.ipa_logic.specs.declared.facts.Fact.{Fact}
use Rattle.ipa_logic.specs.declared.facts.Request.{Request}
use Rattle.ipa_history.specs.Histories.{IsMember}
use Rattle.ipa_history.specs.Answers.{IsAnswer}
use Rattle.ipa_history.specs.LawfulEnds.{IsAt, IsReading, IsPast, IsEntered}
use Rattle.ipa_history.specs.declared.history.Tx.{Tx}
use Rattle.ipa_history.specs.declared.answers.Answer.TheVariants.{Commit}
use Rattle.ipa_gate.specs.Settings.{SettingParts}
use Rattle.ipa_journal.specs.declared.journal.OutLine.{OutLine}
use Rattle.ipa_audit.specs.Journals.{outcome_of}
use Rattle.ipa_audit.specs.Order.{IsNextLine, IsLastLine, count_in}
use Rattle.ipa_audit.specs.BadLines.{IsOver, IsMisanswered, IsUnentered}

-- the line reads a closed cut within the bounds, and tells the request's answer there; a commit names its entry
pub record IsAnswered (s : Specification) (universe : Universe) (base : List Fact) (h : List Tx) (request : Request)
    (o : OutLine) : Type 0 where
  pub reading : IsReading s base h o.cut
  pub answer : IsAnswer s universe base h o.cut o.session request o.answer
  pub entered : IsEntered h o.session o.cut request o.answer

-- one of these does not hold at a closed cut
pub data IsFalse (s : Specification) (universe : Universe) (base : List Fact) (h : List Tx) (request : Request)
    (o : OutLine) : Type 0 where
  over : IsOver s base h o.cut → IsFalse s universe base h request o
  misanswered : IsMisanswered s universe base h request o → IsFalse s universe base h request o
  unentered : IsUnentered h request o → IsFalse s universe base h request o

-- the line is good, behind these
pub record IsGoodOut (s : SettingParts) (requests : List (List Request)) (h : List Tx) (before : List OutLine)
    (o : OutLine) : Type 0 where
  pub next : IsNextLine requests before o
  pub request : Request
  pub asked : IsAt requests o.session o.place request
  pub past : (line : OutLine) → IsLastLine o.session before line → IsPast o.session (outcome_of line) (outcome_of o)
  pub answered : IsAnswered s.spec s.universe s.base h request o

-- each line is
pub record AreGood (s : SettingParts) (requests : List (List Request)) (h : List Tx) (outs : List OutLine) : Type 0 where
  pub each : (k : ℕ) (o : OutLine) → slice_get outs k ≡ Some o → IsGoodOut s requests h (take k outs) o

-- a line of the session commits under this number
pub record HasCommit (outs : List OutLine) (origin number : ℕ) : Type 0 where
  pub line : OutLine
  pub member : IsMember outs line
  pub session : line.session ≡ origin
  pub commits : line.answer ≡ Commit number

-- each session has as many lines as requests
pub record AreAllAnswered (requests : List (List Request)) (outs : List OutLine) : Type 0 where
  pub each : (i : ℕ) (asked : List Request) → slice_get requests i ≡ Some asked → length asked ≤ count_in outs i

-- each operation's entry is named by a commit
pub record AreAllNamed (h : List Tx) (outs : List OutLine) : Type 0 where
  pub each : (t : Tx) (op : ℕ) → IsMember h t → t.action ≡ Op op → HasCommit outs t.dot.origin t.dot.number

-- both
pub record IsComplete (requests : List (List Request)) (h : List Tx) (outs : List OutLine) : Type 0 where
  pub answered : AreAllAnswered requests outs
  pub named : AreAllNamed h outs

-- a session with fewer lines than requests
pub record HasFewer (requests : List (List Request)) (outs : List OutLine) : Type 0 where
  pub session : ℕ
  pub asked : List Request
  pub at : slice_get requests session ≡ Some asked
  pub fewer : count_in outs session < length asked

-- an operation's entry that no line commits
pub record HasNameless (h : List Tx) (outs : List OutLine) : Type 0 where
  pub tx : Tx
  pub op : ℕ
  pub member : IsMember h tx
  pub operation : tx.action ≡ Op op
  pub none : HasCommit outs tx.dot.origin tx.dot.number → ⊥

-- one of the two
pub data IsIncomplete (requests : List (List Request)) (h : List Tx) (outs : List OutLine) : Type 0 where
  fewer : HasFewer requests outs → IsIncomplete requests h outs
  nameless : HasNameless h outs → IsIncomplete requests h outs
