-- Ends of a run that are lawful for the sessions' lists of requests.
--
--   IsShaped s universe sessions t   the fields of a transaction fit the specification, the universe and the sessions
--   IsAt xss i j x           x stands in place j of list i
--   IsReading s base h cut   a closed cut of the entries whose state is within the bounds
--   IsPast session earlier later   the later outcome's cut covers the cut and the commit of the earlier one
--   IsEntryOf h session number cut op args   the entries have the transaction of a commit
--   IsEntered                a commit names an entry
--   IsNamedBy outcomes t     a commit names the entry
--   IsLawfulEnd s universe base requests entries outcomes last   all six parts
--
-- A session has the number of its origin. The lists of requests and of outcomes have one list a session.
use Rattle.std.specs.Prelude.{◌≡◌, ℕ, ◌+◌, ◌<◌, ◌≤◌, List, length, slice_get, Some}
use Rattle.ipa_clock.specs.declared.cut.Cut.{Cut}
use Rattle.ipa_clock.specs.Cut.{count_of, Covers, IsBelow}
use Rattle.ipa_spec.specs.Actions.{sorts_of}
use Rattle.ipa_spec.specs.declared.specification.Specification.{Specification}
use Rattle.ipa_spec.specs.declared.operations.Action.TheVariants.{Op}
use Rattle.ipa_logic.specs.Facts.{Universe, IsStateOf}
use Rattle.ipa_logic.specs.Groups.{Within}
use Rattle.ipa_logic.specs.declared.facts.Fact.{Fact}
use Rattle.ipa_logic.specs.declared.facts.Request.{Request}
use Rattle.ipa_logic.specs.declared.facts.Request.TheVariants.{Do, Show}
use Rattle.ipa_history.specs.Histories.{IsMember, IsClosed}
use Rattle.ipa_history.specs.Values.{value_of, value_at}
use Rattle.ipa_history.specs.Legality.{IsFitting, IsLegalHistory}
use Rattle.ipa_history.specs.Answers.{IsAnswer}
use Rattle.ipa_history.specs.declared.history.Tx.{Tx}
use Rattle.ipa_history.specs.declared.answers.Answer.{Answer}
use Rattle.ipa_history.specs.declared.answers.Answer.TheVariants.{Commit, Refused, Shown}
use Rattle.ipa_history.specs.declared.outcomes.Outcome.{Outcome}

-- the origin is a session and the cut counts sessions alone; the number is not 0 and is the next of its origin in the
-- cut; the action is declared and has its number of arguments, elements of their sorts with 0 past them
pub record IsShaped (s : Specification) (universe : Universe) (sessions : ℕ) (t : Tx) : Type 0 where
  pub origin : t.dot.origin < sessions
  pub others : (origin : ℕ) → sessions ≤ origin → count_of t.cut origin ≡ 0
  pub number : 0 < t.dot.number
  pub own : count_of t.cut t.dot.origin + 1 ≡ t.dot.number
  pub fitting : IsFitting s universe t
  pub count : t.count ≡ length (sorts_of s t.action)

-- x stands in place j of list i
pub record IsAt {X : Type 0} (xss : List (List X)) (i j : ℕ) (x : X) : Type 0 where
  pub list : List X
  pub list_at : slice_get xss i ≡ Some list
  pub at : slice_get list j ≡ Some x

-- a closed cut of the entries whose state is within the bounds
pub record IsReading (s : Specification) (base : List Fact) (h : List Tx) (cut : Cut) : Type 0 where
  pub closed : IsClosed h cut
  pub state : List Fact
  pub at : IsStateOf (value_at s base h cut) state
  pub within : Within s.bounds state

-- the later outcome's cut covers the cut and the commit of the session's earlier one
pub record IsPast (session : ℕ) (earlier later : Outcome) : Type 0 where
  pub cut : IsBelow earlier.cut later.cut
  pub commit : (number : ℕ) → earlier.answer ≡ Commit number →
      Covers later.cut (record { origin = session; number = number })

-- the entries have a transaction with this origin, number, cut, operation and arguments
pub record IsEntryOf (h : List Tx) (session number : ℕ) (cut : Cut) (op : ℕ) (args : List ℕ) : Type 0 where
  pub tx : Tx
  pub member : IsMember h tx
  pub dot : tx.dot ≡ record { origin = session; number = number }
  pub cut_is : tx.cut ≡ cut
  pub action : tx.action ≡ Op op
  pub args_are : tx.args ≡ args

-- a commit of an operation names its entry
abbrev pub IsEnteredDo : List Tx → ℕ → Cut → ℕ → List ℕ → Answer → Type 0
IsEnteredDo h session cut op args (Commit number) = IsEntryOf h session number cut op args
IsEnteredDo h session cut op args (Refused reason) = Unit {0}
IsEnteredDo h session cut op args (Shown state) = Unit {0}

-- where the answer of the request is a commit, it names an entry
abbrev pub IsEntered : List Tx → ℕ → Cut → Request → Answer → Type 0
IsEntered h session cut (Do op args) answer = IsEnteredDo h session cut op args answer
IsEntered h session cut (Show predicate places) answer = Unit {0}

-- an outcome of the entry's origin is its commit
pub record IsNamedBy (outcomes : List (List Outcome)) (t : Tx) : Type 0 where
  pub place : ℕ
  pub outcome : Outcome
  pub at : IsAt outcomes t.dot.origin place outcome
  pub commits : outcome.answer ≡ Commit t.dot.number

-- the entries are a legal history with at most 65536 members, and each has its shape
pub record AreEntries (s : Specification) (universe : Universe) (base : List Fact) (sessions : ℕ)
    (h : List Tx) : Type 0 where
  pub legal : IsLegalHistory s universe base h
  pub few : length h ≤ 65536
  pub shaped : (t : Tx) → IsMember h t → IsShaped s universe sessions t

-- each session has one outcome for each of its requests
pub record AreAnswered (requests : List (List Request)) (outcomes : List (List Outcome)) : Type 0 where
  pub sessions : length outcomes ≡ length requests
  pub places : (i : ℕ) (asked : List Request) (answered : List Outcome) →
      slice_get requests i ≡ Some asked → slice_get outcomes i ≡ Some answered → length answered ≡ length asked

-- each outcome reads a closed cut within the bounds, which is past the session's outcome before it
pub record AreRead (s : Specification) (base : List Fact) (h : List Tx) (outcomes : List (List Outcome)) : Type 0 where
  pub reading : (session place : ℕ) (outcome : Outcome) → IsAt outcomes session place outcome →
      IsReading s base h outcome.cut
  pub past : (session place : ℕ) (earlier later : Outcome) → IsAt outcomes session place earlier →
      IsAt outcomes session (place + 1) later → IsPast session earlier later

-- each outcome's answer is that of its request at its cut, and where it is a commit, it names an entry
pub record AreAnswers (s : Specification) (universe : Universe) (base : List Fact) (requests : List (List Request))
    (h : List Tx) (outcomes : List (List Outcome)) : Type 0 where
  pub answers : (session place : ℕ) (request : Request) (outcome : Outcome) → IsAt requests session place request →
      IsAt outcomes session place outcome → IsAnswer s universe base h outcome.cut session request outcome.answer
  pub entered : (session place : ℕ) (request : Request) (outcome : Outcome) → IsAt requests session place request →
      IsAt outcomes session place outcome → IsEntered h session outcome.cut request outcome.answer

-- the entries, outcomes and final facts are lawful for the sessions' lists of requests
pub record IsLawfulEnd (s : Specification) (universe : Universe) (base : List Fact) (requests : List (List Request))
    (entries : List Tx) (outcomes : List (List Outcome)) (last : List Fact) : Type 0 where
  pub entries_are : AreEntries s universe base (length requests) entries
  pub answered : AreAnswered requests outcomes
  pub read : AreRead s base entries outcomes
  pub answers : AreAnswers s universe base requests entries outcomes
  pub named : (t : Tx) (op : ℕ) → IsMember entries t → t.action ≡ Op op → IsNamedBy outcomes t
  pub last_facts : IsStateOf (value_of s base entries) last
