-- What has a line in a journal that says it whole.
--
--   IsSetting s sizes es n       a faultless specification, the sizes and the names of the elements of each sort, and
--                                the number of sessions
--   IsCutOf n cut                a cut of n origins: it counts none of the origins past them
--   IsWritableTx s sizes n t     a transaction of one of n origins, with its action's arguments
--   IsWritableReason s sizes r   a reason that names what the specification has
--   IsWritableAnswer s sizes a   an answer with such a reason, or with a state over the sizes
--   IsWritableOut s sizes n o    an outcome of one of n sessions
--   IsWritable s sizes n txs outs last   transactions, outcomes and final facts that are so
--   HaveAllOrigins entries outcomes   each cut has a count for each of the 16 origins
--   AreCounted requests          each place of a request can be written
use Rattle.std.specs.Prelude.{◌≡◌, ℕ, ◌+◌, ◌<◌, ◌≤◌, ◌^◌, false, List, length, slice_get, Some}
use Rattle.std.specs.List.{All}
use Rattle.ipa_clock.specs.Cut.{count_of}
use Rattle.ipa_clock.specs.Laws.{HasAllOrigins}
use Rattle.ipa_clock.specs.declared.cut.Cut.{Cut}
use Rattle.ipa_spec.specs.Actions.{IsAction, sorts_of}
use Rattle.ipa_spec.specs.Faults.{has_repeat}
use Rattle.ipa_spec.specs.Limits.{IsFaultless}
use Rattle.ipa_spec.specs.declared.names.Name.{Name}
use Rattle.ipa_spec.specs.declared.predicates.Predicate.{Predicate}
use Rattle.ipa_spec.specs.declared.clauses.Clause.{Clause}
use Rattle.ipa_spec.specs.declared.specification.Specification.{Specification}
use Rattle.ipa_logic.specs.Facts.{Universe, IsState}
use Rattle.ipa_logic.specs.Truth.{IsArguments, IsValues}
use Rattle.ipa_logic.specs.declared.facts.Broken.{Broken}
use Rattle.ipa_logic.specs.declared.facts.Fact.{Fact}
use Rattle.ipa_logic.specs.declared.facts.Request.{Request}
use Rattle.ipa_history.specs.Histories.{IsMember}
use Rattle.ipa_history.specs.LawfulEnds.{IsAt}
use Rattle.ipa_history.specs.declared.history.Tx.{Tx}
use Rattle.ipa_history.specs.declared.outcomes.Outcome.{Outcome}
use Rattle.ipa_history.specs.declared.reasons.Reason.{Reason}
use Rattle.ipa_history.specs.declared.reasons.Reason.TheVariants.{NotWithin, Need, Clause as Breaks, Over, NotTheDrop}
use Rattle.ipa_history.specs.declared.answers.Answer.{Answer}
use Rattle.ipa_history.specs.declared.answers.Answer.TheVariants.{Commit, Refused, Shown}
use Rattle.ipa_reader.specs.Arrangements.{elements_at}
use Rattle.ipa_reader.specs.Setups.{size_list}
use Rattle.ipa_journal.specs.declared.journal.OutLine.{OutLine}

-- each place of a predicate has a sort, and no list of elements has a name twice
pub record IsSetting (s : Specification) (sizes : Universe) (es : List (List Name)) (n : ℕ) : Type 0 where
  pub faultless : IsFaultless s
  pub places : (k : ℕ) (p : Predicate) → slice_get s.predicates k ≡ Some p → p.arity ≤ length p.sorts
  pub sizes_are : sizes ≡ size_list es
  pub apart : (sort : ℕ) → has_repeat (λ name. name) (elements_at es sort) ≡ false
  pub sessions : n ≤ 16

pub record IsCutOf (n : ℕ) (cut : Cut) : Type 0 where
  pub width : length cut.counts ≡ 16
  pub counts : (origin : ℕ) → count_of cut origin < 2 ^ 32
  pub none_past : (origin : ℕ) → n ≤ origin → count_of cut origin ≡ 0

pub record IsWritableTx (s : Specification) (sizes : Universe) (n : ℕ) (t : Tx) : Type 0 where
  pub origin : t.dot.origin < n
  pub number : t.dot.number < 2 ^ 32
  pub cut : IsCutOf n t.cut
  pub action : IsAction s t.action
  pub args : IsArguments s sizes t.action t.args
  pub count : t.count ≡ length (sorts_of s t.action)

-- values of the variables of a declared clause
pub record IsInstance (s : Specification) (sizes : Universe) (b : Broken) : Type 0 where
  pub clause : Clause
  pub declared : slice_get s.clauses b.clause ≡ Some clause
  pub values : IsValues sizes clause b.values

-- an operation has at most six needs
abbrev pub IsWritableReason : Specification → Universe → Reason → Type 0
IsWritableReason s sizes (NotWithin n) = n < length s.bounds
IsWritableReason s sizes (Need k) = k < 6
IsWritableReason s sizes (Breaks b) = IsInstance s sizes b
IsWritableReason s sizes (Over n) = n < length s.bounds
IsWritableReason s sizes NotTheDrop = Unit {0}

abbrev pub IsWritableAnswer : Specification → Universe → Answer → Type 0
IsWritableAnswer s sizes (Commit number) = number < 2 ^ 32
IsWritableAnswer s sizes (Refused reason) = IsWritableReason s sizes reason
IsWritableAnswer s sizes (Shown state) = IsState s sizes state

pub record IsWritableOut (s : Specification) (sizes : Universe) (n : ℕ) (o : OutLine) : Type 0 where
  pub session : o.session < n
  pub place : o.place + 1 < 2 ^ 32
  pub cut : IsCutOf n o.cut
  pub answer : IsWritableAnswer s sizes o.answer

pub record IsWritable (s : Specification) (sizes : Universe) (n : ℕ) (txs : List Tx) (outs : List OutLine)
    (last : List Fact) : Type 0 where
  pub transactions : All (IsWritableTx s sizes n) txs
  pub outcomes : All (IsWritableOut s sizes n) outs
  pub last_facts : IsState s sizes last

-- each cut has a count for each of the 16 origins, as cuts have by their type
pub record HaveAllOrigins (entries : List Tx) (outcomes : List (List Outcome)) : Type 0 where
  pub seen : (t : Tx) → IsMember entries t → HasAllOrigins t.cut
  pub read : (i k : ℕ) (o : Outcome) → IsAt outcomes i k o → HasAllOrigins o.cut

-- no session has 2 ^ 32 requests
pub record AreCounted (requests : List (List Request)) : Type 0 where
  pub each : (i : ℕ) (own : List Request) → slice_get requests i ≡ Some own → length own < 2 ^ 32
