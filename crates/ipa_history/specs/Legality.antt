-- When a transaction is legal, and when a history is.
--
--   IsLegalOperation, IsLegalDrop   between the state at its cut and the state with it added
--   IsLegalAs               either, by its action
--   IsOperationReason, IsDropReason   the first reason why such a one is not legal
--   IsReasonAs              either, by its action
--   IsLegal s universe base h t     the transaction is legal at its cut of the history
--   IsIllegal s universe base h t r   and r is the first reason why it is not
--   IsFitting s universe t   its action is declared, and its arguments are elements of their sorts
--   IsLegalHistory s universe base h   the base keeps clauses and bounds, and each member is legal
--
-- `members` are those of the transaction's cut, by which a fact of the state before has its age.
use Rattle.std.specs.Prelude.{◌≡◌, ℕ, List, [], ◌∷◌, ◌++◌, take, slice_get, Some}
use Rattle.ipa_spec.specs.Actions.{IsAction}
use Rattle.ipa_spec.specs.declared.specification.Specification.{Specification}
use Rattle.ipa_spec.specs.declared.bounds.Bound.{Bound}
use Rattle.ipa_spec.specs.declared.operations.Action.{Action}
use Rattle.ipa_spec.specs.declared.operations.Action.TheVariants.{Op, Drop}
use Rattle.ipa_logic.specs.Facts.{Universe, IsUniverse, IsState, IsStateOf, has}
use Rattle.ipa_logic.specs.Truth.{IsArguments, Keeps, IsFirstBroken}
use Rattle.ipa_logic.specs.Touches.{NeedsHold, IsFirstFailing}
use Rattle.ipa_logic.specs.Groups.{Within}
use Rattle.ipa_logic.specs.DueDrops.{IsFirstOver, IsDueDrop}
use Rattle.ipa_logic.specs.Acceptance.{drop_fact}
use Rattle.ipa_logic.specs.declared.facts.Fact.{Fact}
use Rattle.ipa_logic.specs.declared.facts.Broken.{Broken}
use Rattle.ipa_history.specs.Histories.{IsMember, IsHistory, members_of}
use Rattle.ipa_history.specs.Values.{value_of}
use Rattle.ipa_history.specs.Ages.{age_of}
use Rattle.ipa_history.specs.declared.history.Tx.{Tx}
use Rattle.ipa_history.specs.declared.reasons.Reason.{Reason}
use Rattle.ipa_history.specs.declared.reasons.Reason.TheVariants.{NotWithin, Need, Clause as Breaks, Over, NotTheDrop}

-- an operation: the state before is within the bounds and meets its needs, and the state after keeps clauses and bounds
pub record IsLegalOperation (s : Specification) (universe : Universe) (t : Tx) (before after : List Fact) : Type 0 where
  pub within_before : Within s.bounds before
  pub needs : NeedsHold s (has before) t.action t.args
  pub keeps : Keeps s universe (has after)
  pub within_after : Within s.bounds after

-- the drop of this bound with the transaction's arguments is the one that is due
pub record IsDropOf (s : Specification) (n : ℕ) (members : List Tx) (t : Tx) (before : List Fact) : Type 0 where
  pub bound : Bound
  pub declared : slice_get s.bounds n ≡ Some bound
  pub due : IsDueDrop s.bounds before (age_of s members) n (drop_fact s bound t.args)

-- a drop: it is due in the state before, and the state after keeps the clauses
pub record IsLegalDrop (s : Specification) (universe : Universe) (n : ℕ) (members : List Tx) (t : Tx)
    (before after : List Fact) : Type 0 where
  pub due : IsDropOf s n members t before
  pub keeps : Keeps s universe (has after)

-- the transaction is legal between these states
abbrev pub IsLegalAs : Action → Specification → Universe → List Tx → Tx → List Fact → List Fact → Type 0
IsLegalAs (Op n) s universe members t before after = IsLegalOperation s universe t before after
IsLegalAs (Drop n) s universe members t before after = IsLegalDrop s universe n members t before after

-- the state before is within the bounds, and need k is the first that fails there
pub record NeedFails (s : Specification) (t : Tx) (before : List Fact) (k : ℕ) : Type 0 where
  pub within_before : Within s.bounds before
  pub first : IsFirstFailing s (has before) t.action t.args k

-- the operation may be done in the state before, and this instance is the first that is broken after it
pub record OperationBreaks (s : Specification) (universe : Universe) (t : Tx) (before after : List Fact)
    (b : Broken) : Type 0 where
  pub within_before : Within s.bounds before
  pub needs : NeedsHold s (has before) t.action t.args
  pub first : IsFirstBroken s universe (has after) b.clause b.values

-- the operation may be done and keeps the clauses, and bound n is the first that is over after it
pub record OperationExceeds (s : Specification) (universe : Universe) (t : Tx) (before after : List Fact)
    (n : ℕ) : Type 0 where
  pub within_before : Within s.bounds before
  pub needs : NeedsHold s (has before) t.action t.args
  pub keeps : Keeps s universe (has after)
  pub first : IsFirstOver s.bounds after n

-- the drop is due, and this instance is the first that is broken after it
pub record DropBreaksAt (s : Specification) (universe : Universe) (n : ℕ) (members : List Tx) (t : Tx)
    (before after : List Fact) (b : Broken) : Type 0 where
  pub due : IsDropOf s n members t before
  pub first : IsFirstBroken s universe (has after) b.clause b.values

-- the first reason why an operation is not legal
abbrev pub IsOperationReason : Specification → Universe → Tx → List Fact → List Fact → Reason → Type 0
IsOperationReason s universe t before after (NotWithin n) = IsFirstOver s.bounds before n
IsOperationReason s universe t before after (Need k) = NeedFails s t before k
IsOperationReason s universe t before after (Breaks b) = OperationBreaks s universe t before after b
IsOperationReason s universe t before after (Over n) = OperationExceeds s universe t before after n
IsOperationReason s universe t before after NotTheDrop = ⊥

-- the first reason why a drop is not legal
abbrev pub IsDropReason : Specification → Universe → ℕ → List Tx → Tx → List Fact → List Fact → Reason → Type 0
IsDropReason s universe n members t before after (NotWithin m) = ⊥
IsDropReason s universe n members t before after (Need k) = ⊥
IsDropReason s universe n members t before after (Breaks b) = DropBreaksAt s universe n members t before after b
IsDropReason s universe n members t before after (Over m) = ⊥
IsDropReason s universe n members t before after NotTheDrop = IsDropOf s n members t before → ⊥

-- the first reason why the transaction is not legal between these states
abbrev pub IsReasonAs : Action → Specification → Universe → List Tx → Tx → List Fact → List Fact → Reason → Type 0
IsReasonAs (Op n) s universe members t before after r = IsOperationReason s universe t before after r
IsReasonAs (Drop n) s universe members t before after r = IsDropReason s universe n members t before after r

-- the transaction is legal at its cut of the history
pub record IsLegal (s : Specification) (universe : Universe) (base : List Fact) (h : List Tx) (t : Tx) : Type 0 where
  pub before : List Fact
  pub after : List Fact
  pub state_before : IsStateOf (value_of s base (members_of h t.cut)) before
  pub state_after : IsStateOf (value_of s base (members_of h t.cut ++ t ∷ [])) after
  pub legal : IsLegalAs t.action s universe (members_of h t.cut) t before after

-- this is the first reason why the transaction is not legal at its cut of the history
pub record IsIllegal (s : Specification) (universe : Universe) (base : List Fact) (h : List Tx) (t : Tx)
    (r : Reason) : Type 0 where
  pub before : List Fact
  pub after : List Fact
  pub state_before : IsStateOf (value_of s base (members_of h t.cut)) before
  pub state_after : IsStateOf (value_of s base (members_of h t.cut ++ t ∷ [])) after
  pub reason : IsReasonAs t.action s universe (members_of h t.cut) t before after r

-- the action of the transaction is declared, and its arguments are elements of their sorts
pub record IsFitting (s : Specification) (universe : Universe) (t : Tx) : Type 0 where
  pub declared : IsAction s t.action
  pub arguments : IsArguments s universe t.action t.args

-- the base is a state that keeps clauses and bounds, and each member is legal in what stands before it
pub record IsLegalHistory (s : Specification) (universe : Universe) (base : List Fact) (h : List Tx) : Type 0 where
  pub history : IsHistory h
  pub sizes : IsUniverse s universe
  pub base_state : IsState s universe base
  pub base_keeps : Keeps s universe (has base)
  pub base_within : Within s.bounds base
  pub fitting : (t : Tx) → IsMember h t → IsFitting s universe t
  pub legal : (k : ℕ) (t : Tx) → slice_get h k ≡ Some t → IsLegal s universe base (take k h) t
