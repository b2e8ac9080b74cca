-- What a change of a specification leaves as it was.
--
--   shape_of p, shape_at ps n   what a predicate has beside its name and its rule; the same of the predicate of a number
--   HasSameFrame s next         the same sorts, constants, clauses and bounds, as many operations, and predicates of the same
--                               shapes: only effects and rules may differ
--   DoesSame s next action      the action has the same parameters, needs and effects
--   IsJudgedSame s next l       the literal wins in both or in neither, and can be falsified in both or in neither
--   IsClauseJudgedSame s next c   each literal of the clause is
--   IsAlike s next left right k   all of this for a triple: it is judged by nothing else
--   same_judgement s next l     the test that a literal is judged the same
--   leaves_alone, is_untouched  a candidate adds no effect to an operation; some add none to an action
use Rattle.std.specs.Prelude.{◌≡◌, ℕ, Bool, true, not, ◌&&◌, ◌==◌, List, length, slice_get, Option, Some}
use Rattle.std.specs.List.{list_all}
use Rattle.std.specs.Option.{option_map}
use Rattle.ipa_spec.specs.Actions.{IsAction, effects_of, needs_of, sorts_of}
use Rattle.ipa_spec.specs.declared.specification.Specification.{Specification}
use Rattle.ipa_spec.specs.declared.predicates.Predicate.{Predicate}
use Rattle.ipa_spec.specs.declared.clauses.Clause.{Clause}
use Rattle.ipa_spec.specs.declared.clauses.Literal.{Literal}
use Rattle.ipa_spec.specs.declared.operations.Action.{Action}
use Rattle.ipa_spec.specs.declared.operations.Action.TheVariants.{Op, Drop}
use Rattle.ipa_logic.specs.Touches.{wins}
use Rattle.ipa_logic.specs.Conflicts.{can_be_falsified}
use Rattle.ipa_repair.specs.Candidates.{same_kind}
use Rattle.ipa_repair.specs.declared.candidates.Candidate.{Candidate}
use Rattle.ipa_repair.specs.declared.candidates.Candidate.TheVariants.{Adds, Flips}

-- what a predicate has beside its name and its rule: its arity, and the sorts of its places
abbrev pub shape_of : Predicate → ℕ × List ℕ
shape_of p = (p.arity, p.sorts)

-- the same of the predicate of a number, where it is declared
abbrev pub shape_at : List Predicate → ℕ → Option (ℕ × List ℕ)
shape_at ps n = option_map shape_of (slice_get ps n)

-- the same sorts, constants, clauses and bounds, as many operations, and predicates of the same shapes: only the effects
-- of operations and the rules of predicates may differ
pub record HasSameFrame (s next : Specification) : Type 0 where
  pub sorts : next.sorts ≡ s.sorts
  pub constants : next.constants ≡ s.constants
  pub clauses : next.clauses ≡ s.clauses
  pub bounds : next.bounds ≡ s.bounds
  pub operation_count : length next.operations ≡ length s.operations
  pub shapes : (n : ℕ) → shape_at next.predicates n ≡ shape_at s.predicates n

-- the action has the same parameters, needs and effects in both
pub record DoesSame (s next : Specification) (action : Action) : Type 0 where
  pub sorts : sorts_of next action ≡ sorts_of s action
  pub needs : needs_of next action ≡ needs_of s action
  pub effects : effects_of next action ≡ effects_of s action

-- the literal wins in both or in neither, and some action can make it false in both or in neither
pub record IsJudgedSame (s next : Specification) (l : Literal) : Type 0 where
  pub wins_same : wins next l ≡ wins s l
  pub falsified_same : can_be_falsified next l ≡ can_be_falsified s l

-- each literal of the clause is judged the same
pub record IsClauseJudgedSame (s next : Specification) (c : Clause) : Type 0 where
  pub each : (k : ℕ) (l : Literal) → slice_get c.literals k ≡ Some l → IsJudgedSame s next l

-- both actions do the same, and the clause is judged the same
pub record IsAlike (s next : Specification) (left right : Action) (k : ℕ) : Type 0 where
  pub frame : HasSameFrame s next
  pub left_same : DoesSame s next left
  pub right_same : DoesSame s next right
  pub clause : (c : Clause) → slice_get s.clauses k ≡ Some c → IsClauseJudgedSame s next c

-- the literal wins in both or in neither, and some action can make it false in both or in neither
abbrev pub same_judgement : Specification → Specification → Literal → Bool
same_judgement s next l = same_kind (wins next l) (wins s l) && same_kind (can_be_falsified next l) (can_be_falsified s l)

-- the candidate adds no effect to the operation
abbrev pub leaves_alone : ℕ → Candidate → Bool
leaves_alone n (Adds m e) = not (m == n)
leaves_alone n (Flips m) = true

-- the candidates add no effect to the action: none has one for a drop
abbrev pub is_untouched : List Candidate → Action → Bool
is_untouched parts (Op n) = list_all (leaves_alone n) parts
is_untouched parts (Drop n) = true
