-- When a specification is accepted.
--
--   drop_fact s b args          the fact that the drop of the bound with these arguments removes
--   drop_args f                 the arguments of the drop that removes the fact
--   IsDroppable                 a state that keeps all clauses and holds that fact
--   IsSafeDrop s n              the drop of bound n keeps all clauses wherever its fact is true
--   IsDropBreakAt               the drop breaks the clause, for arguments, values and a state
--   DropBreaks s n k            the drop of bound n can break clause k
--   IsAccepted s                no two actions conflict on a clause, and every drop is safe
use Rattle.std.specs.Prelude.{◌≡◌, ℕ, true, false, List, [], ◌∷◌, slice_get, Some}
use Rattle.ipa_spec.specs.Actions.{drop_effect}
use Rattle.ipa_spec.specs.declared.specification.Specification.{Specification}
use Rattle.ipa_spec.specs.declared.bounds.Bound.{Bound}
use Rattle.ipa_spec.specs.declared.clauses.Clause.{Clause}
use Rattle.ipa_spec.specs.declared.operations.Action.{Action}
use Rattle.ipa_spec.specs.declared.operations.Action.TheVariants.{Drop}
use Rattle.ipa_logic.specs.Facts.{Universe, IsUniverse, IsState, has}
use Rattle.ipa_logic.specs.Truth.{value_at, IsArguments, IsValues, Keeps, instance_true}
use Rattle.ipa_logic.specs.Touches.{fact_given, plain_application}
use Rattle.ipa_logic.specs.Conflicts.{Conflict}
use Rattle.ipa_logic.specs.declared.facts.Fact.{Fact}

-- the fact that the drop of the bound with these arguments removes
abbrev pub drop_fact : Specification → Bound → List ℕ → Fact
drop_fact s b args = fact_given s args (drop_effect s.predicates b)

-- the arguments of the drop that removes the fact
abbrev pub drop_args : Fact → List ℕ
drop_args f = value_at f.args 0 ∷ value_at f.args 1 ∷ value_at f.args 2 ∷ 0 ∷ []

-- the state holds the fact that the drop of the bound removes, and keeps all clauses
pub record IsDroppable (s : Specification) (b : Bound) (n : ℕ) (universe : Universe) (args : List ℕ)
    (before : List Fact) : Type 0 where
  pub declared : slice_get s.bounds n ≡ Some b
  pub sizes : IsUniverse s universe
  pub arguments : IsArguments s universe (Drop n) args
  pub state : IsState s universe before
  pub keeps : Keeps s universe (has before)
  pub holds : has before (drop_fact s b args) ≡ true

-- the drop of bound n keeps all clauses wherever its fact is true and all clauses are kept
pub record IsSafeDrop (s : Specification) (n : ℕ) : Type 0 where
  pub keeps : (b : Bound) (universe : Universe) (args : List ℕ) (before : List Fact) →
      IsDroppable s b n universe args before → Keeps s universe (plain_application s (Drop n) args (has before))

-- the drop of bound n, with these arguments, breaks the clause with these values
pub record IsDropBreakAt (s : Specification) (b : Bound) (n : ℕ) (c : Clause) (universe : Universe)
    (args values : List ℕ) (before : List Fact) : Type 0 where
  pub droppable : IsDroppable s b n universe args before
  pub clause_values : IsValues universe c values
  pub broken : instance_true s (plain_application s (Drop n) args (has before)) values c ≡ false

-- the drop of bound n can break clause k
pub record DropBreaks (s : Specification) (n k : ℕ) : Type 0 where
  pub bound : Bound
  pub clause : Clause
  pub declared : slice_get s.clauses k ≡ Some clause
  pub universe : Universe
  pub args : List ℕ
  pub values : List ℕ
  pub before : List Fact
  pub breaks : IsDropBreakAt s bound n clause universe args values before

-- no two actions, an action with itself included, conflict on a clause, and every drop is safe
pub record IsAccepted (s : Specification) : Type 0 where
  pub apart : (left right : Action) (k : ℕ) → Conflict s left right k → ⊥
  pub safe : (n : ℕ) → IsSafeDrop s n
