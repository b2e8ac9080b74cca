-- Cases: what a triple comes to on a pattern, and which of them are open.
--
--   case_of s left right c classes   the case of a triple on a pattern, with its classes as arguments and values
--   IsOverCase s c case            the case's universe is one of the specification, and they are over it
--   can_be_lost s case l           right does not make the literal true, and some action can make it false
--   IsOpen s case literals         what looks at no state lets the case be a conflict
--   wanted_of s l                  what is wanted of the lost literal after right: where it loses, that it is false
--   IsLossIn s case l left right   the literal is lost in these states
--   HasNoStates s case l           there are no such states
--   AreFirstStates s case literals l states   they are the first such states, each in its order
--   drop_case_of, IsOverDropCase   the same for a drop and a clause
use Rattle.std.specs.Prelude.{◌≡◌, ℕ, Bool, true, false, not, ◌&&◌, List, Option, None, Some, if◌then◌else◌}
use Rattle.std.specs.List.{list_any}
use Rattle.ipa_spec.specs.declared.specification.Specification.{Specification}
use Rattle.ipa_spec.specs.declared.clauses.Clause.{Clause}
use Rattle.ipa_spec.specs.declared.clauses.Literal.{Literal}
use Rattle.ipa_spec.specs.declared.operations.Action.{Action}
use Rattle.ipa_spec.specs.declared.operations.Action.TheVariants.{Drop}
use Rattle.ipa_logic.specs.Facts.{IsUniverse}
use Rattle.ipa_logic.specs.Truth.{IsArguments, IsValues}
use Rattle.ipa_logic.specs.Touches.{makes_true, loses}
use Rattle.ipa_logic.specs.Conflicts.{is_undecided, falsifies_some, makes_winner_true, can_be_falsified}
use Rattle.ipa_logic.specs.declared.facts.Fact.{Fact}
use Rattle.ipa_reduction.specs.Cases.{triple_universe, left_args, right_args, triple_values, drop_universe, drop_args, drop_values}
use Rattle.ipa_pairs.specs.Asked.{IsFitting, IsFirstFitting}
use Rattle.ipa_pairs.specs.declared.cases.Case.{Case}
use Rattle.ipa_pairs.specs.declared.cases.States.{States}
use Rattle.ipa_pairs.specs.declared.drops.DropCase.{DropCase}

-- the case of a triple on a pattern, with its classes as arguments and values
abbrev pub case_of : Specification → Action → Action → Clause → List ℕ → Case
case_of s left right c classes = record {
  left = left;
  right = right;
  universe = record { sizes = triple_universe s left right c classes };
  left_args = left_args s left classes;
  right_args = right_args s left right classes;
  values = triple_values s left right c classes;
}

-- the case's universe is one of the specification, and the arguments and values are over it
pub record IsOverCase (s : Specification) (c : Clause) (case : Case) : Type 0 where
  pub sizes : IsUniverse s case.universe.sizes
  pub left : IsArguments s case.universe.sizes case.left case.left_args
  pub right : IsArguments s case.universe.sizes case.right case.right_args
  pub values : IsValues case.universe.sizes c case.values

-- right does not make the literal true, and some action can make it false
abbrev pub can_be_lost : Specification → Case → Literal → Bool
can_be_lost s case l = not (makes_true s case.right case.right_args case.values l) && can_be_falsified s l

-- what looks at no state lets the case be a conflict
pub record IsOpen (s : Specification) (case : Case) (literals : List Literal) : Type 0 where
  pub left_falsifies : falsifies_some s case.left case.left_args case.values literals ≡ true
  pub right_falsifies : falsifies_some s case.right case.right_args case.values literals ≡ true
  pub left_spares : makes_winner_true s case.left case.left_args case.values literals ≡ false
  pub right_spares : makes_winner_true s case.right case.right_args case.values literals ≡ false
  pub undecided : is_undecided s case.values literals ≡ true
  pub some_lost : list_any (can_be_lost s case) literals ≡ true

-- what is wanted of the lost literal after right: where it loses, that it is false
abbrev pub wanted_of : Specification → Literal → Option Bool
wanted_of s l = if loses s l then Some false else None

-- the literal is lost in these states
pub record IsLossIn (s : Specification) (case : Case) (l : Literal) (after_left after_right : List Fact) : Type 0 where
  pub can_be_lost : can_be_lost s case l ≡ true
  pub left : IsFitting s case.universe.sizes case.left case.left_args case.values l (Some true) after_left
  pub right : IsFitting s case.universe.sizes case.right case.right_args case.values l (wanted_of s l) after_right

-- there are no states in which the literal is lost
pub record HasNoStates (s : Specification) (case : Case) (l : Literal) : Type 0 where
  pub none : (after_left after_right : List Fact) → IsLossIn s case l after_left after_right → ⊥

-- the first states in which the literal is lost, each in its order
pub record AreFirstStates (s : Specification) (case : Case) (literals : List Literal) (l : Literal)
    (states : States) : Type 0 where
  pub can_be_lost : can_be_lost s case l ≡ true
  pub left : IsFirstFitting s case.universe.sizes case.left case.left_args case.values literals l (Some true)
      states.after_left
  pub right : IsFirstFitting s case.universe.sizes case.right case.right_args case.values literals l (wanted_of s l)
      states.after_right

-- the case of a drop and a clause on a pattern, with its classes as arguments and values
abbrev pub drop_case_of : Specification → ℕ → Clause → List ℕ → DropCase
drop_case_of s n c classes = record {
  universe = record { sizes = drop_universe s n c classes };
  args = drop_args s n classes;
  values = drop_values s n c classes;
}

-- the case's universe is one of the specification, and the arguments and values are over it
pub record IsOverDropCase (s : Specification) (n : ℕ) (c : Clause) (case : DropCase) : Type 0 where
  pub sizes : IsUniverse s case.universe.sizes
  pub args : IsArguments s case.universe.sizes (Drop n) case.args
  pub values : IsValues case.universe.sizes c case.values
