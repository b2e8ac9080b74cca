-- Triples and drops on a pattern of their variables.
--
--   constant_counts s              how many constants each of the eight sorts has
--   triple_sorts s left right c    the sorts of a triple's variables: left's arguments, right's, and the clause's, in
--                                  this order
--   IsTriplePattern s left right c classes   a pattern of them, and of the constants
--   triple_universe s left right c classes   its universe: the constants, and the variables' classes
--   left_args, right_args, triple_values   what the classes of a pattern give to them
--   AreTripleArguments s left right c classes   the pattern's universe is one of the specification, and they are over
--                                  it
--   IsConflictOn s left right c classes place l r   the two states show a conflict over the pattern's universe, with
--                                  its classes as elements
--   ConflictOn s left right c classes      there is such a place in the clause, and such states
--   drop_sorts s n c               the sorts of a dropped fact's places, and then of the clause's variables
--   IsDropPattern, drop_universe   a pattern of them, and of the constants, and its universe
--   drop_args, drop_values         what the classes give to them
--   AreDropArguments s n c classes   the pattern's universe is one of the specification, and they are over it
--   IsDropBreakOn s n b c classes before   the drop breaks the clause over the pattern's universe, with its classes as
--                                  elements
--   DropBreaksOn s n b c classes   there is such a state over the pattern's universe
use Rattle.std.specs.Prelude.{ℕ, ◌+◌, List, [], ◌∷◌, ◌++◌, length}
use Rattle.ipa_spec.specs.Actions.{sorts_of, sorts_of_vars}
use Rattle.ipa_spec.specs.Constants.{constant_count}
use Rattle.ipa_spec.specs.declared.specification.Specification.{Specification}
use Rattle.ipa_spec.specs.declared.bounds.Bound.{Bound}
use Rattle.ipa_spec.specs.declared.clauses.Clause.{Clause}
use Rattle.ipa_spec.specs.declared.operations.Action.{Action}
use Rattle.ipa_spec.specs.declared.operations.Action.TheVariants.{Drop}
use Rattle.ipa_logic.specs.Facts.{Universe, IsUniverse}
use Rattle.ipa_logic.specs.Truth.{IsOver}
use Rattle.ipa_logic.specs.Conflicts.{IsConflictAt}
use Rattle.ipa_logic.specs.Acceptance.{IsDropBreakAt}
use Rattle.ipa_logic.specs.declared.facts.Fact.{Fact}
use Rattle.ipa_ground.specs.Patterns.{args_at, IsPattern, pattern_universe}

-- how many constants each of the eight sorts has
unfoldable pub constant_counts : Specification → Universe
constant_counts s =
    constant_count s 0 ∷ constant_count s 1 ∷ constant_count s 2 ∷ constant_count s 3
    ∷ constant_count s 4 ∷ constant_count s 5 ∷ constant_count s 6 ∷ constant_count s 7 ∷ []

-- the sorts of the variables of a triple: left's arguments, right's, and the clause's, in this order
abbrev pub triple_sorts : Specification → Action → Action → Clause → List ℕ
triple_sorts s left right c = sorts_of s left ++ (sorts_of s right ++ sorts_of_vars c.vars)

-- a pattern of a triple's variables: a way of making them equal to each other and to constants
abbrev pub IsTriplePattern : Specification → Action → Action → Clause → List ℕ → Type 0
IsTriplePattern s left right c classes = IsPattern (constant_counts s) (triple_sorts s left right c) classes

-- left's arguments on a pattern
abbrev pub left_args : Specification → Action → List ℕ → List ℕ
left_args s left classes = args_at 0 (length (sorts_of s left)) classes

-- right's arguments on a pattern
abbrev pub right_args : Specification → Action → Action → List ℕ → List ℕ
right_args s left right classes = args_at (length (sorts_of s left)) (length (sorts_of s right)) classes

-- the values of the clause's variables on a pattern
abbrev pub triple_values : Specification → Action → Action → Clause → List ℕ → List ℕ
triple_values s left right c classes =
    args_at (length (sorts_of s left) + length (sorts_of s right)) (length (sorts_of_vars c.vars)) classes

-- the universe of a triple's pattern
abbrev pub triple_universe : Specification → Action → Action → Clause → List ℕ → Universe
triple_universe s left right c classes = pattern_universe (constant_counts s) (triple_sorts s left right c) classes

-- the classes of a pattern are arguments of both actions and values of the clause's variables, over its universe
pub record AreTripleArguments (s : Specification) (one other : Action) (c : Clause) (classes : List ℕ) : Type 0 where
  pub sizes : IsUniverse s (triple_universe s one other c classes)
  pub left : IsOver (triple_universe s one other c classes) (sorts_of s one) (left_args s one classes)
  pub right : IsOver (triple_universe s one other c classes) (sorts_of s other) (right_args s one other classes)
  pub values : IsOver (triple_universe s one other c classes) (sorts_of_vars c.vars)
      (triple_values s one other c classes)

-- the states show a conflict over the universe of the pattern, with its classes as arguments and values
abbrev pub IsConflictOn : Specification → Action → Action → Clause → List ℕ → ℕ → List Fact → List Fact → Type 0
IsConflictOn s left right c classes place after_left after_right =
    IsConflictAt s left right c (triple_universe s left right c classes) (left_args s left classes)
    (right_args s left right classes) (triple_values s left right c classes) place after_left after_right

-- the triple is in conflict on the pattern
pub record ConflictOn (s : Specification) (left right : Action) (c : Clause) (classes : List ℕ) : Type 0 where
  pub place : ℕ
  pub after_left : List Fact
  pub after_right : List Fact
  pub conflict : IsConflictOn s left right c classes place after_left after_right

-- the triple is in conflict on some pattern
pub record ConflictOnSome (s : Specification) (left right : Action) (c : Clause) : Type 0 where
  pub classes : List ℕ
  pub is_pattern : IsTriplePattern s left right c classes
  pub conflict : ConflictOn s left right c classes

-- the sorts of the variables of a drop and a clause: the places of its fact, and then the clause's variables
abbrev pub drop_sorts : Specification → ℕ → Clause → List ℕ
drop_sorts s n c = sorts_of s (Drop n) ++ sorts_of_vars c.vars

-- a pattern of a drop's and a clause's variables
abbrev pub IsDropPattern : Specification → ℕ → Clause → List ℕ → Type 0
IsDropPattern s n c classes = IsPattern (constant_counts s) (drop_sorts s n c) classes

-- the arguments of the drop on a pattern
abbrev pub drop_args : Specification → ℕ → List ℕ → List ℕ
drop_args s n classes = args_at 0 (length (sorts_of s (Drop n))) classes

-- the values of the clause's variables on a pattern
abbrev pub drop_values : Specification → ℕ → Clause → List ℕ → List ℕ
drop_values s n c classes = args_at (length (sorts_of s (Drop n))) (length (sorts_of_vars c.vars)) classes

-- the universe of a drop's pattern
abbrev pub drop_universe : Specification → ℕ → Clause → List ℕ → Universe
drop_universe s n c classes = pattern_universe (constant_counts s) (drop_sorts s n c) classes

-- the classes of a pattern are arguments of the drop and values of the clause's variables, over its universe
pub record AreDropArguments (s : Specification) (n : ℕ) (c : Clause) (classes : List ℕ) : Type 0 where
  pub sizes : IsUniverse s (drop_universe s n c classes)
  pub args : IsOver (drop_universe s n c classes) (sorts_of s (Drop n)) (drop_args s n classes)
  pub values : IsOver (drop_universe s n c classes) (sorts_of_vars c.vars) (drop_values s n c classes)

-- the drop of the bound breaks the clause in this state over the universe of a pattern, with its classes as arguments
-- and values
abbrev pub IsDropBreakOn : Specification → ℕ → Bound → Clause → List ℕ → List Fact → Type 0
IsDropBreakOn s n b c classes before =
    IsDropBreakAt s b n c (drop_universe s n c classes) (drop_args s n classes) (drop_values s n c classes) before

-- the drop breaks the clause on the pattern
pub record DropBreaksOn (s : Specification) (n : ℕ) (b : Bound) (c : Clause) (classes : List ℕ) : Type 0 where
  pub before : List Fact
  pub break : IsDropBreakOn s n b c classes before

-- the drop breaks the clause on some pattern
pub record DropBreaksOnSome (s : Specification) (n : ℕ) (b : Bound) (c : Clause) : Type 0 where
  pub classes : List ℕ
  pub is_pattern : IsDropPattern s n c classes
  pub breaks : DropBreaksOn s n b c classes
