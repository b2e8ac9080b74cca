-- The examples that are reported.
--
--   hidden_facts                    the facts of the instance's literals that left or right makes true, each once, at
--                                   its first literal
--   IsEarlierState                  the order of the states after an action
--   IsExampleOn s c classes e       the example shows a conflict over the universe of the pattern
--   IsFirstExampleOn                the first one there: by the lost literal in clause order, then by the states
--   IsReportedExample s e           the first example of its triple, by pattern
--   IsEarlierBefore                 the order of the states before a drop
--   IsDropExampleOn, IsFirstDropExampleOn   the example of a drop and a clause, and the first one, on a pattern
--   IsReportedDrop s e              the first example of a drop and a clause, by pattern
use Rattle.std.specs.Prelude.{◌≡◌, ℕ, ◌<◌, Bool, true, ◌||◌, List, [], ◌∷◌, ◌++◌, map, slice_get, Option, None, Some, if◌then◌else◌}
use Rattle.ipa_spec.specs.declared.specification.Specification.{Specification}
use Rattle.ipa_spec.specs.declared.bounds.Bound.{Bound}
use Rattle.ipa_spec.specs.declared.clauses.Clause.{Clause}
use Rattle.ipa_spec.specs.declared.clauses.Literal.{Literal}
use Rattle.ipa_spec.specs.declared.clauses.Literal.TheVariants.{Holds, Fails, Same, Differ}
use Rattle.ipa_spec.specs.declared.operations.Action.{Action}
use Rattle.ipa_logic.specs.Facts.{has}
use Rattle.ipa_logic.specs.Truth.{fact_of}
use Rattle.ipa_logic.specs.Touches.{makes_true}
use Rattle.ipa_logic.specs.declared.facts.Fact.{Fact}
use Rattle.ipa_sat.specs.Formula.{IsBefore}
use Rattle.ipa_ground.specs.PatternValues.{is_before}
use Rattle.ipa_models.specs.Models.{truths}
use Rattle.ipa_reduction.specs.Cases.{IsTriplePattern, triple_universe, left_args, right_args, triple_values, IsConflictOn, ConflictOn, IsDropPattern, drop_universe, drop_args, drop_values, IsDropBreakOn, DropBreaksOn}
use Rattle.ipa_pairs.specs.declared.analysis.Conflict.{Conflict as Example}
use Rattle.ipa_pairs.specs.declared.analysis.UnsafeDrop.{UnsafeDrop}

-- the fact of a fact literal
abbrev pub fact_of_literal : Specification → List ℕ → Literal → Option Fact
fact_of_literal s values (Holds a) = Some (fact_of s values a)
fact_of_literal s values (Fails a) = Some (fact_of s values a)
fact_of_literal s values (Same v w) = None
fact_of_literal s values (Differ v w) = None

-- left or right makes the literal true
abbrev pub is_hidden : Specification → Action → Action → List ℕ → List ℕ → List ℕ → Literal → Bool
is_hidden s left right args_left args_right values l =
    makes_true s left args_left values l || makes_true s right args_right values l

-- the fact of a literal that left or right makes true
abbrev pub hidden_fact : Specification → Action → Action → List ℕ → List ℕ → List ℕ → Literal → Option Fact
hidden_fact s left right args_left args_right values l =
    if is_hidden s left right args_left args_right values l then fact_of_literal s values l else None

-- facts, and one more behind them, if there is one and it is not among them
abbrev pub with_fact : List Fact → Option Fact → List Fact
with_fact seen None = seen
with_fact seen (Some f) = if has seen f then seen else seen ++ f ∷ []

-- facts, and more behind them, each once, at its first place
abbrev pub with_each : List Fact → List (Option Fact) → List Fact
with_each seen [] = seen
with_each seen (f ∷ fs) = with_each (with_fact seen f) fs

-- the facts of those literals of the instance, in clause order, that left or right makes true, each once, at its first
-- literal
abbrev pub hidden_facts : Specification → Action → Action → List ℕ → List ℕ → List ℕ → List Literal → List Fact
hidden_facts s left right args_left args_right values literals =
    with_each [] (map (hidden_fact s left right args_left args_right values) literals)

-- states are ordered by the truth of the instance's fact literals, in clause order, and then by that of all facts,
-- false before true
abbrev pub IsEarlierState : Specification → Action → Action → Clause → List ℕ → List Fact → List Fact → Type 0
IsEarlierState s left right c classes one other =
    IsBefore
    (truths s (triple_universe s left right c classes) (triple_values s left right c classes) c.literals (has one))
    (truths s (triple_universe s left right c classes) (triple_values s left right c classes) c.literals (has other))

-- the example is on this pattern: its universe and its elements are the pattern's
pub record IsExampleOn (s : Specification) (c : Clause) (classes : List ℕ) (e : Example) : Type 0 where
  pub universe : e.universe.sizes ≡ triple_universe s e.left e.right c classes
  pub left_args : e.left_args ≡ left_args s e.left classes
  pub right_args : e.right_args ≡ right_args s e.left e.right classes
  pub values : e.values ≡ triple_values s e.left e.right c classes
  pub shows : IsConflictOn s e.left e.right c classes e.lost e.after_left e.after_right
  pub hidden : e.hidden ≡ hidden_facts s e.left e.right e.left_args e.right_args e.values c.literals

-- the first example on this pattern: of the first literal that can be lost there, with the first states
pub record IsFirstExampleOn (s : Specification) (c : Clause) (classes : List ℕ) (e : Example) : Type 0 where
  pub example : IsExampleOn s c classes e
  pub first_lost : (place : ℕ) (l r : List Fact) → place < e.lost →
      IsConflictOn s e.left e.right c classes place l r → ⊥
  pub first_left : (l : List Fact) → IsConflictOn s e.left e.right c classes e.lost l e.after_right
      → IsEarlierState s e.left e.right c classes l e.after_left → ⊥
  pub first_right : (r : List Fact) → IsConflictOn s e.left e.right c classes e.lost e.after_left r
      → IsEarlierState s e.left e.right c classes r e.after_right → ⊥

-- the first example of its triple: the first one on the first pattern that has one
pub record IsReportedExample (s : Specification) (e : Example) : Type 0 where
  pub clause : Clause
  pub declared : slice_get s.clauses e.clause ≡ Some clause
  pub classes : List ℕ
  pub is_pattern : IsTriplePattern s e.left e.right clause classes
  pub first_pattern : (earlier : List ℕ) → IsTriplePattern s e.left e.right clause earlier →
      is_before earlier classes ≡ true → ConflictOn s e.left e.right clause earlier → ⊥
  pub first_on : IsFirstExampleOn s clause classes e

-- the example of a drop is on this pattern
pub record IsDropExampleOn (s : Specification) (b : Bound) (c : Clause) (classes : List ℕ)
    (e : UnsafeDrop) : Type 0 where
  pub universe : e.universe.sizes ≡ drop_universe s e.bound c classes
  pub args : e.args ≡ drop_args s e.bound classes
  pub values : e.values ≡ drop_values s e.bound c classes
  pub shows : IsDropBreakOn s e.bound b c classes e.before

-- states before a drop are ordered by the truth of the instance's fact literals, and then by that of all facts, false
-- before true
abbrev pub IsEarlierBefore : Specification → ℕ → Clause → List ℕ → List Fact → List Fact → Type 0
IsEarlierBefore s n c classes one other =
    IsBefore (truths s (drop_universe s n c classes) (drop_values s n c classes) c.literals (has one))
    (truths s (drop_universe s n c classes) (drop_values s n c classes) c.literals (has other))

-- the first example of a drop on this pattern: with the first state
pub record IsFirstDropExampleOn (s : Specification) (b : Bound) (c : Clause) (classes : List ℕ)
    (e : UnsafeDrop) : Type 0 where
  pub example : IsDropExampleOn s b c classes e
  pub first_before : (other : List Fact) → IsDropBreakOn s e.bound b c classes other →
      IsEarlierBefore s e.bound c classes other e.before → ⊥

-- the first example of a drop and a clause: the first one on the first pattern that has one
pub record IsReportedDrop (s : Specification) (e : UnsafeDrop) : Type 0 where
  pub bound : Bound
  pub bound_declared : slice_get s.bounds e.bound ≡ Some bound
  pub clause : Clause
  pub clause_declared : slice_get s.clauses e.clause ≡ Some clause
  pub classes : List ℕ
  pub is_pattern : IsDropPattern s e.bound clause classes
  pub first_pattern : (earlier : List ℕ) → IsDropPattern s e.bound clause earlier →
      is_before earlier classes ≡ true → DropBreaksOn s e.bound bound clause earlier → ⊥
  pub first_on : IsFirstDropExampleOn s bound clause classes e
