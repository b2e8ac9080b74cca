-- Which live triples have too many patterns.
--
--   pattern_count s left right c   the number of the triple's patterns
--   IsTooWide s left right c       a live triple with more than 30000 patterns
--   action_place s action          the place of an action: operations first and then drops, each in declared order
--   Triple                         two actions and the number of a clause
--   IsDeclared s t                 the specification declares them
--   triple_key s t                 triples are ordered by left, right and clause
--   IsOfPair s left right t        the triple is one of this ordered pair
--   IsFirstTooWide s InQuestion t count   of the triples in question, the first one that is too wide, and its number of
--                                  patterns
--   IsNarrow s InQuestion          none of the triples in question is too wide
use Rattle.std.specs.Prelude.{◌≡◌, ℕ, ◌+◌, ◌<◌, Bool, true, List, [], ◌∷◌, length, slice_get, Some}
use Rattle.std.specs.Ordering.{nat_cmp, is_lt}
use Rattle.std.specs.Cmp.Lexicographic.{slice_cmp}
use Rattle.ipa_spec.specs.Actions.{IsAction}
use Rattle.ipa_spec.specs.declared.specification.Specification.{Specification}
use Rattle.ipa_spec.specs.declared.clauses.Clause.{Clause}
use Rattle.ipa_spec.specs.declared.operations.Action.{Action}
use Rattle.ipa_spec.specs.declared.operations.Action.TheVariants.{Op, Drop}
use Rattle.ipa_logic.specs.Conflicts.{is_live}
use Rattle.ipa_ground.specs.Patterns.{patterns}
use Rattle.ipa_reduction.specs.Cases.{constant_counts, triple_sorts}

-- the number of the patterns of the triple's variables, with the constants
abbrev pub pattern_count : Specification → Action → Action → Clause → ℕ
pattern_count s left right c = length (patterns (constant_counts s) (triple_sorts s left right c))

-- the triple is live and has more patterns than are gone through
pub record IsTooWide (s : Specification) (left right : Action) (k : ℕ) : Type 0 where
  pub clause : Clause
  pub declared : slice_get s.clauses k ≡ Some clause
  pub live : is_live s left right clause ≡ true
  pub wide : 30000 < pattern_count s left right clause

-- the place of an action among all: operations first and then drops, each in declared order
abbrev pub action_place : Specification → Action → ℕ
action_place s (Op n) = n
action_place s (Drop n) = length s.operations + n

-- two actions and the number of a clause
pub record Triple : Type 0 where
  pub left : Action
  pub right : Action
  pub clause : ℕ

-- the specification declares both actions and the clause
pub record IsDeclared (s : Specification) (t : Triple) : Type 0 where
  pub left : IsAction s t.left
  pub right : IsAction s t.right
  pub clause : t.clause < length s.clauses

-- the triple is one of this ordered pair
pub record IsOfPair (s : Specification) (left right : Action) (t : Triple) : Type 0 where
  pub left_is : t.left ≡ left
  pub right_is : t.right ≡ right
  pub clause_declared : t.clause < length s.clauses

-- triples are ordered by left, right and clause
abbrev pub triple_key : Specification → Triple → List ℕ
triple_key s t = action_place s t.left ∷ action_place s t.right ∷ t.clause ∷ []

-- one triple comes before another
abbrev pub comes_before : Specification → Triple → Triple → Bool
comes_before s t u = is_lt (slice_cmp nat_cmp (triple_key s t) (triple_key s u))

-- of the triples in question, the first one that is too wide, and its number of patterns
pub record IsFirstTooWide (s : Specification) (InQuestion : Triple → Type 0) (t : Triple) (count : ℕ) : Type 0 where
  pub in_question : InQuestion t
  pub too_wide : IsTooWide s t.left t.right t.clause
  pub counted : count ≡ pattern_count s t.left t.right too_wide.clause
  pub first : (u : Triple) → InQuestion u → comes_before s u t ≡ true → IsTooWide s u.left u.right u.clause → ⊥

-- none of the triples in question is too wide
pub record IsNarrow (s : Specification) (InQuestion : Triple → Type 0) : Type 0 where
  pub narrow : (t : Triple) → InQuestion t → IsTooWide s t.left t.right t.clause → ⊥
