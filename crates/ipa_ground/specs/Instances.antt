-- The instances of a clause, variable by variable.
--
--   filled at values rest            values with these elements from a place on
--   FillsOver universe sorts at values   however they are filled from the place on, the values are over the universe
--   PassesFrom p universe sorts at values   p passes however they are filled
--   PassesBelow p .. bound           p passes where the first element is below the bound
--   ClauseFits s c                   the clause is as short as in a faultless specification, and its literals fit
--   FactFits s universe values l     the literal's fact is one over the universe
use Rattle.std.specs.Prelude.{◌≡◌, ℕ, ◌+◌, ◌<◌, ◌≤◌, Bool, true, List, [], ◌∷◌, length, map, drop, slice_get, slice_set, Some}
use Rattle.ipa_spec.specs.Actions.{sorts_of_vars}
use Rattle.ipa_spec.specs.Fits.{LiteralFits}
use Rattle.ipa_spec.specs.declared.specification.Specification.{Specification}
use Rattle.ipa_spec.specs.declared.clauses.Clause.{Clause}
use Rattle.ipa_spec.specs.declared.clauses.Literal.{Literal}
use Rattle.ipa_spec.specs.declared.clauses.Literal.TheVariants.{Holds, Fails, Same, Differ}
use Rattle.ipa_logic.specs.Facts.{Universe, size_of, IsFact}
use Rattle.ipa_logic.specs.Truth.{IsOver, fact_of}
use Rattle.ipa_ground.specs.Enumeration.{IsTuple}

-- values with these elements from a place on
abbrev pub filled : ℕ → List ℕ → List ℕ → List ℕ
filled at values [] = values
filled at values (x ∷ rest) = filled (at + 1) (slice_set values at x) rest

-- elements for the variables from a place on
abbrev pub IsRest : Universe → List ℕ → ℕ → List ℕ → Type 0
IsRest universe sorts at rest = IsTuple (map (size_of universe) (drop at sorts)) rest

-- however they are filled from the place on, the values are over the universe
pub record FillsOver (universe : Universe) (sorts : List ℕ) (at : ℕ) (values : List ℕ) : Type 0 where
  pub over : (rest : List ℕ) → IsRest universe sorts at rest → IsOver universe sorts (filled at values rest)

-- p passes however the values are filled from the place on
pub record PassesFrom (p : List ℕ → Bool) (universe : Universe) (sorts : List ℕ) (at : ℕ)
    (values : List ℕ) : Type 0 where
  pub passes : (rest : List ℕ) → IsRest universe sorts at rest → p (filled at values rest) ≡ true

-- p passes where the element at the place is below the bound
pub record PassesBelow (p : List ℕ → Bool) (universe : Universe) (sorts : List ℕ) (at : ℕ) (values : List ℕ)
    (bound : ℕ) : Type 0 where
  pub passes : (x : ℕ) (rest : List ℕ) → x < bound → IsRest universe sorts at (x ∷ rest) →
      p (filled at values (x ∷ rest)) ≡ true

-- the clause is as short as in a faultless specification, and its literals fit its variables
pub record ClauseFits (s : Specification) (c : Clause) : Type 0 where
  pub variable_count : length c.vars ≤ 4
  pub literal_count : length c.literals ≤ 6
  pub literals : (k : ℕ) (l : Literal) → slice_get c.literals k ≡ Some l → LiteralFits s (sorts_of_vars c.vars) l

-- the literal's fact is one over the universe
abbrev pub FactFits : Specification → Universe → List ℕ → Literal → Type 0
FactFits s universe values (Holds a) = IsFact s universe (fact_of s values a)
FactFits s universe values (Fails a) = IsFact s universe (fact_of s values a)
FactFits s universe values (Same v w) = Unit {0}
FactFits s universe values (Differ v w) = Unit {0}
