-- Clauses over a universe as a formula.
--
--   test_of first a facts        the facts that an assignment makes true: the variables from first on stand for the
--                                facts, in order
--   KeepsClauses s universe first a   they keep all clauses over the universe
--   Narrows s universe first old new   the new formula asks for what the old one does, and for no more than the clauses
--   Grounds s universe first old new   it asks for what the old one does, and for the clauses
use Rattle.std.specs.Prelude.{◌≡◌, ℕ, ◌+◌, Bool, false, List, [], ◌∷◌, ◌↔◌, if◌then◌else◌}
use Rattle.std.specs.Ordering.{is_eq}
use Rattle.ipa_spec.specs.declared.specification.Specification.{Specification}
use Rattle.ipa_logic.specs.Facts.{Universe, fact_cmp}
use Rattle.ipa_logic.specs.Truth.{Keeps}
use Rattle.ipa_logic.specs.declared.facts.Fact.{Fact}
use Rattle.ipa_sat.specs.Formula.{Formula, Satisfies, value}
use Rattle.ipa_ground.specs.Enumeration.{facts_over}

-- whether a fact is true under an assignment whose variables from first on stand for the facts, in order: other facts
-- are not
unfoldable pub test_of : ℕ → List Bool → List Fact → Fact → Bool
test_of first a [] f = false
test_of first a (g ∷ gs) f = if is_eq (fact_cmp f g) then value a first else test_of (first + 1) a gs f

-- the assignment's true facts keep all clauses over the universe
abbrev pub KeepsClauses : Specification → Universe → ℕ → List Bool → Type 0
KeepsClauses s universe first a = Keeps s universe (test_of first a (facts_over s.predicates universe))

-- the new formula has the old one's variables; what satisfies it satisfies the old one, and so does, the other way
-- round, whatever keeps all clauses besides
pub record Narrows (s : Specification) (universe : Universe) (first : ℕ) (old new : Formula) : Type 0 where
  pub vars : new.vars ≡ old.vars
  pub older : (a : List Bool) → Satisfies new a → Satisfies old a
  pub kept : (a : List Bool) → Satisfies old a → KeepsClauses s universe first a → Satisfies new a

-- the new formula has the old one's variables, and is satisfied exactly where the old one is and all clauses are kept
pub record Grounds (s : Specification) (universe : Universe) (first : ℕ) (old new : Formula) : Type 0 where
  pub vars : new.vars ≡ old.vars
  pub satisfied : (a : List Bool) → Satisfies new a ↔ (Satisfies old a × KeepsClauses s universe first a)
