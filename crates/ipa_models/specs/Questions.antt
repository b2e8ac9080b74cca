-- Questions for a state, as formulas. The variables from 6 on stand for the facts over the universe,
-- in order, and the first six for the fact literals of an instance.
--
--   state_of s universe a          the facts that an assignment makes true
--   IsNumbered s universe          the universe is a small one of it, and the variables of the facts have numbers
--   IsGrounded s universe facts f  the formula that asks for the clauses alone
--   fact_truths s values ls t      the truth of the instance's fact literals, in clause order
--   Adds P old new                 the new formula asks for what the old one does, and for P
--   AreTied n a bs                 the first n variables have these values, and are false past them
--   IsLiteralOf .. l lit           the literal of the formula for a fact literal of the instance
--   IsTied, TiesMore               the first variables stand for the first fact literals
--   IsAnswer s universe values ls demands a     what is asked of an assignment
--   IsQuestion s universe values ls demands f   the formula that asks it
use Rattle.std.specs.Prelude.{◌≡◌, ℕ, ◌+◌, ◌<◌, ◌≤◌, Bool, true, not, if◌then◌else◌, List, [], ◌∷◌, ◌++◌, ◌↔◌, length, map, filter}
use Rattle.ipa_spec.specs.declared.specification.Specification.{Specification}
use Rattle.ipa_spec.specs.declared.clauses.Literal.{Literal}
use Rattle.ipa_spec.specs.Fits.{IsFit}
use Rattle.ipa_sat.specs.Formula.{Formula, Satisfies, value, literal_true as lit_true}
use Rattle.ipa_sat.specs.declared.cnf.Lit.{Lit}
use Rattle.ipa_logic.specs.Facts.{Universe, IsUniverse}
use Rattle.ipa_logic.specs.Truth.{Keeps, literal_true}
use Rattle.ipa_logic.specs.Touches.{is_of_fact}
use Rattle.ipa_logic.specs.declared.facts.Fact.{Fact}
use Rattle.ipa_ground.specs.Enumeration.{facts_over}
use Rattle.ipa_ground.specs.Grounding.{test_of}
use Rattle.ipa_ground.specs.Places.{AreSmall}
use Rattle.ipa_models.specs.declared.demands.Demand.{Demand}
use Rattle.ipa_models.specs.Models.{AsDemanded}

-- the facts that an assignment makes true
abbrev pub state_of : Specification → Universe → List Bool → Fact → Bool
state_of s universe a = test_of 6 a (facts_over s.predicates universe)

-- the specification fits and the universe is a small one of it, so the facts' variables have numbers that fit
pub record IsNumbered (s : Specification) (universe : Universe) : Type 0 where
  pub fit : IsFit s
  pub sizes : IsUniverse s universe
  pub small : AreSmall universe
  pub room : 6 + length (facts_over s.predicates universe) ≤ 262144

-- the new formula has the old one's variables, and is satisfied exactly where the old one is and P holds
pub record Adds (P : List Bool → Type 0) (old new : Formula) : Type 0 where
  pub vars : new.vars ≡ old.vars
  pub satisfied : (a : List Bool) → Satisfies new a ↔ (Satisfies old a × P a)

-- the facts are all of the universe, and the formula over six variables and theirs asks that the clauses are kept
pub record IsGrounded (s : Specification) (universe : Universe) (facts : List Fact) (formula : Formula) : Type 0 where
  pub numbered : IsNumbered s universe
  pub facts_are : facts ≡ facts_over s.predicates universe
  pub vars : formula.vars ≡ 6 + length (facts_over s.predicates universe)
  pub satisfied : (a : List Bool) → Satisfies formula a ↔
      ((length a ≡ 6 + length (facts_over s.predicates universe)) × Keeps s universe (state_of s universe a))

-- the truth of the instance's fact literals, in clause order
abbrev pub fact_truths : Specification → List ℕ → List Literal → (Fact → Bool) → List Bool
fact_truths s values literals t = map (literal_true s t values) (filter is_of_fact literals)

-- the first n variables have these values, and are false past them
pub record AreTied (n : ℕ) (a bs : List Bool) : Type 0 where
  pub values : (j : ℕ) → j < n → value a j ≡ value bs j

-- the literal of the formula is that of the fact, or of its opposite
pub record IsLiteralFor (s : Specification) (universe : Universe) (f : Fact) (positive : Bool)
    (lit : Lit) : Type 0 where
  pub same : (a : List Bool) → lit_true a lit ≡
      (if positive then state_of s universe a f else not (state_of s universe a f))
  pub range : lit.var < 6 + length (facts_over s.predicates universe)

-- the literal of the formula is that of a fact literal of the instance
pub record IsLiteralOf (s : Specification) (universe : Universe) (values : List ℕ) (l : Literal)
    (lit : Lit) : Type 0 where
  pub of_fact : is_of_fact l ≡ true
  pub same : (a : List Bool) → lit_true a lit ≡ literal_true s (state_of s universe a) values l
  pub range : lit.var < 6 + length (facts_over s.predicates universe)

-- the new formula asks for what the old one does, and that the first n variables stand for the fact literals among
-- these
pub record IsTied (s : Specification) (universe : Universe) (values : List ℕ) (literals : List Literal) (n : ℕ)
    (old new : Formula) : Type 0 where
  pub count : n ≡ length (filter is_of_fact literals)
  pub adds : Adds (λ a. AreTied n a (fact_truths s values literals (state_of s universe a))) old new

-- one literal more is tied
pub record TiesMore (s : Specification) (universe : Universe) (values : List ℕ) (l : Literal) (n next : ℕ)
    (old new : Formula) : Type 0 where
  pub more : (base : Formula) (literals : List Literal) → IsTied s universe values literals n base old →
      IsTied s universe values (literals ++ l ∷ []) next base new

-- the assignment keeps the clauses, its first variables stand for the instance's fact literals, and it meets the
-- demands
pub record IsAnswer (s : Specification) (universe : Universe) (values : List ℕ) (literals : List Literal)
    (demands : List Demand) (a : List Bool) : Type 0 where
  pub total : length a ≡ 6 + length (facts_over s.predicates universe)
  pub keeps : Keeps s universe (state_of s universe a)
  pub tied : AreTied 6 a (fact_truths s values literals (state_of s universe a))
  pub demanded : AsDemanded (state_of s universe a) demands

-- the formula asks for an answer
pub record IsQuestion (s : Specification) (universe : Universe) (values : List ℕ) (literals : List Literal)
    (demands : List Demand) (f : Formula) : Type 0 where
  pub numbered : IsNumbered s universe
  pub satisfied : (a : List Bool) → Satisfies f a ↔ IsAnswer s universe values literals demands a
