-- The steps of grounding: literals, instances, and values from some place on.
--
--   IsReady s universe starts first limit   what grounding stands on
--   ComesTo s universe first values l g     what a literal of an instance comes to
--   IsLitOf s universe first f positive lit the literal of the formula is that of the fact, or of its opposite
--   IsOpposite one other                    the two literals of the formula are opposites
--   AreGround s universe first values ls lits   the literals of the formula are together what those of the instance are
--   IsAlwaysTrue s universe first values ls     those of the instance are true whatever the facts are
--   GroundsInstance, GroundsFrom            what satisfies the formula makes an instance true, or all of some values
use Rattle.std.specs.Prelude.{◌≡◌, ℕ, ◌+◌, ◌<◌, ◌≤◌, Bool, true, false, List, length, slice_get, Some}
use Rattle.std.specs.List.{list_any, All}
use Rattle.ipa_spec.specs.declared.specification.Specification.{Specification}
use Rattle.ipa_spec.specs.Actions.{sorts_of_vars}
use Rattle.ipa_spec.specs.declared.clauses.Clause.{Clause}
use Rattle.ipa_spec.specs.declared.clauses.Literal.{Literal}
use Rattle.ipa_spec.specs.Fits.{IsFit}
use Rattle.ipa_logic.specs.Facts.{Universe, IsUniverse}
use Rattle.ipa_logic.specs.Truth.{instance_true, literal_true as holds}
use Rattle.ipa_logic.specs.declared.facts.Fact.{Fact}
use Rattle.ipa_sat.specs.Formula.{Formula, Satisfies, clause_true, literal_true as lit_true}
use Rattle.ipa_sat.specs.declared.cnf.Lit.{Lit}
use Rattle.ipa_ground.specs.Enumeration.{facts_over}
use Rattle.ipa_ground.specs.Grounding.{test_of}
use Rattle.ipa_ground.specs.Instances.{PassesFrom}
use Rattle.ipa_ground.specs.Places.{AreSmall, AreStarts}
use Rattle.ipa_ground.specs.declared.grounding.Ground.{Ground}
use Rattle.ipa_ground.specs.declared.grounding.Ground.TheVariants.{True, False, Depends}

-- what grounding stands on: a fitting specification, a small universe of it, the table of starts, and a variable for
-- each fact
pub record IsReady (s : Specification) (universe : Universe) (starts : List ℕ) (first limit : ℕ) : Type 0 where
  pub fit : IsFit s
  pub sizes : IsUniverse s universe
  pub small : AreSmall universe
  pub table : AreStarts starts s.predicates universe
  pub room : first + length (facts_over s.predicates universe) ≤ limit

-- the literal of the formula is what that of the instance is, and of a fact over the universe
pub record IsGroundLiteral (s : Specification) (universe : Universe) (first : ℕ) (values : List ℕ) (l : Literal)
    (lit : Lit) : Type 0 where
  pub same : (a : List Bool) → lit_true a lit ≡ holds s (test_of first a (facts_over s.predicates universe)) values l
  pub range : lit.var < first + length (facts_over s.predicates universe)

-- what a literal of an instance comes to: it is true, or false, or it is what a literal of the formula is
abbrev pub ComesTo : Specification → Universe → ℕ → List ℕ → Literal → Ground → Type 0
ComesTo s universe first values l True = (t : Fact → Bool) → holds s t values l ≡ true
ComesTo s universe first values l False = (t : Fact → Bool) → holds s t values l ≡ false
ComesTo s universe first values l (Depends lit) = IsGroundLiteral s universe first values l lit

-- the literals of the formula are together what the first literals of the instance are
pub record AreGround (s : Specification) (universe : Universe) (first : ℕ) (values : List ℕ)
    (ls : List Literal) (lits : List Lit) : Type 0 where
  pub same : (a : List Bool) → clause_true a lits ≡
      list_any (holds s (test_of first a (facts_over s.predicates universe)) values) ls
  pub range : All (λ lit. lit.var < first + length (facts_over s.predicates universe)) lits

-- the instance is true whatever the assignment is
pub record IsAlwaysTrue (s : Specification) (universe : Universe) (first : ℕ) (values : List ℕ)
    (ls : List Literal) : Type 0 where
  pub true_for : (a : List Bool) →
      list_any (holds s (test_of first a (facts_over s.predicates universe)) values) ls ≡ true

-- a comparison comes to its truth
abbrev pub IsDecided : Bool → Ground → Type 0
IsDecided holds True = holds ≡ true
IsDecided holds False = holds ≡ false
IsDecided holds (Depends lit) = ⊥

-- the literal is that of the fact, or of its opposite
pub record IsLitOf (s : Specification) (universe : Universe) (first : ℕ) (f : Fact) (positive : Bool)
    (lit : Lit) : Type 0 where
  pub place : ℕ
  pub there : slice_get (facts_over s.predicates universe) place ≡ Some f
  pub var_is : lit.var ≡ first + place
  pub sign : lit.positive ≡ positive

-- what satisfies the formula makes the instance true
pub record GroundsInstance (s : Specification) (universe : Universe) (first : ℕ) (c : Clause) (values : List ℕ)
    (formula : Formula) : Type 0 where
  pub holds : (a : List Bool) → Satisfies formula a →
      instance_true s (test_of first a (facts_over s.predicates universe)) values c ≡ true

-- what satisfies the formula makes every instance true that fills the values from the place on
pub record GroundsFrom (s : Specification) (universe : Universe) (first : ℕ) (c : Clause) (at : ℕ)
    (values : List ℕ) (formula : Formula) : Type 0 where
  pub passes : (a : List Bool) → Satisfies formula a →
      PassesFrom (λ v. instance_true s (test_of first a (facts_over s.predicates universe)) v c) universe
      (sorts_of_vars c.vars) at values

-- the two are of one variable, and opposites
pub record IsOpposite (one other : Lit) : Type 0 where
  pub same_var : one.var ≡ other.var
  pub other_sign : one.positive ≡ other.positive → ⊥
