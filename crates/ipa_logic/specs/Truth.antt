-- Truth in a state, which enters as a test of facts.
--
--   value_at values k              the k-th of some values
--   element_of s values t          the element that a term stands for: the value of a variable, or a constant's own element
--   IsOver universe sorts values   the values give each variable an element of its sort
--   IsArguments, IsValues          arguments of an action, values of a clause's variables, over the universe
--   fact_of s values a             the fact that an atom stands for under values
--   literal_true s t values l      the literal is true where t tells the true facts
--   instance_true s t values c     one of the clause's literals is
--   Keeps s universe t             every instance of every clause over the universe is true
--   IsEarlier v w                  values in lexicographic order
--   IsFirstBroken s universe t k v   the instance of clause k with values v is the first that is not true, by clause
--                                    and then by values
use Rattle.std.specs.Prelude.{◌≡◌, ℕ, ◌<◌, ◌≤◌, Bool, true, false, not, nat_lt, ◌==◌, List, [], ◌∷◌, length, slice_get, slice_index, Some, if◌then◌else◌}
use Rattle.std.specs.List.{list_any}
use Rattle.ipa_spec.specs.Actions.{arity_of, sorts_of, sorts_of_vars}
use Rattle.ipa_spec.specs.Constants.{element_of_constant}
use Rattle.ipa_spec.specs.Faults.{term_at}
use Rattle.ipa_spec.specs.declared.specification.Specification.{Specification}
use Rattle.ipa_spec.specs.declared.constants.Term.{Term}
use Rattle.ipa_spec.specs.declared.constants.Term.TheVariants.{Var as Variable, Const as Fixed}
use Rattle.ipa_spec.specs.declared.clauses.Atom.{Atom}
use Rattle.ipa_spec.specs.declared.clauses.Literal.{Literal}
use Rattle.ipa_spec.specs.declared.clauses.Literal.TheVariants.{Holds, Fails, Same, Differ}
use Rattle.ipa_spec.specs.declared.clauses.Clause.{Clause}
use Rattle.ipa_spec.specs.declared.operations.Action.{Action}
use Rattle.ipa_logic.specs.Facts.{Universe, size_of}
use Rattle.ipa_logic.specs.declared.facts.Fact.{Fact}

-- the k-th of some values
abbrev pub value_at : List ℕ → ℕ → ℕ
value_at values k = slice_index values k

-- the element that a term stands for: the value of a variable, or a constant's own element
abbrev pub element_of : Specification → List ℕ → Term → ℕ
element_of s values (Variable v) = value_at values v
element_of s values (Fixed k) = element_of_constant s k

-- four values: each of the variables has an element of its sort, and 0 stands past them
pub record IsOver (universe : Universe) (sorts values : List ℕ) : Type 0 where
  pub elements : (v sort : ℕ) → slice_get sorts v ≡ Some sort → value_at values v < size_of universe sort
  pub unused : (v : ℕ) → length sorts ≤ v → value_at values v ≡ 0
  pub width : length values ≡ 4

-- arguments of an action over the universe
abbrev pub IsArguments : Specification → Universe → Action → List ℕ → Type 0
IsArguments s universe action args = IsOver universe (sorts_of s action) args

-- values of a clause's variables over the universe
abbrev pub IsValues : Universe → Clause → List ℕ → Type 0
IsValues universe c values = IsOver universe (sorts_of_vars c.vars) values

-- the element in a place of an atom's fact: 0 past the predicate's arity
abbrev pub element_at : Specification → List ℕ → Atom → ℕ → ℕ
element_at s values a place = if nat_lt place (arity_of s.predicates a.predicate) then element_of s values (term_at a place) else 0

-- the fact that an atom stands for under values
abbrev pub fact_of : Specification → List ℕ → Atom → Fact
fact_of s values a = record {
  predicate = a.predicate;
  args = element_at s values a 0 ∷ element_at s values a 1 ∷ element_at s values a 2 ∷ [];
}

-- the two terms stand for the same element
abbrev pub same_value : Specification → List ℕ → Term → Term → Bool
same_value s values v w = element_of s values v == element_of s values w

-- the literal is true where t tells the true facts
abbrev pub literal_true : Specification → (Fact → Bool) → List ℕ → Literal → Bool
literal_true s t values (Holds a) = t (fact_of s values a)
literal_true s t values (Fails a) = not (t (fact_of s values a))
literal_true s t values (Same v w) = same_value s values v w
literal_true s t values (Differ v w) = not (same_value s values v w)

-- the instance is true: one of its literals is
abbrev pub instance_true : Specification → (Fact → Bool) → List ℕ → Clause → Bool
instance_true s t values c = list_any (literal_true s t values) c.literals

-- every instance of the clause over the universe is true
pub record KeepsClause (s : Specification) (universe : Universe) (t : Fact → Bool) (c : Clause) : Type 0 where
  pub instances : (values : List ℕ) → IsValues universe c values → instance_true s t values c ≡ true

-- every instance of every clause over the universe is true
pub record Keeps (s : Specification) (universe : Universe) (t : Fact → Bool) : Type 0 where
  pub clauses : (k : ℕ) (c : Clause) → slice_get s.clauses k ≡ Some c → KeepsClause s universe t c

-- v comes before w: at the first place where they differ v has the lesser number
pub record IsEarlier (v w : List ℕ) : Type 0 where
  pub place : ℕ
  pub same : (k : ℕ) → k < place → value_at v k ≡ value_at w k
  pub less : value_at v place < value_at w place

-- the instance of clause k with these values is the first that is not true, by clause and then by values
pub record IsFirstBroken (s : Specification) (universe : Universe) (t : Fact → Bool) (k : ℕ) (values : List ℕ) : Type 0 where
  pub clause : Clause
  pub declared : slice_get s.clauses k ≡ Some clause
  pub over : IsValues universe clause values
  pub broken : instance_true s t values clause ≡ false
  pub earlier_clauses : (j : ℕ) (c : Clause) → j < k → slice_get s.clauses j ≡ Some c →
      KeepsClause s universe t c
  pub earlier_values : (v : List ℕ) → IsValues universe clause v → IsEarlier v values →
      instance_true s t v clause ≡ true
