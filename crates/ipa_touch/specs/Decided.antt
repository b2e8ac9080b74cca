-- Literals whose truth the first variables decide.
--
--   is_term_decided at term         the term is one of the first `at` variables, or a constant
--   is_place_decided s at a place   the place is past the arity, or its term is decided
--   is_atom_decided s at a          each place is
--   is_decided s at l               all terms of the literal are decided
--   is_settled s at t values c      a literal of the clause that is decided is true, so that all values that agree so
--                                   far pass
use Rattle.std.specs.Prelude.{ℕ, Bool, true, not, ◌&&◌, ◌||◌, nat_lt, List}
use Rattle.std.specs.List.{list_any}
use Rattle.ipa_spec.specs.Actions.{arity_of}
use Rattle.ipa_spec.specs.Faults.{term_at}
use Rattle.ipa_spec.specs.declared.specification.Specification.{Specification}
use Rattle.ipa_spec.specs.declared.constants.Term.{Term}
use Rattle.ipa_spec.specs.declared.constants.Term.TheVariants.{Var as Variable, Const as Fixed}
use Rattle.ipa_spec.specs.declared.clauses.Atom.{Atom}
use Rattle.ipa_spec.specs.declared.clauses.Literal.{Literal}
use Rattle.ipa_spec.specs.declared.clauses.Literal.TheVariants.{Holds, Fails, Same, Differ}
use Rattle.ipa_spec.specs.declared.clauses.Clause.{Clause}
use Rattle.ipa_logic.specs.Truth.{literal_true}
use Rattle.ipa_logic.specs.declared.facts.Fact.{Fact}

-- the term is one of the first `at` variables, or a constant
abbrev pub is_term_decided : ℕ → Term → Bool
is_term_decided at (Variable v) = nat_lt v at
is_term_decided at (Fixed k) = true

-- the place is past the arity, or its term is decided
abbrev pub is_place_decided : Specification → ℕ → Atom → ℕ → Bool
is_place_decided s at a place =
    not (nat_lt place (arity_of s.predicates a.predicate)) || is_term_decided at (term_at a place)

-- each place of the atom is decided
abbrev pub is_atom_decided : Specification → ℕ → Atom → Bool
is_atom_decided s at a = (is_place_decided s at a 0 && is_place_decided s at a 1) && is_place_decided s at a 2

-- all terms of the literal are decided
abbrev pub is_decided : Specification → ℕ → Literal → Bool
is_decided s at (Holds a) = is_atom_decided s at a
is_decided s at (Fails a) = is_atom_decided s at a
is_decided s at (Same v w) = is_term_decided at v && is_term_decided at w
is_decided s at (Differ v w) = is_term_decided at v && is_term_decided at w

-- a literal of the clause that is decided is true, so that all values that agree so far pass
abbrev pub is_settled : Specification → ℕ → (Fact → Bool) → List ℕ → Clause → Bool
is_settled s at t values c = list_any (λ l. is_decided s at l && literal_true s t values l) c.literals
