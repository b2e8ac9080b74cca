-- What the parts of a specification have by their types: lists of three places.
--
--   LiteralShaped l   the atom of a literal has three places
--   IsShaped s        so has each predicate, atom, effect and bound
use Rattle.std.specs.Prelude.{◌≡◌, ℕ, length, slice_get, Some}
use Rattle.ipa_spec.specs.declared.predicates.Predicate.{Predicate}
use Rattle.ipa_spec.specs.declared.clauses.Clause.{Clause}
use Rattle.ipa_spec.specs.declared.clauses.Literal.{Literal}
use Rattle.ipa_spec.specs.declared.clauses.Literal.TheVariants.{Holds, Fails, Same, Differ}
use Rattle.ipa_spec.specs.declared.operations.Effect.{Effect}
use Rattle.ipa_spec.specs.declared.operations.Operation.{Operation}
use Rattle.ipa_spec.specs.declared.bounds.Bound.{Bound}
use Rattle.ipa_spec.specs.declared.specification.Specification.{Specification}

abbrev pub LiteralShaped : Literal → Type 0
LiteralShaped (Holds a) = length a.args ≡ 3
LiteralShaped (Fails a) = length a.args ≡ 3
LiteralShaped (Same v w) = Unit {0}
LiteralShaped (Differ v w) = Unit {0}

pub record IsShaped (s : Specification) : Type 0 where
  pub predicates : (n : ℕ) (p : Predicate) → slice_get s.predicates n ≡ Some p → length p.sorts ≡ 3
  pub literals : (n k : ℕ) (c : Clause) (l : Literal) → slice_get s.clauses n ≡ Some c →
      slice_get c.literals k ≡ Some l → LiteralShaped l
  pub needs : (n k : ℕ) (o : Operation) (l : Literal) → slice_get s.operations n ≡ Some o →
      slice_get o.needs k ≡ Some l → LiteralShaped l
  pub effects : (n k : ℕ) (o : Operation) (e : Effect) → slice_get s.operations n ≡ Some o →
      slice_get o.effects k ≡ Some e → length e.args ≡ 3
  pub vars : (n : ℕ) (b : Bound) → slice_get s.bounds n ≡ Some b → length b.vars ≡ 3
  pub removes : (n k : ℕ) (b : Bound) (e : Effect) → slice_get s.bounds n ≡ Some b → slice_get b.removes k ≡ Some e →
      length e.args ≡ 3
