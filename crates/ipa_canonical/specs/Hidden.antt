-- Constants that their name does not say: in a literal or an effect a name means the variable of the list that has it,
-- and a constant only where none has it.
--
--   hides vars c            one of the variables has the constant's name
--   IsSaidByName s vars k   no variable hides the constant of this number
--   TermIsSaid, LiteralIsSaid, EffectIsSaid s vars x   so it is of each constant of a term, a literal, or an effect
--   HidesNoConstant s       and so of all literals and effects, each over the variables of its own list
use Rattle.std.specs.Prelude.{◌≡◌, ℕ, Bool, false, List, slice_get, slice_index_or, Some}
use Rattle.ipa_spec.specs.Faults.{term_at}
use Rattle.ipa_spec.specs.declared.names.Name.{Name}
use Rattle.ipa_spec.specs.declared.constants.Constant.{Constant}
use Rattle.ipa_spec.specs.declared.constants.Term.{Term}
use Rattle.ipa_spec.specs.declared.constants.Term.TheVariants.{Var as Variable, Const as Fixed}
use Rattle.ipa_spec.specs.declared.clauses.Atom.{Atom}
use Rattle.ipa_spec.specs.declared.clauses.Literal.{Literal}
use Rattle.ipa_spec.specs.declared.clauses.Literal.TheVariants.{Holds, Fails, Same, Differ}
use Rattle.ipa_spec.specs.declared.clauses.Clause.{Clause}
use Rattle.ipa_spec.specs.declared.operations.Arg.TheVariants.{Const as FixedArg, Any}
use Rattle.ipa_spec.specs.declared.operations.Effect.{Effect}
use Rattle.ipa_spec.specs.declared.operations.Operation.{Operation}
use Rattle.ipa_spec.specs.declared.bounds.Bound.{Bound}
use Rattle.ipa_spec.specs.declared.specification.Specification.{Specification}
use Rattle.ipa_names.specs.Naming.{is_among}
use Rattle.ipa_canonical.specs.Canonical.{names_of, bound_vars}

-- one of the variables has the constant's name
abbrev pub hides : List Name → Constant → Bool
hides vars c = is_among vars c.name

-- no variable has the name of the constant of this number
pub record IsSaidByName (s : Specification) (vars : List Name) (k : ℕ) : Type 0 where
  pub each : (c : Constant) → slice_get s.constants k ≡ Some c → hides vars c ≡ false

abbrev pub TermIsSaid : Specification → List Name → Term → Type 0
TermIsSaid s vars (Variable v) = Unit {0}
TermIsSaid s vars (Fixed k) = IsSaidByName s vars k

pub record AtomIsSaid (s : Specification) (vars : List Name) (a : Atom) : Type 0 where
  pub places : (place : ℕ) → TermIsSaid s vars (term_at a place)

abbrev pub LiteralIsSaid : Specification → List Name → Literal → Type 0
LiteralIsSaid s vars (Holds a) = AtomIsSaid s vars a
LiteralIsSaid s vars (Fails a) = AtomIsSaid s vars a
LiteralIsSaid s vars (Same one other) = TermIsSaid s vars one × TermIsSaid s vars other
LiteralIsSaid s vars (Differ one other) = TermIsSaid s vars one × TermIsSaid s vars other

pub record EffectIsSaid (s : Specification) (vars : List Name) (e : Effect) : Type 0 where
  pub places : (place k : ℕ) → slice_index_or e.args place Any ≡ FixedArg k → IsSaidByName s vars k

-- no constant that a literal or an effect names has the name of a variable of its list
pub record HidesNoConstant (s : Specification) : Type 0 where
  pub literals : (n k : ℕ) (c : Clause) (l : Literal) → slice_get s.clauses n ≡ Some c →
      slice_get c.literals k ≡ Some l → LiteralIsSaid s (names_of c.vars) l
  pub needs : (n k : ℕ) (o : Operation) (l : Literal) → slice_get s.operations n ≡ Some o →
      slice_get o.needs k ≡ Some l → LiteralIsSaid s (names_of o.params) l
  pub effects : (n k : ℕ) (o : Operation) (e : Effect) → slice_get s.operations n ≡ Some o →
      slice_get o.effects k ≡ Some e → EffectIsSaid s (names_of o.params) e
  pub removes : (n k : ℕ) (b : Bound) (e : Effect) → slice_get s.bounds n ≡ Some b → slice_get b.removes k ≡ Some e →
      EffectIsSaid s (bound_vars s.predicates b) e
