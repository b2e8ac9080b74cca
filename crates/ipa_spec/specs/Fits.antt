-- What a faultless specification keeps: every number in it names something, every variable and every constant
-- stands in places of its own sort, and each count is within its limit.
--
--   AtomFits, LiteralFits, EffectFits   of the parts of clauses and actions
--   IsFit s                             of a whole specification
--
-- That a faultless specification is fit, `IsFit-from_faultless`, is shown in FaultlessFits.
use Rattle.std.specs.Prelude.{◌≡◌, ℕ, ◌<◌, ◌≤◌, true, false, List, [], length, slice_get, slice_index, slice_index_or, Some}
use Rattle.ipa_spec.specs.Constants.{sort_of_constant, constant_count, sort_of_term}
use Rattle.ipa_spec.specs.Faults.{term_at}
use Rattle.ipa_spec.specs.Actions.{effects_of, needs_of, sorts_of, sorts_of_vars}
use Rattle.ipa_spec.specs.declared.specification.Specification.{Specification}
use Rattle.ipa_spec.specs.declared.constants.Term.{Term}
use Rattle.ipa_spec.specs.declared.predicates.Predicate.{Predicate}
use Rattle.ipa_spec.specs.declared.clauses.Atom.{Atom}
use Rattle.ipa_spec.specs.declared.clauses.Clause.{Clause}
use Rattle.ipa_spec.specs.declared.clauses.Literal.{Literal}
use Rattle.ipa_spec.specs.declared.clauses.Literal.TheVariants.{Holds, Fails, Same, Differ}
use Rattle.ipa_spec.specs.declared.operations.Arg.TheVariants.{Var as Parameter, Const as FixedArg, Any}
use Rattle.ipa_spec.specs.declared.operations.Effect.{Effect}
use Rattle.ipa_spec.specs.declared.operations.Action.{Action}
use Rattle.ipa_spec.specs.declared.operations.Operation.{Operation}
use Rattle.ipa_spec.specs.declared.bounds.Bound.{Bound}

-- an atom over variables of these sorts: its predicate is declared, and each place has a variable or a constant of its sort
pub record AtomFits (s : Specification) (sorts : List ℕ) (a : Atom) : Type 0 where
  pub predicate : Predicate
  pub declared : slice_get s.predicates a.predicate ≡ Some predicate
  pub short : predicate.arity ≤ 3
  pub places : (k : ℕ) → k < predicate.arity →
      sort_of_term s sorts (term_at a k) ≡ Some (slice_index predicate.sorts k)

-- two terms of one sort
pub record ComparisonFits (s : Specification) (sorts : List ℕ) (v w : Term) : Type 0 where
  pub sort : ℕ
  pub first : sort_of_term s sorts v ≡ Some sort
  pub second : sort_of_term s sorts w ≡ Some sort

-- a literal over variables of these sorts
abbrev pub LiteralFits : Specification → List ℕ → Literal → Type 0
LiteralFits s sorts (Holds a) = AtomFits s sorts a
LiteralFits s sorts (Fails a) = AtomFits s sorts a
LiteralFits s sorts (Same v w) = ComparisonFits s sorts v w
LiteralFits s sorts (Differ v w) = ComparisonFits s sorts v w

-- an effect over parameters of these sorts: an add has no `*`
pub record EffectFits (s : Specification) (sorts : List ℕ) (e : Effect) : Type 0 where
  pub predicate : Predicate
  pub declared : slice_get s.predicates e.predicate ≡ Some predicate
  pub short : predicate.arity ≤ 3
  pub places : (k v : ℕ) → k < predicate.arity → slice_index_or e.args k Any ≡ Parameter v →
      slice_get sorts v ≡ Some (slice_index predicate.sorts k)
  pub fixed : (k c : ℕ) → k < predicate.arity → slice_index_or e.args k Any ≡ FixedArg c →
      sort_of_constant s c ≡ Some (slice_index predicate.sorts k)
  pub unused : (k : ℕ) → predicate.arity ≤ k → k < 3 → slice_index_or e.args k Any ≡ Any
  pub exact : e.add ≡ true → (k : ℕ) → k < predicate.arity → slice_index_or e.args k Any ≡ Any → ⊥

-- every number in the specification names something, and every variable and constant stands in places of its sort
pub record IsFit (s : Specification) : Type 0 where
  pub sort_count : length s.sorts ≤ 8
  pub predicate_count : length s.predicates ≤ 32
  pub clause_count : length s.clauses ≤ 32
  pub operation_count : length s.operations ≤ 32
  pub bound_count : length s.bounds ≤ 8
  pub constant_sort : (k sort : ℕ) → sort_of_constant s k ≡ Some sort → sort < length s.sorts
  pub constant_most : (sort : ℕ) → constant_count s sort ≤ 4
  pub arities : (n : ℕ) (p : Predicate) → slice_get s.predicates n ≡ Some p → p.arity ≤ 3
  pub place_sort : (n k : ℕ) (p : Predicate) → slice_get s.predicates n ≡ Some p → k < p.arity →
      slice_index p.sorts k < length s.sorts
  pub variable_count : (n : ℕ) (c : Clause) → slice_get s.clauses n ≡ Some c → length c.vars ≤ 4
  pub literal_count : (n : ℕ) (c : Clause) → slice_get s.clauses n ≡ Some c → length c.literals ≤ 6
  pub variable_sort : (n k sort : ℕ) (c : Clause) → slice_get s.clauses n ≡ Some c →
      slice_get (sorts_of_vars c.vars) k ≡ Some sort → sort < length s.sorts
  pub literals : (n k : ℕ) (c : Clause) (l : Literal) → slice_get s.clauses n ≡ Some c →
      slice_get c.literals k ≡ Some l → LiteralFits s (sorts_of_vars c.vars) l
  pub argument_count : (action : Action) → length (sorts_of s action) ≤ 4
  pub argument_sort : (action : Action) (k sort : ℕ) → slice_get (sorts_of s action) k ≡ Some sort →
      sort < length s.sorts
  pub needs : (action : Action) (k : ℕ) (l : Literal) → slice_get (needs_of s action) k ≡ Some l →
      LiteralFits s (sorts_of s action) l
  pub effects : (action : Action) (k : ℕ) (e : Effect) →
      slice_get (effects_of s action) k ≡ Some e → EffectFits s (sorts_of s action) e
  pub need_count : (n : ℕ) (o : Operation) → slice_get s.operations n ≡ Some o → length o.needs ≤ 6
  pub effect_count : (n : ℕ) (o : Operation) → slice_get s.operations n ≡ Some o → length o.effects ≤ 12
  pub remove_count : (n : ℕ) (b : Bound) → slice_get s.bounds n ≡ Some b → length b.removes ≤ 4
  pub bound_predicate : (n : ℕ) (b : Bound) → slice_get s.bounds n ≡ Some b →
      b.predicate < length s.predicates
  pub counted : (n : ℕ) (b : Bound) (p : Predicate) → slice_get s.bounds n ≡ Some b →
      slice_get s.predicates b.predicate ≡ Some p → b.counted < p.arity
  pub drops_remove : (n k : ℕ) (e : Effect) (b : Bound) → slice_get s.bounds n ≡ Some b →
      slice_get b.removes k ≡ Some e → e.add ≡ false
