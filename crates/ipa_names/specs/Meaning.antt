-- The specification that lines declare: each name is replaced by the number of its first declaration, counted from 0.
-- A name without a declaration has the number past the last; in a document that is not refused there is none.
--
--   clause_of, operation_of, bound_of, ..   what is declared, by numbers
--   term_of d scope name                    what a name means in a literal: the variable of the list, or else the constant
--   specification_of d                      the specification
use Rattle.std.specs.Prelude.{ℕ, List, [], ◌∷◌, length, map, Option, slice_index_or}
use Rattle.std.specs.Option.{option_map_or}
use Rattle.ipa_spec.specs.declared.names.Name.{Name}
use Rattle.ipa_spec.specs.declared.constants.Constant.{Constant}
use Rattle.ipa_spec.specs.declared.constants.Term.{Term}
use Rattle.ipa_spec.specs.declared.constants.Term.TheVariants.{Var as Variable, Const as Fixed}
use Rattle.ipa_spec.specs.declared.predicates.Predicate.{Predicate}
use Rattle.ipa_spec.specs.declared.predicates.Var.{Var}
use Rattle.ipa_spec.specs.declared.clauses.Atom.{Atom}
use Rattle.ipa_spec.specs.declared.clauses.Literal.{Literal}
use Rattle.ipa_spec.specs.declared.clauses.Literal.TheVariants as literal
use Rattle.ipa_spec.specs.declared.clauses.Clause.{Clause}
use Rattle.ipa_spec.specs.declared.operations.Arg.{Arg}
use Rattle.ipa_spec.specs.declared.operations.Arg.TheVariants.{Var as Parameter, Const as FixedArg, Any}
use Rattle.ipa_spec.specs.declared.operations.Effect.{Effect}
use Rattle.ipa_spec.specs.declared.operations.Operation.{Operation}
use Rattle.ipa_spec.specs.declared.bounds.Bound.{Bound}
use Rattle.ipa_spec.specs.declared.specification.Specification.{Specification}
use Rattle.ipa_names.specs.Naming.{number_in, number_or_count}
use Rattle.ipa_names.specs.Scopes.{bound_variables}
use Rattle.ipa_forms.specs.declared.forms.Typed.{Typed}
use Rattle.ipa_forms.specs.declared.forms.AtomForm.{AtomForm}
use Rattle.ipa_forms.specs.declared.forms.LiteralForm.{LiteralForm}
use Rattle.ipa_forms.specs.declared.forms.LiteralForm.TheVariants.{Holds, Fails, Same, Differ}
use Rattle.ipa_names.specs.declared.declared.PredicateLine.{PredicateLine}
use Rattle.ipa_names.specs.declared.declared.ClauseLine.{ClauseLine}
use Rattle.ipa_names.specs.declared.declared.EffectLine.{EffectLine}
use Rattle.ipa_names.specs.declared.declared.OperationLines.{OperationLines}
use Rattle.ipa_names.specs.declared.declared.BoundLines.{BoundLines}
use Rattle.ipa_names.specs.declared.declared.Declared.{Declared}

-- a list of sorts of a fixed width: 0 stands in the unused places
abbrev pub three : List ℕ → List ℕ
three ns = slice_index_or ns 0 0 ∷ slice_index_or ns 1 0 ∷ slice_index_or ns 2 0 ∷ []

abbrev pub predicate_number : Declared → Name → ℕ
predicate_number d name = number_or_count (map (λ p. p.name) d.predicates) name

abbrev pub sort_number : Declared → Name → ℕ
sort_number d name = number_or_count d.sorts name

abbrev pub constant_number : Declared → Name → ℕ
constant_number d name = number_or_count (map (λ c. c.name) d.constants) name

-- the number of a variable in its list, where it is one of them
abbrev pub variable_number : List Typed → Name → Option ℕ
variable_number scope name = number_in (map (λ v. v.name) scope) name

abbrev pub constant_of : Declared → Typed → Constant
constant_of d c = record { name = c.name; sort = sort_number d c.sort }

-- 0 stands in the unused places
abbrev pub predicate_of : Declared → PredicateLine → Predicate
predicate_of d p = record {
  name = p.name;
  arity = length p.sorts;
  sorts = three (map (sort_number d) p.sorts);
  rule = p.rule;
}

abbrev pub var_of : Declared → Typed → Var
var_of d v = record { name = v.name; sort = sort_number d v.sort }

-- what a name means in a place of an atom, or on a side of an equality: the variable of the list, or else the constant
abbrev pub term_of : Declared → List Typed → Name → Term
term_of d scope name = option_map_or (λ v. Variable v) (variable_number scope name) (Fixed (constant_number d name))

-- the first variable stands in the unused places
abbrev pub three_terms : List Term → List Term
three_terms ts =
    slice_index_or ts 0 (Variable 0) ∷ slice_index_or ts 1 (Variable 0) ∷ slice_index_or ts 2 (Variable 0) ∷ []

abbrev pub atom_of : Declared → List Typed → AtomForm → Atom
atom_of d scope a = record {
  predicate = predicate_number d a.predicate;
  args = three_terms (map (term_of d scope) a.args);
}

abbrev pub literal_of : Declared → List Typed → LiteralForm → Literal
literal_of d scope (Holds a) = literal.Holds (atom_of d scope a)
literal_of d scope (Fails a) = literal.Fails (atom_of d scope a)
literal_of d scope (Same one other) = literal.Same (term_of d scope one) (term_of d scope other)
literal_of d scope (Differ one other) = literal.Differ (term_of d scope one) (term_of d scope other)

abbrev pub clause_of : Declared → ClauseLine → Clause
clause_of d c = record { name = c.name; vars = map (var_of d) c.vars; literals = map (literal_of d c.vars) c.literals }

-- the argument that a term is
abbrev pub term_arg : Term → Arg
term_arg (Variable v) = Parameter v
term_arg (Fixed k) = FixedArg k

abbrev pub arg_of : Declared → List Typed → Option Name → Arg
arg_of d scope argument = option_map_or (λ name. term_arg (term_of d scope name)) argument Any

-- `*` stands in the unused places
abbrev pub three_args : List Arg → List Arg
three_args args = slice_index_or args 0 Any ∷ slice_index_or args 1 Any ∷ slice_index_or args 2 Any ∷ []

abbrev pub effect_of : Declared → List Typed → EffectLine → Effect
effect_of d scope e = record {
  add = e.add;
  predicate = predicate_number d e.predicate;
  args = three_args (map (arg_of d scope) e.args);
}

abbrev pub operation_of : Declared → OperationLines → Operation
operation_of d o = record {
  name = o.name;
  params = map (var_of d) o.params;
  needs = map (literal_of d o.params) o.needs;
  effects = map (effect_of d o.params) o.effects;
}

-- the name of the first place stands in the unused places, and the bound's own where it has none
abbrev pub three_names : Name → List Name → List Name
three_names own [] = own ∷ own ∷ own ∷ []
three_names own (first ∷ others) = first ∷ slice_index_or others 0 first ∷ slice_index_or others 1 first ∷ []

abbrev pub bound_of : Declared → BoundLines → Bound
bound_of d b = record {
  name = b.name;
  predicate = predicate_number d b.predicate;
  vars = three_names b.name b.vars;
  counted = number_or_count b.vars b.counted;
  most = b.most;
  removes = map (effect_of d (bound_variables d b)) b.removes;
  pick = b.pick;
}

abbrev pub specification_of : Declared → Specification
specification_of d = record {
  sorts = d.sorts;
  constants = map (constant_of d) d.constants;
  predicates = map (predicate_of d) d.predicates;
  clauses = map (clause_of d) d.clauses;
  operations = map (operation_of d) d.operations;
  bounds = map (bound_of d) d.bounds;
}
