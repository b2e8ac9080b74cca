-- The canonical text of a specification: a line for each of its parts, in declared order, with names in place of
-- numbers.
--
--   const_form ..         the form of the line of a part
--   operation_forms s o   an operation, then its needs, then its effects
--   bound_forms s b       a bound, then its further removes
--   forms_of s            the forms of all lines
--   canonical_text s      their canonical lines
--
-- A number that names nothing, of which a specification without a fault has none, has the name of the part that it
-- stands in.
use Rattle.std.specs.Prelude.{ℕ, List, ◌∷◌, ◌++◌, map, take, slice_get, slice_index_or, Option, None, Some, if◌then◌else◌}
use Rattle.std.specs.List.{flat_map}
use Rattle.std.specs.Option.{option_map_or}
use Rattle.ipa_spec.specs.Actions.{arity_of}
use Rattle.ipa_spec.specs.declared.names.Name.{Name}
use Rattle.ipa_spec.specs.declared.constants.Constant.{Constant}
use Rattle.ipa_spec.specs.declared.constants.Term.{Term}
use Rattle.ipa_spec.specs.declared.constants.Term.TheVariants.{Var as Variable, Const as Fixed}
use Rattle.ipa_spec.specs.declared.predicates.Predicate.{Predicate}
use Rattle.ipa_spec.specs.declared.predicates.Var.{Var}
use Rattle.ipa_spec.specs.declared.clauses.Atom.{Atom}
use Rattle.ipa_spec.specs.declared.clauses.Literal.{Literal}
use Rattle.ipa_spec.specs.declared.clauses.Literal.TheVariants.{Holds, Fails, Same, Differ}
use Rattle.ipa_spec.specs.declared.clauses.Clause.{Clause}
use Rattle.ipa_spec.specs.declared.operations.Arg.{Arg}
use Rattle.ipa_spec.specs.declared.operations.Arg.TheVariants.{Var as Parameter, Const as FixedArg, Any}
use Rattle.ipa_spec.specs.declared.operations.Effect.{Effect}
use Rattle.ipa_spec.specs.declared.operations.Operation.{Operation}
use Rattle.ipa_spec.specs.declared.bounds.Bound.{Bound}
use Rattle.ipa_spec.specs.declared.specification.Specification.{Specification}
use Rattle.ipa_forms.specs.Layout.{text_of}
use Rattle.ipa_forms.specs.declared.forms.Typed.{Typed}
use Rattle.ipa_forms.specs.declared.forms.AtomForm.{AtomForm}
use Rattle.ipa_forms.specs.declared.forms.LiteralForm.{LiteralForm}
use Rattle.ipa_forms.specs.declared.forms.LiteralForm.TheVariants as said
use Rattle.ipa_forms.specs.declared.forms.Form.{Form}
use Rattle.ipa_forms.specs.declared.forms.Form.TheVariants as line

-- the names of these numbers among names
abbrev pub names_at : List Name → Name → List ℕ → List Name
names_at names own numbers = map (λ n. slice_index_or names n own) numbers

abbrev pub predicate_name : Specification → Name → ℕ → Name
predicate_name s own n = option_map_or (λ p. p.name) (slice_get s.predicates n) own

abbrev pub constant_name : Specification → Name → ℕ → Name
constant_name s own n = option_map_or (λ c. c.name) (slice_get s.constants n) own

abbrev pub const_form : List Name → Constant → Form
const_form sorts c = line.Const (record { name = c.name; sort = slice_index_or sorts c.sort c.name })

-- only the used places of a predicate, an atom, an effect or a bound are said
abbrev pub pred_form : List Name → Predicate → Form
pred_form sorts p = line.Pred p.name (names_at sorts p.name (take p.arity p.sorts)) p.rule

abbrev pub typed_form : List Name → Var → Typed
typed_form sorts v = record { name = v.name; sort = slice_index_or sorts v.sort v.name }

-- the name of what stands in a place of an atom, or on a side of an equality
abbrev pub term_name : Specification → Name → List Name → Term → Name
term_name s own vars (Variable v) = slice_index_or vars v own
term_name s own vars (Fixed k) = constant_name s own k

abbrev pub atom_form : Specification → Name → List Name → Atom → AtomForm
atom_form s own vars a = record {
  predicate = predicate_name s own a.predicate;
  args = map (term_name s own vars) (take (arity_of s.predicates a.predicate) a.args);
}

abbrev pub literal_form : Specification → Name → List Name → Literal → LiteralForm
literal_form s own vars (Holds a) = said.Holds (atom_form s own vars a)
literal_form s own vars (Fails a) = said.Fails (atom_form s own vars a)
literal_form s own vars (Same v w) = said.Same (term_name s own vars v) (term_name s own vars w)
literal_form s own vars (Differ v w) = said.Differ (term_name s own vars v) (term_name s own vars w)

-- the names of variables
abbrev pub names_of : List Var → List Name
names_of vars = map (λ v. v.name) vars

abbrev pub clause_form : Specification → Clause → Form
clause_form s c =
    line.Clause c.name (map (typed_form s.sorts) c.vars) (map (literal_form s c.name (names_of c.vars)) c.literals)

abbrev pub arg_form : Specification → Name → List Name → Arg → Option Name
arg_form s own vars (Parameter v) = Some (slice_index_or vars v own)
arg_form s own vars (FixedArg k) = Some (constant_name s own k)
arg_form s own vars Any = None

abbrev pub args_form : Specification → Name → List Name → Effect → List (Option Name)
args_form s own vars e = map (arg_form s own vars) (take (arity_of s.predicates e.predicate) e.args)

abbrev pub need_form : Specification → Name → List Name → Literal → Form
need_form s own vars l = line.Need (literal_form s own vars l)

abbrev pub effect_form : Specification → Name → List Name → Effect → Form
effect_form s own vars e =
    if e.add
    then line.Add (predicate_name s own e.predicate) (args_form s own vars e)
    else line.Del (predicate_name s own e.predicate) (args_form s own vars e)

abbrev pub remove_form : Specification → Name → List Name → Effect → Form
remove_form s own vars e = line.Drops (predicate_name s own e.predicate) (args_form s own vars e)

abbrev pub operation_forms : Specification → Operation → List Form
operation_forms s o =
    line.Op o.name (map (typed_form s.sorts) o.params)
    ∷ (map (need_form s o.name (names_of o.params)) o.needs
    ++ map (effect_form s o.name (names_of o.params)) o.effects)

-- the variables of a bound, one for each place of its predicate
abbrev pub bound_vars : List Predicate → Bound → List Name
bound_vars ps b = take (arity_of ps b.predicate) b.vars

abbrev pub bound_form : Specification → Bound → Form
bound_form s b =
    line.Bound b.name (predicate_name s b.name b.predicate) (bound_vars s.predicates b)
    (slice_index_or b.vars b.counted b.name) b.most b.pick

abbrev pub bound_forms : Specification → Bound → List Form
bound_forms s b = bound_form s b ∷ map (remove_form s b.name (bound_vars s.predicates b)) b.removes

abbrev pub forms_of : Specification → List Form
forms_of s =
    map (λ name. line.Sort name) s.sorts
    ++ (map (const_form s.sorts) s.constants
    ++ (map (pred_form s.sorts) s.predicates
    ++ (map (clause_form s) s.clauses
    ++ (flat_map (operation_forms s) s.operations
    ++ flat_map (bound_forms s) s.bounds))))

abbrev pub canonical_text : Specification → List ℕ
canonical_text s = flat_map text_of (forms_of s)
