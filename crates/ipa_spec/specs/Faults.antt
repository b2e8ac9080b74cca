-- What can be wrong with the parts of a specification, apart from the limits on counts.
--
--   specification_has kind s     some part of the specification has a fault of this kind
--   KIND_has ..                  the same of one part: a place, an atom, an effect, a literal, a clause, ..
--   has_repeat name_of items     two of the items have one name
use Rattle.std.specs.Prelude.{ℕ, Bool, true, false, not, ◌&&◌, ◌||◌, ◌==◌, nat_lt, nat_le, List, [], ◌∷◌, length, take, drop, slice_get, slice_index, slice_index_or, is_none, if◌then◌else◌}
use Rattle.std.specs.List.{list_any}
use Rattle.std.specs.Option.{option_map_or}
use Rattle.std.specs.Str.{bytes_eq}
use Rattle.ipa_spec.specs.Actions.{place_sorts, sorts_of_vars}
use Rattle.ipa_spec.specs.Constants.{sort_of_constant, sort_of_term}
use Rattle.ipa_spec.specs.declared.faults.FaultKind.{FaultKind}
use Rattle.ipa_spec.specs.declared.faults.FaultKind.TheVariants.{Arity, SortMismatch, UnknownName, Duplicate, WildAdd, FreeVariable}
use Rattle.ipa_spec.specs.declared.specification.Specification.{Specification}
use Rattle.ipa_spec.specs.declared.names.Name.{Name}
use Rattle.ipa_spec.specs.declared.constants.Constant.{Constant}
use Rattle.ipa_spec.specs.declared.constants.Term.{Term}
use Rattle.ipa_spec.specs.declared.constants.Term.TheVariants.{Var as Variable, Const as Fixed}
use Rattle.ipa_spec.specs.declared.predicates.Predicate.{Predicate}
use Rattle.ipa_spec.specs.declared.predicates.Var.{Var}
use Rattle.ipa_spec.specs.declared.clauses.Atom.{Atom}
use Rattle.ipa_spec.specs.declared.clauses.Literal.{Literal}
use Rattle.ipa_spec.specs.declared.clauses.Literal.TheVariants.{Holds, Fails, Same, Differ}
use Rattle.ipa_spec.specs.declared.clauses.Clause.{Clause}
use Rattle.ipa_spec.specs.declared.operations.Arg.{Arg}
use Rattle.ipa_spec.specs.declared.operations.Arg.TheVariants.{Var as Parameter, Const as FixedArg, Any}
use Rattle.ipa_spec.specs.declared.operations.Effect.{Effect}
use Rattle.ipa_spec.specs.declared.operations.Operation.{Operation}
use Rattle.ipa_spec.specs.declared.bounds.Bound.{Bound}

-- two names are the same
abbrev pub same_name : Name → Name → Bool
same_name a b = bytes_eq (take a.len a.bytes) (take b.len b.bytes)

-- two of the items have one name
abbrev pub has_repeat : {X : Type 0} → (X → Name) → List X → Bool
has_repeat name_of [] = false
has_repeat name_of (x ∷ xs) =
    list_any (λ y. same_name (name_of x) (name_of y)) xs || has_repeat name_of xs

-- one of the three places of an atom, an effect or a fact is so
abbrev pub some_place : (ℕ → Bool) → Bool
some_place p = (p 0 || p 1) || p 2

-- a constant number in a place of a sort: it is declared with another sort, or is not declared
abbrev pub constant_number_has : FaultKind → Specification → ℕ → ℕ → Bool
constant_number_has SortMismatch s wanted k =
    option_map_or (λ sort. not (sort == wanted)) (sort_of_constant s k) false
constant_number_has UnknownName s wanted k = is_none (sort_of_constant s k)
constant_number_has _ s wanted k = false

-- a variable number in a place of a sort: it is declared with another sort, or is not declared
abbrev pub variable_has : FaultKind → List ℕ → ℕ → ℕ → Bool
variable_has SortMismatch sorts wanted v =
    option_map_or (λ sort. not (sort == wanted)) (slice_get sorts v) false
variable_has FreeVariable sorts wanted v = is_none (slice_get sorts v)
variable_has _ sorts wanted v = false

-- a term in a place of a sort
abbrev pub term_has : FaultKind → Specification → List ℕ → ℕ → Term → Bool
term_has kind s sorts wanted (Variable v) = variable_has kind sorts wanted v
term_has kind s sorts wanted (Fixed k) = constant_number_has kind s wanted k

-- what stands in a place of an atom
abbrev pub term_at : Atom → ℕ → Term
term_at a place = slice_index_or a.args place (Variable 0)

-- the term is the first variable, which stands past the arity of an atom's predicate
abbrev pub is_first_variable : Term → Bool
is_first_variable (Variable v) = v == 0
is_first_variable (Fixed k) = false

-- a place past the arity holds something
abbrev pub unused_has : FaultKind → Bool → Bool
unused_has Arity is_empty = not is_empty
unused_has _ is_empty = false

-- a place of an atom
abbrev pub atom_place_has : FaultKind → Specification → List ℕ → Predicate → Atom → ℕ → Bool
atom_place_has kind s sorts p a place =
    if nat_lt place p.arity
    then term_has kind s sorts (slice_index p.sorts place) (term_at a place)
    else unused_has kind (is_first_variable (term_at a place))

-- a predicate number without a declaration
abbrev pub undeclared_has : FaultKind → Bool
undeclared_has UnknownName = true
undeclared_has _ = false

-- an atom
abbrev pub atom_has : FaultKind → Specification → List ℕ → Atom → Bool
atom_has kind s sorts a =
    option_map_or (λ p. some_place (atom_place_has kind s sorts p a)) (slice_get s.predicates a.predicate)
    (undeclared_has kind)

-- the term is a variable that is not in the list
abbrev pub term_free : List ℕ → Term → Bool
term_free sorts (Variable v) = is_none (slice_get sorts v)
term_free sorts (Fixed k) = false

-- the term is a constant that is not declared
abbrev pub term_unknown : Specification → Term → Bool
term_unknown s (Variable v) = false
term_unknown s (Fixed k) = is_none (sort_of_constant s k)

-- an equality or inequality of two terms
abbrev pub comparison_has : FaultKind → Specification → List ℕ → Term → Term → Bool
comparison_has SortMismatch s sorts v w =
    option_map_or (λ one. option_map_or (λ two. not (one == two)) (sort_of_term s sorts w) false)
    (sort_of_term s sorts v) false
comparison_has UnknownName s sorts v w = term_unknown s v || term_unknown s w
comparison_has FreeVariable s sorts v w = term_free sorts v || term_free sorts w
comparison_has _ s sorts v w = false

-- a literal of a clause, or a need
abbrev pub literal_has : FaultKind → Specification → List ℕ → Literal → Bool
literal_has kind s sorts (Holds a) = atom_has kind s sorts a
literal_has kind s sorts (Fails a) = atom_has kind s sorts a
literal_has kind s sorts (Same v w) = comparison_has kind s sorts v w
literal_has kind s sorts (Differ v w) = comparison_has kind s sorts v w

-- a used place of an effect: an add has no `*`
abbrev pub arg_has : FaultKind → Specification → List ℕ → Bool → ℕ → Arg → Bool
arg_has kind s sorts add wanted (Parameter v) = variable_has kind sorts wanted v
arg_has kind s sorts add wanted (FixedArg k) = constant_number_has kind s wanted k
arg_has WildAdd s sorts add wanted Any = add
arg_has _ s sorts add wanted Any = false

-- nothing but a `*` stands in a place of an effect
abbrev pub is_any : Arg → Bool
is_any (Parameter v) = false
is_any (FixedArg k) = false
is_any Any = true

-- a place of an effect
abbrev pub effect_place_has : FaultKind → Specification → List ℕ → Predicate → Effect → ℕ → Bool
effect_place_has kind s sorts p e place =
    if nat_lt place p.arity
    then arg_has kind s sorts e.add (slice_index p.sorts place) (slice_index_or e.args place Any)
    else unused_has kind (is_any (slice_index_or e.args place Any))

-- an effect
abbrev pub effect_has : FaultKind → Specification → List ℕ → Effect → Bool
effect_has kind s sorts e =
    option_map_or (λ p. some_place (effect_place_has kind s sorts p e)) (slice_get s.predicates e.predicate)
    (undeclared_has kind)

-- a used place of a predicate whose sort is not declared
abbrev pub place_without_sort : List Name → Predicate → ℕ → Bool
place_without_sort sorts p place =
    nat_lt place p.arity
    && option_map_or (λ sort. nat_le (length sorts) sort) (slice_get p.sorts place) true

-- a declared constant: its sort is declared
abbrev pub constant_has : FaultKind → Specification → Constant → Bool
constant_has UnknownName s c = nat_le (length s.sorts) c.sort
constant_has _ s c = false

-- a declared predicate: its sorts are declared, and 0 stands past its arity
abbrev pub predicate_has : FaultKind → Specification → Predicate → Bool
predicate_has Arity s p = list_any (λ sort. not (sort == 0)) (drop p.arity p.sorts)
predicate_has UnknownName s p = some_place (place_without_sort s.sorts p)
predicate_has _ s p = false

-- a list of variables: their sorts are declared, and none has another's name
abbrev pub variables_have : FaultKind → Specification → List Var → Bool
variables_have UnknownName s vars = list_any (λ v. nat_le (length s.sorts) v.sort) vars
variables_have Duplicate s vars = has_repeat (λ v. v.name) vars
variables_have _ s vars = false

-- a clause
abbrev pub clause_has : FaultKind → Specification → Clause → Bool
clause_has kind s c =
    variables_have kind s c.vars
    || list_any (literal_has kind s (sorts_of_vars c.vars)) c.literals

-- an operation
abbrev pub operation_has : FaultKind → Specification → Operation → Bool
operation_has kind s o =
    variables_have kind s o.params
    || list_any (literal_has kind s (sorts_of_vars o.params)) o.needs
    || list_any (effect_has kind s (sorts_of_vars o.params)) o.effects

-- the variables of a bound, and the place that it counts, where the bound's predicate is declared
abbrev pub bound_places_have : FaultKind → Bound → Predicate → Bool
bound_places_have Arity b p =
    list_any (λ name. not (same_name (slice_index_or b.vars 0 name) name)) (drop p.arity b.vars)
bound_places_have Duplicate b p = has_repeat (λ name. name) (take p.arity b.vars)
bound_places_have FreeVariable b p = nat_le p.arity b.counted
bound_places_have _ b p = false

-- a further effect of a bound adds
abbrev pub bound_adds : FaultKind → Bound → Bool
bound_adds WildAdd b = list_any (λ e. e.add) b.removes
bound_adds _ b = false

-- a bound
abbrev pub bound_has : FaultKind → Specification → Bound → Bool
bound_has kind s b =
    option_map_or (bound_places_have kind b) (slice_get s.predicates b.predicate) (undeclared_has kind)
    || bound_adds kind b
    || list_any (effect_has kind s (place_sorts s.predicates b.predicate)) b.removes

-- a name that stands twice in its kind
abbrev pub names_have : FaultKind → Specification → Bool
names_have Duplicate s =
    has_repeat (λ name. name) s.sorts
    || has_repeat (λ c. c.name) s.constants
    || has_repeat (λ p. p.name) s.predicates
    || has_repeat (λ c. c.name) s.clauses
    || has_repeat (λ o. o.name) s.operations
    || has_repeat (λ b. b.name) s.bounds
names_have _ s = false

-- some part of the specification has a fault of this kind
unfoldable pub specification_has : FaultKind → Specification → Bool
specification_has kind s =
    names_have kind s
    || list_any (constant_has kind s) s.constants
    || list_any (predicate_has kind s) s.predicates
    || list_any (clause_has kind s) s.clauses
    || list_any (operation_has kind s) s.operations
    || list_any (bound_has kind s) s.bounds
