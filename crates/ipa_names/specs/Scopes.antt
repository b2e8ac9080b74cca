-- What names mean where they are used: the first declaration of the name.
--
--   predicate_named d name        the declared predicate
--   operation_named d name        the declared operation
--   places_of d predicate         the names of the sorts of its places; none where it is not declared
--   sort_of_variable scope name   the name of the sort that the variable has in a list of variables
--   AreIndexed scope entries      the entries of a map give each variable's sort by its name
--   with_constants d scope        what a name may mean in a literal or an effect over these variables: a variable,
--                                 and else a constant
--   constants_named cs sort       the constants of a sort, by its name
--   operation_scope d             the parameters of the operation declared last; none where there is none
--   bound_scope d                 the variables of the bound declared last, each of the sort of its place
use Rattle.std.specs.Prelude.{◌≡◌, List, [], ◌++◌, filter, find, map, Option}
use Rattle.std.specs.List.{zip}
use Rattle.std.specs.Map.{lookup}
use Rattle.std.specs.Option.{option_map, option_map_or}
use Rattle.ipa_spec.specs.Faults.{same_name}
use Rattle.ipa_spec.specs.declared.names.Name.{Name}
use Rattle.ipa_names.specs.Naming.{last_of}
use Rattle.ipa_forms.specs.declared.forms.Typed.{Typed}
use Rattle.ipa_names.specs.declared.declared.PredicateLine.{PredicateLine}
use Rattle.ipa_names.specs.declared.declared.OperationLines.{OperationLines}
use Rattle.ipa_names.specs.declared.declared.BoundLines.{BoundLines}
use Rattle.ipa_names.specs.declared.declared.Declared.{Declared}

abbrev pub predicate_named : Declared → Name → Option PredicateLine
predicate_named d name = find (λ p. same_name p.name name) d.predicates

abbrev pub operation_named : Declared → Name → Option OperationLines
operation_named d name = find (λ o. same_name o.name name) d.operations

abbrev pub places_of : Declared → Name → List Name
places_of d predicate = option_map_or (λ p. p.sorts) (predicate_named d predicate) []

abbrev pub sort_of_variable : List Typed → Name → Option Name
sort_of_variable scope name = option_map (λ v. v.sort) (find (λ v. same_name v.name name) scope)

abbrev pub with_constants : Declared → List Typed → List Typed
with_constants d scope = scope ++ d.constants

abbrev pub constants_named : List Typed → Name → List Typed
constants_named cs sort = filter (λ c. same_name sort c.sort) cs

abbrev pub operation_scope : Declared → List Typed
operation_scope d = option_map_or (λ o. o.params) (last_of d.operations) []

-- variables, each of the sort of its place
abbrev pub typed_by_places : List Name → List Name → List Typed
typed_by_places vars places = map (λ q. record { name = q.0; sort = q.1 }) (zip vars places)

abbrev pub bound_variables : Declared → BoundLines → List Typed
bound_variables d b = typed_by_places b.vars (places_of d b.predicate)

abbrev pub bound_scope : Declared → List Typed
bound_scope d = option_map_or (bound_variables d) (last_of d.bounds) []

-- the entries of a map give each variable's sort by its name
pub record AreIndexed (scope : List Typed) (entries : List (Name × Name)) : Type 0 where
  pub sorts : (name : Name) → lookup (λ other. same_name other name) entries ≡ sort_of_variable scope name
