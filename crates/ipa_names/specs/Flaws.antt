-- What is wrong with the names of a line, by kinds, given what stands declared before it.
--
--   KIND_has flaw ..          a part of a line has a flaw of this kind
--   specification_line_has    a specification line has one
--
-- Where a name is not declared, it has no arity and no places: its use is an unknown name, and nothing else of it is
-- wrong. A variable is of the sort that its list names, declared or not; so it is in a place of another sort wherever
-- the place's sort has another name.
use Rattle.std.specs.Prelude.{ℕ, Bool, false, not, ◌||◌, ◌==◌, List, length, map, Option, is_none}
use Rattle.std.specs.List.{list_any, zip}
use Rattle.std.specs.Option.{option_map, option_map_or}
use Rattle.ipa_spec.specs.Faults.{same_name, has_repeat}
use Rattle.ipa_spec.specs.declared.names.Name.{Name}
use Rattle.ipa_names.specs.Naming.{is_among}
use Rattle.ipa_names.specs.Declarations.{add_effect, remove_effect}
use Rattle.ipa_names.specs.Scopes.{predicate_named, places_of, sort_of_variable, with_constants, operation_scope, bound_scope}
use Rattle.ipa_names.specs.declared.flaws.Flaw.{Flaw}
use Rattle.ipa_names.specs.declared.flaws.Flaw.TheVariants.{Arity, SortMismatch, UnknownName, Duplicate, WildAdd, FreeVariable}
use Rattle.ipa_forms.specs.declared.forms.Typed.{Typed}
use Rattle.ipa_forms.specs.declared.forms.AtomForm.{AtomForm}
use Rattle.ipa_forms.specs.declared.forms.LiteralForm.{LiteralForm}
use Rattle.ipa_forms.specs.declared.forms.LiteralForm.TheVariants.{Holds, Fails, Same, Differ}
use Rattle.ipa_forms.specs.declared.forms.Form.{Form}
use Rattle.ipa_forms.specs.declared.forms.Form.TheVariants.{Sort, Const, Pred, Clause, Op, Need, Add, Del, Bound, Drops}
use Rattle.ipa_names.specs.declared.declared.EffectLine.{EffectLine}
use Rattle.ipa_names.specs.declared.declared.Declared.{Declared}

-- a use of a predicate or an operation with so many arguments, where the declared one takes so many
abbrev pub use_has : Flaw → Option ℕ → ℕ → Bool
use_has Arity taken given = option_map_or (λ n. not (n == given)) taken false
use_has UnknownName taken given = is_none taken
use_has _ taken given = false

-- a declaration of a name in its kind
abbrev pub declaration_has : Flaw → List Name → Name → Bool
declaration_has Duplicate declared name = is_among declared name
declaration_has _ declared name = false

-- the use of a sort
abbrev pub sort_has : Flaw → Declared → Name → Bool
sort_has UnknownName d sort = not (is_among d.sorts sort)
sort_has _ d sort = false

-- names of which none may stand twice
abbrev pub list_has : Flaw → List Name → Bool
list_has Duplicate names = has_repeat (λ name. name) names
list_has _ names = false

-- a list of variables with sorts
abbrev pub variables_have : Flaw → Declared → List Typed → Bool
variables_have flaw d vars = list_any (λ v. sort_has flaw d v.sort) vars || list_has flaw (map (λ v. v.name) vars)

-- the variable or constant is declared, and with another sort
abbrev pub is_elsewhere : List Typed → Name → Name → Bool
is_elsewhere scope sort name = option_map_or (λ own. not (same_name own sort)) (sort_of_variable scope name) false

-- a variable or constant in a place of a sort
abbrev pub place_has : Flaw → List Typed → Name × Name → Bool
place_has SortMismatch scope (name, sort) = is_elsewhere scope sort name
place_has _ scope (name, sort) = false

-- the use of a variable or constant
abbrev pub variable_has : Flaw → List Typed → Name → Bool
variable_has FreeVariable scope name = is_none (sort_of_variable scope name)
variable_has _ scope name = false

-- the number of places of a declared predicate
abbrev pub arity_named : Declared → Name → Option ℕ
arity_named d predicate = option_map (λ p. length p.sorts) (predicate_named d predicate)

-- an atom
abbrev pub atom_has : Flaw → Declared → List Typed → AtomForm → Bool
atom_has flaw d scope a =
    (use_has flaw (arity_named d a.predicate) (length a.args)
    || list_any (place_has flaw scope) (zip a.args (places_of d a.predicate)))
    || list_any (variable_has flaw scope) a.args

-- two compared variables or constants: both are declared, and with different sorts
abbrev pub comparison_has : Flaw → List Typed → Name → Name → Bool
comparison_has SortMismatch scope one other =
    option_map_or (λ sort. is_elsewhere scope sort other) (sort_of_variable scope one) false
comparison_has flaw scope one other = variable_has flaw scope one || variable_has flaw scope other

-- a literal of a clause, or a need
abbrev pub literal_has : Flaw → Declared → List Typed → LiteralForm → Bool
literal_has flaw d scope (Holds a) = atom_has flaw d scope a
literal_has flaw d scope (Fails a) = atom_has flaw d scope a
literal_has flaw d scope (Same one other) = comparison_has flaw scope one other
literal_has flaw d scope (Differ one other) = comparison_has flaw scope one other

-- an argument in a place of a sort: a `*` is at home in each
abbrev pub argument_place_has : Flaw → List Typed → Option Name × Name → Bool
argument_place_has flaw scope (argument, sort) =
    option_map_or (λ name. place_has flaw scope (name, sort)) argument false

-- a `*`
abbrev pub wild_has : Flaw → Bool → Bool
wild_has WildAdd add = add
wild_has _ add = false

-- an argument of an effect
abbrev pub argument_has : Flaw → List Typed → Bool → Option Name → Bool
argument_has flaw scope add argument = option_map_or (variable_has flaw scope) argument (wild_has flaw add)

-- an effect, or a further remove of a bound
abbrev pub effect_has : Flaw → Declared → List Typed → EffectLine → Bool
effect_has flaw d scope e =
    (use_has flaw (arity_named d e.predicate) (length e.args)
    || list_any (argument_place_has flaw scope) (zip e.args (places_of d e.predicate)))
    || list_any (argument_has flaw scope e.add) e.args

-- what a bound says: the number of its variables, their names, and the counted one
abbrev pub counted_has : Flaw → List Name → Name → Bool
counted_has FreeVariable vars counted = not (is_among vars counted)
counted_has _ vars counted = false

abbrev pub bound_has : Flaw → Declared → Name → List Name → Name → Bool
bound_has flaw d predicate vars counted =
    (use_has flaw (arity_named d predicate) (length vars) || list_has flaw vars) || counted_has flaw vars counted

-- a specification line; setup lines are none
unfoldable pub specification_line_has : Flaw → Declared → Form → Bool
specification_line_has flaw d (Sort name) = declaration_has flaw d.sorts name
specification_line_has flaw d (Const c) =
    declaration_has flaw (map (λ k. k.name) d.constants) c.name || sort_has flaw d c.sort
specification_line_has flaw d (Pred name sorts rule) =
    declaration_has flaw (map (λ p. p.name) d.predicates) name || list_any (sort_has flaw d) sorts
specification_line_has flaw d (Clause name vars literals) =
    (declaration_has flaw (map (λ c. c.name) d.clauses) name || variables_have flaw d vars)
    || list_any (literal_has flaw d (with_constants d vars)) literals
specification_line_has flaw d (Op name params) =
    declaration_has flaw (map (λ o. o.name) d.operations) name || variables_have flaw d params
specification_line_has flaw d (Need literal) = literal_has flaw d (with_constants d (operation_scope d)) literal
specification_line_has flaw d (Add predicate args) =
    effect_has flaw d (with_constants d (operation_scope d)) (add_effect predicate args)
specification_line_has flaw d (Del predicate args) =
    effect_has flaw d (with_constants d (operation_scope d)) (remove_effect predicate args)
specification_line_has flaw d (Bound name predicate vars counted most pick) =
    declaration_has flaw (map (λ b. b.name) d.bounds) name || bound_has flaw d predicate vars counted
specification_line_has flaw d (Drops predicate args) =
    effect_has flaw d (with_constants d (bound_scope d)) (remove_effect predicate args)
specification_line_has flaw d _ = false
