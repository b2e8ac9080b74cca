-- Parts that are said by names and read again.
--
--   specification_back   the specification that the lines of a canonical text declare is the one that it was printed from
use Rattle.std.proofs.Common.{◌≡◌, ℕ, suc, ◌<◌, ◌≤◌, true, false, not, ◌||◌, List, [], ◌∷◌, length, map, take, drop, slice_index, Some, refl, sym, ap, subst, ◌∙◌, arith}
use Rattle.std.specs.List.{slice_get, slice_index_or, list_any, find}
use Rattle.std.specs.Option.{option_map, option_map_or}
use Rattle.std.proofs.lemmas.Bool.{or_parts}
use Rattle.std.proofs.lemmas.List.{length-map, length-take-le}
use Rattle.std.proofs.lemmas.Option.{slice_get_within, get_or_from_slice_get}
use Rattle.std.proofs.lemmas.Simd.{map-map}
use Rattle.ipa_spec.specs.Actions.{arity_of, sorts_of_vars, place_sorts, drop_effects, effects_of, needs_of, sorts_of}
use Rattle.ipa_spec.specs.Faults as numbered
use Rattle.ipa_spec.specs.Faults.{same_name, has_repeat}
use Rattle.ipa_spec.specs.Fits.{IsFit, AtomFits, LiteralFits, EffectFits}
use Rattle.ipa_spec.specs.FoundLaws.{list_any-false, declared, said_of}
use Rattle.ipa_spec.specs.declared.faults.FaultKind.{FaultKind}
use Rattle.ipa_spec.specs.declared.faults.FaultKind.TheVariants as kind
use Rattle.ipa_spec.specs.Constants.{sort_of_constant, sort_of_term}
use Rattle.ipa_spec.specs.declared.constants.Constant.{Constant}
use Rattle.ipa_spec.specs.declared.constants.Term.{Term}
use Rattle.ipa_spec.specs.declared.constants.Term.TheVariants.{Var as Variable, Const as Fixed}
use Rattle.ipa_spec.specs.declared.names.Name.{Name}
use Rattle.ipa_spec.specs.declared.predicates.Predicate.{Predicate}
use Rattle.ipa_spec.specs.declared.predicates.Var.{Var}
use Rattle.ipa_spec.specs.declared.clauses.Atom.{Atom}
use Rattle.ipa_spec.specs.declared.clauses.Literal.{Literal}
use Rattle.ipa_spec.specs.declared.clauses.Literal.TheVariants.{Holds, Fails, Same, Differ}
use Rattle.ipa_spec.specs.declared.clauses.Clause.{Clause}
use Rattle.ipa_spec.specs.declared.operations.Arg.{Arg}
use Rattle.ipa_spec.specs.declared.operations.Arg.TheVariants.{Var as Parameter, Const as FixedArg, Any}
use Rattle.ipa_spec.specs.declared.operations.Effect.{Effect}
use Rattle.ipa_spec.specs.declared.operations.Operation.{Operation}
use Rattle.ipa_spec.specs.declared.operations.Action.TheVariants.{Op, Drop}
use Rattle.ipa_spec.specs.declared.bounds.Bound.{Bound}
use Rattle.ipa_spec.specs.declared.specification.Specification.{Specification}
use Rattle.ipa_forms.specs.declared.forms.Typed.{Typed}
use Rattle.ipa_names.specs.Naming.{number_in, number_or_count, is_among}
use Rattle.ipa_names.specs.Scopes.{places_of, bound_variables}
use Rattle.ipa_names.specs.Meaning.{predicate_number, sort_number, constant_number, variable_number, constant_of, term_of, term_arg, predicate_of, var_of, atom_of, literal_of, clause_of, arg_of, effect_of, operation_of, bound_of, specification_of}
use Rattle.ipa_canonical.specs.Canonical.{predicate_name, constant_name, typed_form, term_name, atom_form, literal_form, names_of, arg_form, bound_vars}
use Rattle.ipa_canonical.specs.Named.{constant_line, predicate_line, clause_line, effect_line, remove_line, operation_lines, bound_lines, named}
use Rattle.ipa_canonical.specs.Shapes.{LiteralShaped, IsShaped}
use Rattle.ipa_canonical.proofs.Numbers.{number_back, find_back, three_back, names_back, each_back, among_first, found_at, typed_names}
use Rattle.ipa_names.specs.NumberLaws.{repeat-map, slice_get-mapped, number_found, number_absent}
use Rattle.ipa_canonical.proofs.AcceptedNames.{constant_there}
use Rattle.ipa_spec.specs.FaultlessFits.{SpecificationParts}
use Rattle.ipa_canonical.specs.Hidden.{IsSaidByName, TermIsSaid, AtomIsSaid, LiteralIsSaid, EffectIsSaid, HidesNoConstant}
use Rattle.ipa_canonical.proofs.UnusedPlaces.{drop_zero, drop_same, place_unused}

-- the further removes of a bound are the later effects of its drop
further : (s : Specification) (k : ℕ) (effect : Effect) (b : Bound) (n : ℕ) → slice_get s.bounds n ≡ Some b → slice_get b.removes k ≡ Some effect → slice_get (effects_of s (Drop n)) (suc k) ≡ Some effect
further s k effect b n e is = ap (λ f. slice_get (option_map_or (drop_effects s.predicates) f []) (suc k)) e ∙ is

-- the names of a bound past its places are the first one
others : ((a b : Name) → same_name a b ≡ true → a ≡ b) → (own : Name) (vars : List Name) (a : ℕ) → length vars ≡ 3 → list_any (λ name. not (same_name (slice_index_or vars 0 name) name)) (drop a vars) ≡ false → (k : ℕ) → a ≤ k → k < 3 → slice_index_or vars k own ≡ slice_index_or vars 0 own
others same_names own [] a wide past k l m = refl
others same_names own (v ∷ vars) a wide past k l m =
    let at = found_at (v ∷ vars) k own (omega (arith, wide, m)) in
    sym (same_names v (slice_index_or (v ∷ vars) k own) (drop_same v a (v ∷ vars) past k l (slice_index_or (v ∷ vars) k own) at))

module _ (s : Specification) (fit : IsFit s) (flaws : SpecificationParts s) (shaped : IsShaped s) (open_names : HidesNoConstant s) where
  sort_back : (own : Name) (n : ℕ) → n < length s.sorts → sort_number (named s) (slice_index_or s.sorts n own) ≡ n
  sort_back own n l = number_back s.sorts flaws.sort_names n l own

  constant_back : (n : ℕ) (c : Constant) → slice_get s.constants n ≡ Some c → constant_of (named s) (constant_line s.sorts c) ≡ c
  constant_back n c e = ap (λ k. record c { sort = k }) (sort_back c.name c.sort (fit.constant_sort n c.sort (ap (option_map (λ k. k.sort)) e)))

  predicate_back : (n : ℕ) (p : Predicate) → slice_get s.predicates n ≡ Some p → predicate_of (named s) (predicate_line s.sorts p) ≡ p
  predicate_back n p e =
      let wide = shaped.predicates n p e in
      let short = fit.arities n p e in
      let name_at = λ (k : ℕ). slice_index_or s.sorts k p.name in
      let arity : length (map name_at (take p.arity p.sorts)) ≡ p.arity = length-map (take p.arity p.sorts) name_at ∙ length-take-le p.arity p.sorts (omega (arith, wide, short)) in
      let sorts = three_back (sort_number (named s)) name_at 0 p.sorts p.arity wide short
      (λ k l. sort_back p.name (slice_index p.sorts k) (fit.place_sort n k p e l))
      (λ k l m. drop_zero p.arity p.sorts (flaws.predicates n p e kind.Arity) k l) in
      λ i. record { name = p.name; arity = arity i; sorts = sorts i; rule = p.rule }

  -- a predicate's number, by its name
  predicate_number_back : (own : Name) (n : ℕ) (p : Predicate) → slice_get s.predicates n ≡ Some p → predicate_number (named s) (predicate_name s own n) ≡ n
  predicate_number_back own n p e =
      let all = map (λ q. q.name) s.predicates in
      let names : map (λ q. q.name) (map (predicate_line s.sorts) s.predicates) ≡ all = map-map (λ q. q.name) (predicate_line s.sorts) s.predicates in
      let here : predicate_name s own n ≡ p.name = ap (λ found. option_map_or (λ q. q.name) found own) e in
      let there : slice_index_or all n own ≡ p.name = get_or_from_slice_get all n p.name own (slice_get-mapped (λ q. q.name) s.predicates n p e) in
      let below : n < length all = omega (arith, slice_get_within s.predicates n p e, length-map s.predicates (λ q. q.name)) in
      (λ i. number_or_count (names i) ((here ∙ sym there) i)) ∙ number_back all (repeat-map (λ name. name) (λ q. q.name) s.predicates ∙ flaws.predicate_names) n below own

  module _ (scope : List Typed) (names : List Name) (sorts : List ℕ) (own : Name) (same : map (λ v. v.name) scope ≡ names) (apart : has_repeat (λ name. name) names ≡ false) (as_many : length sorts ≡ length names) where
    variable_back : (v sort : ℕ) → slice_get sorts v ≡ Some sort → variable_number scope (slice_index_or names v own) ≡ Some v
    variable_back v sort e =
        let within : v < length names = omega (arith, as_many, slice_get_within sorts v sort e) in
        let back = number_back names apart v within own in
        ap (λ ns. number_in ns (slice_index_or names v own)) same
        ∙ number_found names (slice_index_or names v own) (subst (λ n. n < length names) (sym back) within)
        ∙ ap (λ n. Some n) back

    -- a constant that no variable hides, by its name
    constant_said : (k sort : ℕ) → IsSaidByName s names k → sort_of_constant s k ≡ Some sort → term_of (named s) scope (constant_name s own k) ≡ Fixed k
    constant_said k sort said e =
        let at = constant_there (slice_get s.constants k) sort e in
        let c = at.0 in
        let name : constant_name s own k ≡ c.name = ap (λ found. option_map_or (λ x. x.name) found own) at.1 in
        let all = map (λ x. x.name) s.constants in
        let lines : map (λ x. x.name) (map (constant_line s.sorts) s.constants) ≡ all = map-map (λ x. x.name) (constant_line s.sorts) s.constants in
        let there : slice_index_or all k own ≡ c.name = get_or_from_slice_get all k c.name own (slice_get-mapped (λ x. x.name) s.constants k c at.1) in
        let below : k < length all = omega (arith, slice_get_within s.constants k c at.1, length-map s.constants (λ x. x.name)) in
        let number : constant_number (named s) c.name ≡ k =
        (λ i. number_or_count (lines i) (sym there i)) ∙ number_back all (repeat-map (λ n. n) (λ x. x.name) s.constants ∙ flaws.constant_names) k below own in
        let hidden : is_among (map (λ v. v.name) scope) c.name ≡ false = ap (λ ns. is_among ns c.name) same ∙ said.each c at.1 in
        ap (term_of (named s) scope) name
        ∙ ap (λ found. option_map_or (λ n. Variable n) found (Fixed (constant_number (named s) c.name))) (number_absent (map (λ v. v.name) scope) c.name hidden)
        ∙ ap (λ n. Fixed n) number

    term_back : (t : Term) (sort : ℕ) → TermIsSaid s names t → sort_of_term s sorts t ≡ Some sort → term_of (named s) scope (term_name s own names t) ≡ t
    term_back (Variable v) sort said e =
        let name = slice_index_or names v own in
        ap (λ found. option_map_or (λ n. Variable n) found (Fixed (constant_number (named s) name))) (variable_back v sort e)
    term_back (Fixed k) sort said e = constant_said k sort said e

    atom_back : (a : Atom) → AtomFits s sorts a → AtomIsSaid s names a → length a.args ≡ 3 → numbered.atom_has kind.Arity s sorts a ≡ false → atom_of (named s) scope (atom_form s own names a) ≡ a
    atom_back a fits said wide whole =
        let p = fits.predicate in
        let arity : arity_of s.predicates a.predicate ≡ p.arity = ap (λ found. option_map_or (λ q. q.arity) found 0) fits.declared in
        let unused = said_of (λ q. numbered.some_place (numbered.atom_place_has kind.Arity s sorts q a)) (numbered.undeclared_has kind.Arity) (slice_get s.predicates a.predicate) p fits.declared whole in
        let number = predicate_number_back own a.predicate p fits.declared in
        let args = three_back (term_of (named s) scope) (term_name s own names) (Variable 0) a.args (arity_of s.predicates a.predicate) wide (omega (arith, arity, fits.short))
        (λ k l. term_back (numbered.term_at a k) (slice_index p.sorts k) (said.places k) (fits.places k (omega (arith, arity, l))))
        (λ k l m. place_unused (λ place. numbered.term_has kind.Arity s sorts (slice_index p.sorts place) (numbered.term_at a place)) p.arity a unused k (omega (arith, arity, l)) m) in
        λ i. record { predicate = number i; args = args i }

    literal_back : (l : Literal) → LiteralFits s sorts l → LiteralIsSaid s names l → LiteralShaped l → numbered.literal_has kind.Arity s sorts l ≡ false → literal_of (named s) scope (literal_form s own names l) ≡ l
    literal_back (Holds a) fits said wide whole = ap (λ x. Holds x) (atom_back a fits said wide whole)
    literal_back (Fails a) fits said wide whole = ap (λ x. Fails x) (atom_back a fits said wide whole)
    literal_back (Same v w) fits said wide whole = λ i. Same (term_back v fits.sort said.0 fits.first i) (term_back w fits.sort said.1 fits.second i)
    literal_back (Differ v w) fits said wide whole = λ i. Differ (term_back v fits.sort said.0 fits.first i) (term_back w fits.sort said.1 fits.second i)

    arg_back : (arg : Arg) (sort : ℕ) → ((v : ℕ) → arg ≡ Parameter v → slice_get sorts v ≡ Some sort) →
        ((k : ℕ) → arg ≡ FixedArg k → sort_of_constant s k ≡ Some sort) → ((k : ℕ) → arg ≡ FixedArg k → IsSaidByName s names k) → arg_of (named s) scope (arg_form s own names arg) ≡ arg
    arg_back (Parameter v) sort h fixed said = ap term_arg (term_back (Variable v) sort tt (h v refl))
    arg_back (FixedArg k) sort h fixed said = ap term_arg (constant_said k sort (said k refl) (fixed k refl))
    arg_back Any sort h fixed said = refl

    args_said_back : (e : Effect) → EffectFits s sorts e → EffectIsSaid s names e → length e.args ≡ 3 → effect_of (named s) scope (effect_line s own names e) ≡ e
    args_said_back e fits said wide =
        let p = fits.predicate in
        let arity : arity_of s.predicates e.predicate ≡ p.arity = ap (λ found. option_map_or (λ q. q.arity) found 0) fits.declared in
        let number = predicate_number_back own e.predicate p fits.declared in
        let args = three_back (arg_of (named s) scope) (arg_form s own names) Any e.args (arity_of s.predicates e.predicate) wide (omega (arith, arity, fits.short))
        (λ k l. arg_back (slice_index_or e.args k Any) (slice_index p.sorts k) (λ v is. fits.places k v (omega (arith, arity, l)) is) (λ c is. fits.fixed k c (omega (arith, arity, l)) is) (λ c is. said.places k c is))
        (λ k l m. fits.unused k (omega (arith, arity, l)) m) in
        λ i. record { add = e.add; predicate = number i; args = args i }

    remove_back : (e : Effect) → EffectFits s sorts e → EffectIsSaid s names e → length e.args ≡ 3 → e.add ≡ false → effect_of (named s) scope (remove_line s own names e) ≡ e
    remove_back e fits said wide removing =
        let back = args_said_back e fits said wide in
        λ i. record { add = sym removing i; predicate = (back i).predicate; args = (back i).args }

  var_back : (v : Var) → v.sort < length s.sorts → var_of (named s) (typed_form s.sorts v) ≡ v
  var_back v l = ap (λ n. record v { sort = n }) (sort_back v.name v.sort l)

  -- the names of variables, and of the variables that are said
  said_names : (vars : List Var) → map (λ v. v.name) (map (typed_form s.sorts) vars) ≡ names_of vars
  said_names vars = map-map (λ v. v.name) (typed_form s.sorts) vars

  counts : (vars : List Var) → length (sorts_of_vars vars) ≡ length (names_of vars)
  counts vars = length-map vars (λ v. v.sort) ∙ sym (length-map vars (λ v. v.name))

  clause_back : (n : ℕ) (c : Clause) → slice_get s.clauses n ≡ Some c → clause_of (named s) (clause_line s c) ≡ c
  clause_back n c e =
      let has = λ (k : FaultKind). or_parts (numbered.variables_have k s c.vars) (list_any (numbered.literal_has k s (sorts_of_vars c.vars)) c.literals) (flaws.clauses n c e k) in
      let apart = repeat-map (λ name. name) (λ v. v.name) c.vars ∙ (has kind.Duplicate).0 in
      let vars = each_back (var_of (named s)) (typed_form s.sorts) c.vars (λ k v is. var_back v (fit.variable_sort n k v.sort c e (slice_get-mapped (λ x. x.sort) c.vars k v is))) in
      let literals = each_back (literal_of (named s) (map (typed_form s.sorts) c.vars)) (literal_form s c.name (names_of c.vars)) c.literals
      (λ k l is. literal_back (map (typed_form s.sorts) c.vars) (names_of c.vars) (sorts_of_vars c.vars) c.name (said_names c.vars) apart (counts c.vars) l (fit.literals n k c l e is) (open_names.literals n k c l e is) (shaped.literals n k c l e is)
      (list_any-false (numbered.literal_has kind.Arity s (sorts_of_vars c.vars)) c.literals (has kind.Arity).1 k l is)) in
      λ i. record { name = c.name; vars = vars i; literals = literals i }

  operation_back : (n : ℕ) (o : Operation) → slice_get s.operations n ≡ Some o → operation_of (named s) (operation_lines s o) ≡ o
  operation_back n o e =
      let has2 = λ (k : FaultKind). or_parts (numbered.variables_have k s o.params || list_any (numbered.literal_has k s (sorts_of_vars o.params)) o.needs) (list_any (numbered.effect_has k s (sorts_of_vars o.params)) o.effects) (flaws.operations n o e k) in
      let has = λ (k : FaultKind). or_parts (numbered.variables_have k s o.params) (list_any (numbered.literal_has k s (sorts_of_vars o.params)) o.needs) (has2 k).0 in
      let apart = repeat-map (λ name. name) (λ v. v.name) o.params ∙ (has kind.Duplicate).0 in
      let sorts : sorts_of s (Op n) ≡ sorts_of_vars o.params = ap (λ found. option_map_or (λ x. sorts_of_vars x.params) found []) e in
      let needs_are : needs_of s (Op n) ≡ o.needs = ap (λ found. option_map_or (λ x. x.needs) found []) e in
      let effects_are : effects_of s (Op n) ≡ o.effects = ap (λ found. option_map_or (λ x. x.effects) found []) e in
      let params = each_back (var_of (named s)) (typed_form s.sorts) o.params (λ k v is. var_back v (fit.argument_sort (Op n) k v.sort (ap (λ all. slice_get all k) sorts ∙ slice_get-mapped (λ x. x.sort) o.params k v is))) in
      let needs = each_back (literal_of (named s) (map (typed_form s.sorts) o.params)) (literal_form s o.name (names_of o.params)) o.needs
      (λ k l is. literal_back (map (typed_form s.sorts) o.params) (names_of o.params) (sorts_of_vars o.params) o.name (said_names o.params) apart (counts o.params) l
      (subst (λ all. LiteralFits s all l) sorts (fit.needs (Op n) k l (ap (λ all. slice_get all k) needs_are ∙ is))) (open_names.needs n k o l e is) (shaped.needs n k o l e is)
      (list_any-false (numbered.literal_has kind.Arity s (sorts_of_vars o.params)) o.needs (has kind.Arity).1 k l is)) in
      let effects = each_back (effect_of (named s) (map (typed_form s.sorts) o.params)) (effect_line s o.name (names_of o.params)) o.effects
      (λ k effect is. args_said_back (map (typed_form s.sorts) o.params) (names_of o.params) (sorts_of_vars o.params) o.name (said_names o.params) apart (counts o.params) effect
      (subst (λ all. EffectFits s all effect) sorts (fit.effects (Op n) k effect (ap (λ all. slice_get all k) effects_are ∙ is))) (open_names.effects n k o effect e is) (shaped.effects n k o effect e is)) in
      λ i. record { name = o.name; params = params i; needs = needs i; effects = effects i }

  module _ (same_names : (a b : Name) → same_name a b ≡ true → a ≡ b) where
    bound_back : (n : ℕ) (b : Bound) → slice_get s.bounds n ≡ Some b → bound_of (named s) (bound_lines s b) ≡ b
    bound_back n b e =
        let places_have = λ (k : FaultKind). (or_parts (option_map_or (numbered.bound_places_have k b) (slice_get s.predicates b.predicate) (numbered.undeclared_has k)) (numbered.bound_adds k b)
        (or_parts (option_map_or (numbered.bound_places_have k b) (slice_get s.predicates b.predicate) (numbered.undeclared_has k) || numbered.bound_adds k b) (list_any (numbered.effect_has k s (place_sorts s.predicates b.predicate)) b.removes) (flaws.bounds n b e k)).0).0 in
        let found = declared (numbered.bound_places_have kind.UnknownName b) (slice_get s.predicates b.predicate) (places_have kind.UnknownName) in
        let p = found.0 in
        let wide = shaped.vars n b e in
        let arity : arity_of s.predicates b.predicate ≡ p.arity = ap (λ f. option_map_or (λ q. q.arity) f 0) found.1 in
        let short = fit.arities b.predicate p found.1 in
        let counted = fit.counted n b p e found.1 in
        let repeats : has_repeat (λ name. name) (take p.arity b.vars) ≡ false = said_of (numbered.bound_places_have kind.Duplicate b) false (slice_get s.predicates b.predicate) p found.1 (places_have kind.Duplicate) in
        let apart : has_repeat (λ name. name) (bound_vars s.predicates b) ≡ false = subst (λ a. has_repeat (λ name. name) (take a b.vars) ≡ false) (sym arity) repeats in
        let past = said_of (numbered.bound_places_have kind.Arity b) false (slice_get s.predicates b.predicate) p found.1 (places_have kind.Arity) in
        let many : length (bound_vars s.predicates b) ≡ p.arity = length-take-le (arity_of s.predicates b.predicate) b.vars (omega (arith, arity, wide, short)) ∙ arity in
        let number = predicate_number_back b.name b.predicate p found.1 in
        let vars = names_back b.name b.vars (arity_of s.predicates b.predicate) wide (omega (arith, arity, short)) (omega (arith, arity, counted))
        (λ k l m. others same_names b.name b.vars p.arity wide past k (omega (arith, arity, l)) m) in
        let place : number_or_count (bound_vars s.predicates b) (slice_index_or b.vars b.counted b.name) ≡ b.counted =
        ap (number_or_count (bound_vars s.predicates b)) (sym (among_first (arity_of s.predicates b.predicate) b.vars b.counted b.name (omega (arith, arity, counted))))
        ∙ number_back (bound_vars s.predicates b) apart b.counted (omega (arith, many, counted)) b.name in
        let line = predicate_line s.sorts p in
        let here : predicate_name s b.name b.predicate ≡ p.name = ap (λ f. option_map_or (λ q. q.name) f b.name) found.1 in
        let stands : find (λ q. same_name q.name p.name) (map (predicate_line s.sorts) s.predicates) ≡ Some line =
        find_back (λ q. q.name) (map (predicate_line s.sorts) s.predicates) (repeat-map (λ q. q.name) (predicate_line s.sorts) s.predicates ∙ flaws.predicate_names) b.predicate line (slice_get-mapped (predicate_line s.sorts) s.predicates b.predicate p found.1) in
        let places : places_of (named s) (predicate_name s b.name b.predicate) ≡ line.sorts =
        ap (λ name. places_of (named s) name) here ∙ ap (λ f. option_map_or (λ q. q.sorts) f []) stands in
        let place_count : length line.sorts ≡ p.arity = length-map (take p.arity p.sorts) (λ k. slice_index_or s.sorts k p.name) ∙ length-take-le p.arity p.sorts (omega (arith, shaped.predicates b.predicate p found.1, short)) in
        let scope = bound_variables (named s) (bound_lines s b) in
        let names : map (λ v. v.name) scope ≡ bound_vars s.predicates b = typed_names (bound_vars s.predicates b) (places_of (named s) (predicate_name s b.name b.predicate)) (omega (arith, many, place_count, ap length places)) in
        let sorts : place_sorts s.predicates b.predicate ≡ take p.arity p.sorts = ap (λ f. option_map_or (λ q. take q.arity q.sorts) f []) found.1 in
        let as_many : length (place_sorts s.predicates b.predicate) ≡ length (bound_vars s.predicates b) = ap length sorts ∙ length-take-le p.arity p.sorts (omega (arith, shaped.predicates b.predicate p found.1, short)) ∙ sym many in
        let action_sorts : sorts_of s (Drop n) ≡ place_sorts s.predicates b.predicate = ap (λ f. option_map_or (λ x. place_sorts s.predicates x.predicate) f []) e in
        let dropped = λ (k : ℕ) (effect : Effect) (is : slice_get b.removes k ≡ Some effect). subst (λ all. EffectFits s all effect) action_sorts (fit.effects (Drop n) (suc k) effect (further s k effect b n e is)) in
        let removes = each_back (effect_of (named s) scope) (remove_line s b.name (bound_vars s.predicates b)) b.removes
        (λ k effect is. remove_back scope (bound_vars s.predicates b) (place_sorts s.predicates b.predicate) b.name names apart as_many effect (dropped k effect is) (open_names.removes n k b effect e is) (shaped.removes n k b effect e is) (fit.drops_remove n k effect b e is)) in
        λ i. record { name = b.name; predicate = number i; vars = vars i; counted = place i; most = b.most; removes = removes i; pick = b.pick }

    pub specification_back : specification_of (named s) ≡ s
    specification_back = λ i. record {
      sorts = s.sorts;
      constants = each_back (constant_of (named s)) (constant_line s.sorts) s.constants constant_back i;
      predicates = each_back (predicate_of (named s)) (predicate_line s.sorts) s.predicates predicate_back i;
      clauses = each_back (clause_of (named s)) (clause_line s) s.clauses clause_back i;
      operations = each_back (operation_of (named s)) (operation_lines s) s.operations operation_back i;
      bounds = each_back (bound_of (named s)) (bound_lines s) s.bounds bound_back i;
    }
