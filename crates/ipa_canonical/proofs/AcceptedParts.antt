-- Parts that are said by names have no flaw, where the sorts and predicates of the specification are declared.
--
--   full s cs os bs   what is declared then, with these clauses, operations and bounds
--   literal_clean     a literal of a clause, or a need
--   effect_clean      an effect, or a further remove of a bound
--   bound_clean       a bound
--   knows_bound       the variables of a bound, for its further removes
--   bound_names       and their names
use Rattle.std.proofs.Common.{◌≡◌, ℕ, ◌<◌, Bool, true, false, ◌||◌, List, [], length, map, take, slice_index, Option, Some, refl, sym, ap, subst, ◌∙◌, arith}
use Rattle.std.specs.List.{slice_get, slice_index_or, list_any, find, zip}
use Rattle.std.specs.Option.{option_map, option_map_or}
use Rattle.std.proofs.lemmas.Bool.{or_from, or_parts}
use Rattle.std.proofs.lemmas.List.{length-map, length-take-le}
use Rattle.std.proofs.lemmas.Option.{get_or_from_slice_get}
use Rattle.ipa_spec.specs.Actions.{arity_of, place_sorts}
use Rattle.ipa_spec.specs.Faults as numbered
use Rattle.ipa_spec.specs.Faults.{same_name, has_repeat, term_at}
use Rattle.ipa_spec.specs.Fits.{IsFit, AtomFits, LiteralFits, EffectFits}
use Rattle.ipa_spec.specs.FoundLaws.{map_at, take_at, declared, said_of, none_of}
use Rattle.ipa_spec.specs.declared.faults.FaultKind.{FaultKind}
use Rattle.ipa_spec.specs.declared.faults.FaultKind.TheVariants as kind
use Rattle.ipa_spec.specs.Constants.{sort_of_constant, sort_of_term}
use Rattle.ipa_spec.specs.declared.constants.Term.{Term}
use Rattle.ipa_spec.specs.declared.constants.Term.TheVariants.{Var as Variable, Const as Fixed}
use Rattle.ipa_spec.specs.declared.names.Name.{Name}
use Rattle.ipa_spec.specs.declared.predicates.Predicate.{Predicate}
use Rattle.ipa_spec.specs.declared.clauses.Atom.{Atom}
use Rattle.ipa_spec.specs.declared.clauses.Literal.{Literal}
use Rattle.ipa_spec.specs.declared.clauses.Literal.TheVariants.{Holds, Fails, Same, Differ}
use Rattle.ipa_spec.specs.declared.operations.Arg.{Arg}
use Rattle.ipa_spec.specs.declared.operations.Arg.TheVariants.{Var as Parameter, Const as FixedArg, Any}
use Rattle.ipa_spec.specs.declared.operations.Effect.{Effect}
use Rattle.ipa_spec.specs.declared.bounds.Bound.{Bound}
use Rattle.ipa_spec.specs.declared.specification.Specification.{Specification}
use Rattle.ipa_forms.specs.declared.forms.Typed.{Typed}
use Rattle.ipa_canonical.specs.Canonical.{predicate_name, constant_name, term_name, atom_form, literal_form, arg_form, args_form, bound_vars}
use Rattle.ipa_names.specs.Scopes.{predicate_named, places_of, sort_of_variable, typed_by_places}
use Rattle.ipa_names.specs.Flaws.{arity_named, use_has, list_has, counted_has, place_has, variable_has, atom_has, literal_has, wild_has, argument_place_has, argument_has, effect_has, bound_has}
use Rattle.ipa_canonical.specs.Named.{constant_line, predicate_line}
use Rattle.ipa_canonical.specs.Shapes.{LiteralShaped, IsShaped}
use Rattle.ipa_names.specs.declared.flaws.Flaw.{Flaw}
use Rattle.ipa_names.specs.declared.flaws.Flaw.TheVariants.{Arity, SortMismatch, UnknownName, Duplicate, WildAdd, FreeVariable}
use Rattle.ipa_names.specs.declared.declared.ClauseLine.{ClauseLine}
use Rattle.ipa_names.specs.declared.declared.OperationLines.{OperationLines}
use Rattle.ipa_names.specs.declared.declared.BoundLines.{BoundLines}
use Rattle.ipa_names.specs.declared.declared.Declared.{Declared}
use Rattle.ipa_spec.specs.FaultlessFits.{SpecificationParts}
use Rattle.ipa_canonical.specs.Hidden.{IsSaidByName, TermIsSaid, AtomIsSaid, LiteralIsSaid, EffectIsSaid}
use Rattle.ipa_canonical.proofs.Numbers.{find_back, among_first, found_at, typed_names}
use Rattle.ipa_names.specs.NumberLaws.{repeat-map, slice_get-mapped}
use Rattle.ipa_canonical.proofs.AcceptedNames.{none_zipped, among_at, use_clean, list_clean, counted_clean, Knows, KnowsConstants, knows_places, place_clean, variable_clean, comparison_clean}

abbrev pub full : Specification → List ClauseLine → List OperationLines → List BoundLines → Declared
full s cs os bs = record { sorts = s.sorts; constants = map (constant_line s.sorts) s.constants; predicates = map (predicate_line s.sorts) s.predicates; clauses = cs; operations = os; bounds = bs }

wild_clean : (flaw : Flaw) (add : Bool) → add ≡ false → wild_has flaw add ≡ false
wild_clean WildAdd add h = h
wild_clean Arity add h = refl
wild_clean SortMismatch add h = refl
wild_clean UnknownName add h = refl
wild_clean Duplicate add h = refl
wild_clean FreeVariable add h = refl

none_true : (b : Bool) → (b ≡ true → ⊥) → b ≡ false
none_true false h = refl
none_true true h = absurd (h refl)

module _ (s : Specification) (fit : IsFit s) (flaws : SpecificationParts s) (shaped : IsShaped s) (cs : List ClauseLine) (os : List OperationLines) (bs : List BoundLines) where
  predicate_known : (own : Name) (n : ℕ) (p : Predicate) → slice_get s.predicates n ≡ Some p → predicate_named (full s cs os bs) (predicate_name s own n) ≡ Some (predicate_line s.sorts p)
  predicate_known own n p e =
      let here : predicate_name s own n ≡ p.name = ap (λ f. option_map_or (λ q. q.name) f own) e in
      let stands : find (λ q. same_name q.name p.name) (map (predicate_line s.sorts) s.predicates) ≡ Some (predicate_line s.sorts p) =
      find_back (λ q. q.name) (map (predicate_line s.sorts) s.predicates) (repeat-map (λ q. q.name) (predicate_line s.sorts) s.predicates ∙ flaws.predicate_names) n (predicate_line s.sorts p) (slice_get-mapped (predicate_line s.sorts) s.predicates n p e) in
      ap (λ name. find (λ q. same_name q.name name) (map (predicate_line s.sorts) s.predicates)) here ∙ stands

  place_count : (n : ℕ) (p : Predicate) → slice_get s.predicates n ≡ Some p → length (predicate_line s.sorts p).sorts ≡ p.arity
  place_count n p e = length-map (take p.arity p.sorts) (λ k. slice_index_or s.sorts k p.name) ∙ length-take-le p.arity p.sorts (omega (arith, shaped.predicates n p e, fit.arities n p e))

  arity_known : (own : Name) (n : ℕ) (p : Predicate) → slice_get s.predicates n ≡ Some p → arity_named (full s cs os bs) (predicate_name s own n) ≡ Some p.arity
  arity_known own n p e = ap (option_map (λ q. length q.sorts)) (predicate_known own n p e) ∙ ap (λ count. Some count) (place_count n p e)

  places_known : (own : Name) (n : ℕ) (p : Predicate) → slice_get s.predicates n ≡ Some p → places_of (full s cs os bs) (predicate_name s own n) ≡ (predicate_line s.sorts p).sorts
  places_known own n p e = ap (λ f. option_map_or (λ q. q.sorts) f []) (predicate_known own n p e)

  -- what stands in a place that is said
  place_at : (n k : ℕ) (p : Predicate) (name : Name) → slice_get s.predicates n ≡ Some p → slice_get (predicate_line s.sorts p).sorts k ≡ Some name → slice_get s.sorts (slice_index p.sorts k) ≡ Some name
  place_at n k p name e is =
      let at = map_at (λ v. slice_index_or s.sorts v p.name) (take p.arity p.sorts) k name is in
      let taken = take_at p.arity p.sorts k at.0 at.1 in
      let number : slice_index p.sorts k ≡ at.0 = get_or_from_slice_get p.sorts k at.0 0 taken.1 in
      let below : at.0 < length s.sorts = subst (λ v. v < length s.sorts) number (fit.place_sort n k p e taken.0) in
      ap (slice_get s.sorts) number ∙ found_at s.sorts at.0 p.name below ∙ ap (λ x. Some x) at.2

  module _ (scope : List Typed) (names : List Name) (nums : List ℕ) (own : Name) (knows : Knows s.sorts scope names nums) (fixed : KnowsConstants s scope names) where
    -- a term that has a sort is a variable or a constant of it
    term_known : (t : Term) (sort : ℕ) (sort_name : Name) → TermIsSaid s names t → sort_of_term s nums t ≡ Some sort → slice_get s.sorts sort ≡ Some sort_name →
        sort_of_variable scope (term_name s own names t) ≡ Some sort_name
    term_known (Variable v) sort sort_name said e there = knows.each own v sort sort_name e there
    term_known (Fixed k) sort sort_name said e there = fixed.each own k sort sort_name said e there

    term_below : (t : Term) (sort : ℕ) → sort_of_term s nums t ≡ Some sort → sort < length s.sorts
    term_below (Variable v) sort e = knows.declared v sort e
    term_below (Fixed k) sort e = fit.constant_sort k sort e

    -- the variable or constant in a place of an atom
    record SaidAt (p : Predicate) (k : ℕ) (name : Name) : Type 0 where
      below : slice_index p.sorts k < length s.sorts
      known : (sort : Name) → slice_get s.sorts (slice_index p.sorts k) ≡ Some sort → sort_of_variable scope name ≡ Some sort

    said_at : (a : Atom) (fits : AtomFits s nums a) (is_said : AtomIsSaid s names a) (k : ℕ) (name : Name) → slice_get (atom_form s own names a).args k ≡ Some name → SaidAt fits.predicate k name
    said_at a fits is_said k name e =
        let arity : arity_of s.predicates a.predicate ≡ fits.predicate.arity = ap (λ found. option_map_or (λ q. q.arity) found 0) fits.declared in
        let at = map_at (term_name s own names) (take (arity_of s.predicates a.predicate) a.args) k name e in
        let taken = take_at (arity_of s.predicates a.predicate) a.args k at.0 at.1 in
        let term : term_at a k ≡ at.0 = get_or_from_slice_get a.args k at.0 (Variable 0) taken.1 in
        let here : sort_of_term s nums at.0 ≡ Some (slice_index fits.predicate.sorts k) =
        subst (λ t. sort_of_term s nums t ≡ Some (slice_index fits.predicate.sorts k)) term (fits.places k (omega (arith, arity, taken.0))) in
        record {
          below = term_below at.0 (slice_index fits.predicate.sorts k) here;
          known = λ sort there. subst (λ x. sort_of_variable scope x ≡ Some sort) at.2 (term_known at.0 (slice_index fits.predicate.sorts k) sort (subst (TermIsSaid s names) term (is_said.places k)) here there);
        }

    atom_clean : (flaw : Flaw) (a : Atom) → AtomFits s nums a → AtomIsSaid s names a → length a.args ≡ 3 → atom_has flaw (full s cs os bs) scope (atom_form s own names a) ≡ false
    atom_clean flaw a fits is_said wide =
        let p = fits.predicate in
        let arity : arity_of s.predicates a.predicate ≡ p.arity = ap (λ found. option_map_or (λ q. q.arity) found 0) fits.declared in
        let args = (atom_form s own names a).args in
        let places = places_of (full s cs os bs) (predicate_name s own a.predicate) in
        let count : length args ≡ p.arity = length-map (take (arity_of s.predicates a.predicate) a.args) (term_name s own names) ∙ length-take-le (arity_of s.predicates a.predicate) a.args (omega (arith, arity, wide, fits.short)) ∙ arity in
        let used = use_clean flaw (arity_named (full s cs os bs) (predicate_name s own a.predicate)) p.arity (length args) (arity_known own a.predicate p fits.declared) count in
        let placed : list_any (place_has flaw scope) (zip args places) ≡ false =
        ap (λ all. list_any (place_has flaw scope) (zip args all)) (places_known own a.predicate p fits.declared)
        ∙ none_zipped (place_has flaw scope) args (predicate_line s.sorts p).sorts (λ k name sort e f.
        let said = said_at a fits is_said k name e in
        place_clean flaw scope name sort (said.known sort (place_at a.predicate k p sort fits.declared f))) in
        let free : list_any (variable_has flaw scope) args ≡ false = none_of (variable_has flaw scope) args (λ k name e.
        let said = said_at a fits is_said k name e in
        let sort = slice_index_or s.sorts (slice_index p.sorts k) own in
        variable_clean flaw scope name sort (said.known sort (found_at s.sorts (slice_index p.sorts k) own said.below))) in
        or_from (use_has flaw (arity_named (full s cs os bs) (predicate_name s own a.predicate)) (length args) || list_any (place_has flaw scope) (zip args places)) (list_any (variable_has flaw scope) args)
        (or_from (use_has flaw (arity_named (full s cs os bs) (predicate_name s own a.predicate)) (length args)) (list_any (place_has flaw scope) (zip args places)) used placed) free

    compared : (flaw : Flaw) (v w : Term) (sort : ℕ) → TermIsSaid s names v × TermIsSaid s names w → sort_of_term s nums v ≡ Some sort → sort_of_term s nums w ≡ Some sort →
        literal_has flaw (full s cs os bs) scope (literal_form s own names (Same v w)) ≡ false
    compared flaw v w sort said e f =
        let name = slice_index_or s.sorts sort own in
        let there = found_at s.sorts sort own (term_below v sort e) in
        comparison_clean flaw scope (term_name s own names v) (term_name s own names w) name (term_known v sort name said.0 e there) (term_known w sort name said.1 f there)

    pub literal_clean : (flaw : Flaw) (l : Literal) → LiteralFits s nums l → LiteralIsSaid s names l → LiteralShaped l → literal_has flaw (full s cs os bs) scope (literal_form s own names l) ≡ false
    literal_clean flaw (Holds a) fits said wide = atom_clean flaw a fits said wide
    literal_clean flaw (Fails a) fits said wide = atom_clean flaw a fits said wide
    literal_clean flaw (Same v w) fits said wide = compared flaw v w fits.sort said fits.first fits.second
    literal_clean flaw (Differ v w) fits said wide = compared flaw v w fits.sort said fits.first fits.second

    -- the argument in a place of an effect
    record GivenAt (e : Effect) (p : Predicate) (k : ℕ) (argument : Option Name) : Type 0 where
      arg : Arg
      place : k < p.arity
      stands : slice_index_or e.args k Any ≡ arg
      argument_is : arg_form s own names arg ≡ argument
      said : (c : ℕ) → arg ≡ FixedArg c → IsSaidByName s names c
      sorted : (c : ℕ) → arg ≡ FixedArg c → sort_of_constant s c ≡ Some (slice_index p.sorts k)

    given_at : (e : Effect) (fits : EffectFits s nums e) (is_said : EffectIsSaid s names e) (k : ℕ) (argument : Option Name) → slice_get (args_form s own names e) k ≡ Some argument → GivenAt e fits.predicate k argument
    given_at e fits is_said k argument is =
        let arity : arity_of s.predicates e.predicate ≡ fits.predicate.arity = ap (λ found. option_map_or (λ q. q.arity) found 0) fits.declared in
        let at = map_at (arg_form s own names) (take (arity_of s.predicates e.predicate) e.args) k argument is in
        let taken = take_at (arity_of s.predicates e.predicate) e.args k at.0 at.1 in
        let here : slice_index_or e.args k Any ≡ at.0 = get_or_from_slice_get e.args k at.0 Any taken.1 in
        record {
          arg = at.0;
          place = omega (arith, arity, taken.0);
          stands = here;
          argument_is = at.2;
          said = λ c same. is_said.places k c (here ∙ same);
          sorted = λ c same. fits.fixed k c (omega (arith, arity, taken.0)) (here ∙ same);
        }

    place_given : (flaw : Flaw) (arg : Arg) (sort : ℕ) (name : Name) → ((c : ℕ) → arg ≡ FixedArg c → IsSaidByName s names c) → ((c : ℕ) → arg ≡ FixedArg c → sort_of_constant s c ≡ Some sort) →
        ((v : ℕ) → arg ≡ Parameter v → slice_get nums v ≡ Some sort) → slice_get s.sorts sort ≡ Some name →
        argument_place_has flaw scope (arg_form s own names arg, name) ≡ false
    place_given flaw (Parameter v) sort name said sorted h is = place_clean flaw scope (slice_index_or names v own) name (knows.each own v sort name (h v refl) is)
    place_given flaw (FixedArg c) sort name said sorted h is = place_clean flaw scope (constant_name s own c) name (fixed.each own c sort name (said c refl) (sorted c refl) is)
    place_given flaw Any sort name said sorted h is = refl

    use_given : (flaw : Flaw) (add : Bool) (arg : Arg) (sort : ℕ) → ((c : ℕ) → arg ≡ FixedArg c → IsSaidByName s names c) → ((c : ℕ) → arg ≡ FixedArg c → sort_of_constant s c ≡ Some sort) →
        ((v : ℕ) → arg ≡ Parameter v → slice_get nums v ≡ Some sort) → (arg ≡ Any → add ≡ false) →
        argument_has flaw scope add (arg_form s own names arg) ≡ false
    use_given flaw add (Parameter v) sort said sorted h wild =
        let there = found_at s.sorts sort own (knows.declared v sort (h v refl)) in
        variable_clean flaw scope (slice_index_or names v own) (slice_index_or s.sorts sort own) (knows.each own v sort (slice_index_or s.sorts sort own) (h v refl) there)
    use_given flaw add (FixedArg c) sort said sorted h wild =
        let name = slice_index_or s.sorts sort own in
        let there = found_at s.sorts sort own (fit.constant_sort c sort (sorted c refl)) in
        variable_clean flaw scope (constant_name s own c) name (fixed.each own c sort name (said c refl) (sorted c refl) there)
    use_given flaw add Any sort said sorted h wild = wild_clean flaw add (wild refl)

    pub effect_clean : (flaw : Flaw) (add : Bool) (e : Effect) → (add ≡ true → e.add ≡ true) → EffectFits s nums e → EffectIsSaid s names e → length e.args ≡ 3 → effect_has flaw (full s cs os bs) scope (record { add = add; predicate = predicate_name s own e.predicate; args = args_form s own names e }) ≡ false
    effect_clean flaw add e adds fits is_said wide =
        let p = fits.predicate in
        let arity : arity_of s.predicates e.predicate ≡ p.arity = ap (λ found. option_map_or (λ q. q.arity) found 0) fits.declared in
        let args = args_form s own names e in
        let places = places_of (full s cs os bs) (predicate_name s own e.predicate) in
        let count : length args ≡ p.arity = length-map (take (arity_of s.predicates e.predicate) e.args) (arg_form s own names) ∙ length-take-le (arity_of s.predicates e.predicate) e.args (omega (arith, arity, wide, fits.short)) ∙ arity in
        let used = use_clean flaw (arity_named (full s cs os bs) (predicate_name s own e.predicate)) p.arity (length args) (arity_known own e.predicate p fits.declared) count in
        let placed : list_any (argument_place_has flaw scope) (zip args places) ≡ false =
        ap (λ all. list_any (argument_place_has flaw scope) (zip args all)) (places_known own e.predicate p fits.declared)
        ∙ none_zipped (argument_place_has flaw scope) args (predicate_line s.sorts p).sorts (λ k argument sort is f.
        let given = given_at e fits is_said k argument is in
        subst (λ x. argument_place_has flaw scope (x, sort) ≡ false) given.argument_is (place_given flaw given.arg (slice_index p.sorts k) sort given.said given.sorted (λ v same. fits.places k v given.place (given.stands ∙ same)) (place_at e.predicate k p sort fits.declared f))) in
        let free : list_any (argument_has flaw scope add) args ≡ false = none_of (argument_has flaw scope add) args (λ k argument is.
        let given = given_at e fits is_said k argument is in
        subst (λ x. argument_has flaw scope add x ≡ false) given.argument_is (use_given flaw add given.arg (slice_index p.sorts k) given.said given.sorted (λ v same. fits.places k v given.place (given.stands ∙ same))
        (λ any. none_true add (λ is_add. fits.exact (adds is_add) k given.place (given.stands ∙ any))))) in
        or_from (use_has flaw (arity_named (full s cs os bs) (predicate_name s own e.predicate)) (length args) || list_any (argument_place_has flaw scope) (zip args places)) (list_any (argument_has flaw scope add) args)
        (or_from (use_has flaw (arity_named (full s cs os bs) (predicate_name s own e.predicate)) (length args)) (list_any (argument_place_has flaw scope) (zip args places)) used placed) free

  -- what is known of a bound
  record BoundIs (b : Bound) : Type 0 where
    predicate : Predicate
    declared : slice_get s.predicates b.predicate ≡ Some predicate
    many : length (bound_vars s.predicates b) ≡ predicate.arity
    apart : has_repeat (λ name. name) (bound_vars s.predicates b) ≡ false
    counted : b.counted < predicate.arity

  bound_is : (n : ℕ) (b : Bound) → slice_get s.bounds n ≡ Some b → BoundIs b
  bound_is n b e =
      let places_have = λ (k : FaultKind). (or_parts (option_map_or (numbered.bound_places_have k b) (slice_get s.predicates b.predicate) (numbered.undeclared_has k)) (numbered.bound_adds k b)
      (or_parts (option_map_or (numbered.bound_places_have k b) (slice_get s.predicates b.predicate) (numbered.undeclared_has k) || numbered.bound_adds k b) (list_any (numbered.effect_has k s (place_sorts s.predicates b.predicate)) b.removes) (flaws.bounds n b e k)).0).0 in
      let found = declared (numbered.bound_places_have kind.UnknownName b) (slice_get s.predicates b.predicate) (places_have kind.UnknownName) in
      let p = found.0 in
      let arity : arity_of s.predicates b.predicate ≡ p.arity = ap (λ f. option_map_or (λ q. q.arity) f 0) found.1 in
      let repeats : has_repeat (λ name. name) (take p.arity b.vars) ≡ false = said_of (numbered.bound_places_have kind.Duplicate b) false (slice_get s.predicates b.predicate) p found.1 (places_have kind.Duplicate) in
      record {
        predicate = p;
        declared = found.1;
        many = length-take-le (arity_of s.predicates b.predicate) b.vars (omega (arith, arity, shaped.vars n b e, fit.arities b.predicate p found.1)) ∙ arity;
        apart = subst (λ a. has_repeat (λ name. name) (take a b.vars) ≡ false) (sym arity) repeats;
        counted = fit.counted n b p e found.1;
      }

  pub bound_clean : (flaw : Flaw) (n : ℕ) (b : Bound) → slice_get s.bounds n ≡ Some b → bound_has flaw (full s cs os bs) (predicate_name s b.name b.predicate) (bound_vars s.predicates b) (slice_index_or b.vars b.counted b.name) ≡ false
  bound_clean flaw n b e =
      let is = bound_is n b e in
      let vars = bound_vars s.predicates b in
      let name = predicate_name s b.name b.predicate in
      let counted = slice_index_or b.vars b.counted b.name in
      let arity : arity_of s.predicates b.predicate ≡ is.predicate.arity = ap (λ f. option_map_or (λ q. q.arity) f 0) is.declared in
      let there : slice_get vars b.counted ≡ Some counted =
      found_at vars b.counted b.name (omega (arith, is.many, is.counted)) ∙ ap (λ x. Some x) (among_first (arity_of s.predicates b.predicate) b.vars b.counted b.name (omega (arith, arity, is.counted))) in
      or_from (use_has flaw (arity_named (full s cs os bs) name) (length vars) || list_has flaw vars) (counted_has flaw vars counted)
      (or_from (use_has flaw (arity_named (full s cs os bs) name) (length vars)) (list_has flaw vars) (use_clean flaw (arity_named (full s cs os bs) name) is.predicate.arity (length vars) (arity_known b.name b.predicate is.predicate is.declared) is.many) (list_clean flaw vars is.apart))
      (counted_clean flaw vars counted (among_at vars b.counted counted there))

  pub knows_bound : (n : ℕ) (b : Bound) → slice_get s.bounds n ≡ Some b → Knows s.sorts (typed_by_places (bound_vars s.predicates b) (places_of (full s cs os bs) (predicate_name s b.name b.predicate))) (bound_vars s.predicates b) (place_sorts s.predicates b.predicate)
  knows_bound n b e =
      let is = bound_is n b e in
      let p = is.predicate in
      let vars = bound_vars s.predicates b in
      let sorts : place_sorts s.predicates b.predicate ≡ take p.arity p.sorts = ap (λ f. option_map_or (λ q. take q.arity q.sorts) f []) is.declared in
      let count : length (take p.arity p.sorts) ≡ p.arity = length-take-le p.arity p.sorts (omega (arith, shaped.predicates b.predicate p is.declared, fit.arities b.predicate p is.declared)) in
      let known : Knows s.sorts (typed_by_places vars (predicate_line s.sorts p).sorts) vars (take p.arity p.sorts) =
      knows_places s.sorts vars (predicate_line s.sorts p).sorts (take p.arity p.sorts) (is.many ∙ sym count) (place_count b.predicate p is.declared ∙ sym count) is.apart
      (λ k sort at.
      let taken = take_at p.arity p.sorts k sort at in
      let number : slice_index p.sorts k ≡ sort = get_or_from_slice_get p.sorts k sort 0 taken.1 in
      subst (λ v. v < length s.sorts) number (fit.place_sort b.predicate k p is.declared taken.0))
      (λ k sort name at there. slice_get-mapped (λ v. slice_index_or s.sorts v p.name) (take p.arity p.sorts) k sort at ∙ ap (λ x. Some x) (get_or_from_slice_get s.sorts sort name p.name there)) in
      subst (λ places. Knows s.sorts (typed_by_places vars places) vars (place_sorts s.predicates b.predicate)) (sym (places_known b.name b.predicate p is.declared))
      (subst (λ nums. Knows s.sorts (typed_by_places vars (predicate_line s.sorts p).sorts) vars nums) (sym sorts) known)

  pub bound_names : (n : ℕ) (b : Bound) → slice_get s.bounds n ≡ Some b → map (λ v. v.name) (typed_by_places (bound_vars s.predicates b) (places_of (full s cs os bs) (predicate_name s b.name b.predicate))) ≡ bound_vars s.predicates b
  bound_names n b e =
      let is = bound_is n b e in
      typed_names (bound_vars s.predicates b) (places_of (full s cs os bs) (predicate_name s b.name b.predicate))
      (omega (arith, is.many, place_count b.predicate is.predicate is.declared, ap length (places_known b.name b.predicate is.predicate is.declared)))
