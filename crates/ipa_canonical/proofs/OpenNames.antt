-- In the specification of a document no variable hides a constant that is named.
--
--   term_said      a name means a variable that has it, so a constant only where none has
--   hides_none     so of all names of accepted lines
use Rattle.std.proofs.Common.{◌≡◌, ℕ, zero, suc, ◌<◌, ◌≤◌, ◌||◌, Bool, true, false, not, ◌==◌, List, [], ◌∷◌, length, map, take, Option, Some, None, unwrap_or, refl, sym, ap, subst, ◌∙◌, arith}
use Rattle.std.specs.List.{slice_get, slice_index_or, list_any, find}
use Rattle.std.specs.Option.{option_map, option_map_or, is_none}
use Rattle.std.specs.Str.{bytes_eq}
use Rattle.std.proofs.lemmas.Bool.{or_parts, eqb-true, not-false}
use Rattle.std.proofs.lemmas.Option.{slice_get_within, get_or_from_slice_get}
use Rattle.std.proofs.lemmas.Simd.{map-map}
use Rattle.ipa_spec.specs.Actions.{arity_of}
use Rattle.ipa_spec.specs.Faults.{same_name, has_repeat, term_at}
use Rattle.ipa_spec.specs.FoundLaws.{map_at}
use Rattle.ipa_spec.specs.NameLaws.{same_bytes}
use Rattle.ipa_spec.specs.declared.names.Name.{Name}
use Rattle.ipa_spec.specs.declared.constants.Constant.{Constant}
use Rattle.ipa_spec.specs.declared.constants.Term.{Term}
use Rattle.ipa_spec.specs.declared.constants.Term.TheVariants.{Var as Variable, Const as Fixed}
use Rattle.ipa_spec.specs.declared.clauses.Literal.{Literal}
use Rattle.ipa_spec.specs.declared.operations.Arg.{Arg}
use Rattle.ipa_spec.specs.declared.operations.Arg.TheVariants.{Var as Parameter, Const as FixedArg, Any}
use Rattle.ipa_spec.specs.declared.operations.Effect.{Effect}
use Rattle.ipa_spec.specs.declared.specification.Specification.{Specification}
use Rattle.ipa_forms.specs.declared.forms.Typed.{Typed}
use Rattle.ipa_forms.specs.declared.forms.AtomForm.{AtomForm}
use Rattle.ipa_forms.specs.declared.forms.LiteralForm.{LiteralForm}
use Rattle.ipa_forms.specs.declared.forms.LiteralForm.TheVariants.{Holds, Fails, Same, Differ}
use Rattle.ipa_names.specs.Naming.{is_among, number_in, number_or_count}
use Rattle.ipa_names.specs.NumberLaws.{number_below, number_found, number_absent, same_by_number, at_number, repeat-map, slice_get-mapped}
use Rattle.ipa_names.specs.ListLaws.{any_same}
use Rattle.ipa_names.specs.Scopes.{predicate_named, places_of, typed_by_places, bound_variables}
use Rattle.ipa_names.specs.Flaws.{arity_named, use_has, list_has, counted_has, bound_has}
use Rattle.ipa_names.specs.Meaning.{predicate_number, constant_number, constant_of, predicate_of, var_of, term_of, term_arg, arg_of, atom_of, literal_of, clause_of, effect_of, operation_of, three_names, bound_of, specification_of}
use Rattle.ipa_names.specs.Soundness.{IsSound, IsSoundBound}
use Rattle.ipa_names.specs.declared.declared.BoundLines.{BoundLines}
use Rattle.ipa_names.specs.declared.declared.EffectLine.{EffectLine}
use Rattle.ipa_names.specs.declared.declared.PredicateLine.{PredicateLine}
use Rattle.ipa_names.specs.declared.declared.Declared.{Declared}
use Rattle.ipa_names.specs.declared.flaws.Flaw.TheVariants.{Arity, UnknownName}
use Rattle.ipa_canonical.specs.Canonical.{names_of, bound_vars}
use Rattle.ipa_canonical.specs.Hidden.{hides, IsSaidByName, TermIsSaid, LiteralIsSaid, EffectIsSaid, HidesNoConstant}
use Rattle.ipa_canonical.proofs.Numbers.{number_back, typed_names}
use Rattle.ipa_canonical.proofs.AcceptedNames.{among_at}

-- a name without a number is not among the names
not_among : (names : List Name) (name : Name) → number_in names name ≡ None → is_among names name ≡ false
not_among names name none = step (is_among names name) refl
  where
    step : (b : Bool) → is_among names name ≡ b → b ≡ false
    step false is = refl
    step true is =
        let found = number_found names name (number_below names name is) in
        absurd (no_some (number_or_count names name) (sym none ∙ found))
      where
        no_some : (n : ℕ) → None ≡ Some n → ⊥
        no_some n e = cc

-- among which names a name is depends on its text alone
among_same : (names : List Name) (a b : Name) → same_name a b ≡ true → is_among names a ≡ is_among names b
among_same names a b same = ap (λ bytes. list_any (λ other. bytes_eq (take other.len other.bytes) bytes) names) (same_bytes a b same)

-- of names of which none stands twice, what stands at a name's number has that name
named_at_number : (names : List Name) → has_repeat (λ name. name) names ≡ false → (name x : Name) → slice_get names (number_or_count names name) ≡ Some x → same_name x name ≡ true
named_at_number names apart name x e = step (is_among names name) refl
  where
    k : ℕ
    k = number_or_count names name

    within : k < length names
    within = slice_get_within names k x e

    step : (b : Bool) → is_among names name ≡ b → same_name x name ≡ true
    step true is =
        let own : number_or_count names x ≡ k = ap (number_or_count names) (sym (get_or_from_slice_get names k x x e)) ∙ number_back names apart k within x in
        same_by_number names x name (among_at names k x e) is own
    step false is =
        let past : k ≡ length names = ap (λ found. unwrap_or found (length names)) (number_absent names name is) in
        absurd (omega (arith, past, within))

module _ (d : Declared) (sound : IsSound d) where
  abbrev s : Specification
  s = specification_of d

  module _ (scope : List Typed) where
    abbrev vars : List Name
    vars = map (λ v. v.name) scope

    pub term_said : (name : Name) → TermIsSaid s vars (term_of d scope name)
    term_said name = step (number_in vars name) refl
      where
        hidden : number_in vars name ≡ None → (c : Constant) → slice_get (map (constant_of d) d.constants) (constant_number d name) ≡ Some c → hides vars c ≡ false
        hidden none c e =
            let at = map_at (constant_of d) d.constants (constant_number d name) c e in
            let named : slice_get (map (λ t. t.name) d.constants) (constant_number d name) ≡ Some at.0.name = slice_get-mapped (λ t. t.name) d.constants (constant_number d name) at.0 at.1 in
            let same : same_name at.0.name name ≡ true = named_at_number (map (λ t. t.name) d.constants) (repeat-map (λ n. n) (λ (t : Typed). t.name) d.constants ∙ sound.constants.apart) name at.0.name named in
            let own : c.name ≡ at.0.name = ap (λ x. x.name) (sym at.2) in
            ap (is_among vars) own ∙ among_same vars at.0.name name same ∙ not_among vars name none

        step : (found : Option ℕ) → number_in vars name ≡ found → TermIsSaid s vars (option_map_or (λ v. Variable v) found (Fixed (constant_number d name)))
        step (Some v) is = tt
        step None is = record { each = hidden is }

    each_said : (names : List Name) (place : ℕ) → TermIsSaid s vars (slice_index_or (map (term_of d scope) names) place (Variable 0))
    each_said [] place = tt
    each_said (name ∷ names) zero = term_said name
    each_said (name ∷ names) (suc place) = each_said names place

    atom_said : (a : AtomForm) (place : ℕ) → TermIsSaid s vars (term_at (atom_of d scope a) place)
    atom_said a zero = each_said a.args 0
    atom_said a (suc zero) = each_said a.args 1
    atom_said a (suc (suc zero)) = each_said a.args 2
    atom_said a (suc (suc (suc place))) = tt

    literal_said : (l : LiteralForm) → LiteralIsSaid s vars (literal_of d scope l)
    literal_said (Holds a) = record { places = atom_said a }
    literal_said (Fails a) = record { places = atom_said a }
    literal_said (Same one other) = (term_said one, term_said other)
    literal_said (Differ one other) = (term_said one, term_said other)

    -- the number of a constant that is an argument
    abbrev fixed_number : Arg → ℕ
    fixed_number (FixedArg k) = k
    fixed_number (Parameter v) = 0
    fixed_number Any = 0

    fixed_said : (t : Term) (k : ℕ) → TermIsSaid s vars t → term_arg t ≡ FixedArg k → IsSaidByName s vars k
    fixed_said (Variable v) k said e = cc
    fixed_said (Fixed j) k said e = subst (IsSaidByName s vars) (ap fixed_number e) said

    argument_said : (argument : Option Name) (k : ℕ) → arg_of d scope argument ≡ FixedArg k → IsSaidByName s vars k
    argument_said None k e = cc
    argument_said (Some name) k e = fixed_said (term_of d scope name) k (term_said name) e

    arguments_said : (arguments : List (Option Name)) (place k : ℕ) → slice_index_or (map (arg_of d scope) arguments) place Any ≡ FixedArg k → IsSaidByName s vars k
    arguments_said [] place k e = cc
    arguments_said (argument ∷ arguments) zero k e = argument_said argument k e
    arguments_said (argument ∷ arguments) (suc place) k e = arguments_said arguments place k e

    effect_places : (e : EffectLine) (place k : ℕ) → slice_index_or (effect_of d scope e).args place Any ≡ FixedArg k → IsSaidByName s vars k
    effect_places e zero k is = arguments_said e.args 0 k is
    effect_places e (suc zero) k is = arguments_said e.args 1 k is
    effect_places e (suc (suc zero)) k is = arguments_said e.args 2 k is
    effect_places e (suc (suc (suc place))) k is = cc

    effect_said : (e : EffectLine) → EffectIsSaid s vars (effect_of d scope e)
    effect_said e = record { places = effect_places e }

    literals_said : (ls : List LiteralForm) (all : List Literal) → map (literal_of d scope) ls ≡ all → (k : ℕ) (l : Literal) → slice_get all k ≡ Some l → LiteralIsSaid s vars l
    literals_said ls all same k l e =
        let at = map_at (literal_of d scope) ls k l (ap (λ xs. slice_get xs k) same ∙ e) in
        subst (LiteralIsSaid s vars) at.2 (literal_said at.0)

    effects_said : (es : List EffectLine) (all : List Effect) → map (effect_of d scope) es ≡ all → (k : ℕ) (e : Effect) → slice_get all k ≡ Some e → EffectIsSaid s vars e
    effects_said es all same k effect e =
        let at = map_at (effect_of d scope) es k effect (ap (λ xs. slice_get xs k) same ∙ e) in
        subst (EffectIsSaid s vars) at.2 (effect_said at.0)

  -- the names of variables, by numbers and by names
  same_variables : (scope : List Typed) → map (λ v. v.name) scope ≡ names_of (map (var_of d) scope)
  same_variables scope = sym (map-map (λ v. v.name) (var_of d) scope)

  first_names : (own : Name) (names : List Name) → length names ≤ 3 → take (length names) (three_names own names) ≡ names
  first_names own [] l = refl
  first_names own (a ∷ []) l = refl
  first_names own (a ∷ b ∷ []) l = refl
  first_names own (a ∷ b ∷ c ∷ []) l = refl
  first_names own (a ∷ b ∷ c ∷ e ∷ names) l = absurd (omega (arith, l))

  -- the predicate that a bound names
  record BoundNames (b : BoundLines) : Type 0 where
    line : PredicateLine
    named : predicate_named d b.predicate ≡ Some line
    many : length line.sorts ≡ length b.vars

  bound_names : (b : BoundLines) → IsSoundBound d b → BoundNames b
  bound_names b sound = step (predicate_named d b.predicate) refl
      (use_parts UnknownName (sound.flawless UnknownName)) (use_parts Arity (sound.flawless Arity))
    where
      use_parts : (flaw : _) → bound_has flaw d b.predicate b.vars b.counted ≡ false → use_has flaw (arity_named d b.predicate) (length b.vars) ≡ false
      use_parts flaw h =
          (or_parts (use_has flaw (arity_named d b.predicate) (length b.vars)) (list_has flaw b.vars)
          (or_parts (use_has flaw (arity_named d b.predicate) (length b.vars) || list_has flaw b.vars) (counted_has flaw b.vars b.counted) h).0).0

      step : (found : Option PredicateLine) → predicate_named d b.predicate ≡ found →
          use_has UnknownName (option_map (λ p. length p.sorts) found) (length b.vars) ≡ false →
          use_has Arity (option_map (λ p. length p.sorts) found) (length b.vars) ≡ false → BoundNames b
      step None is unknown arity = cc
      step (Some line) is unknown arity = record {
        line = line;
        named = is;
        many = eqb-true (length line.sorts) (length b.vars) (not-false (length line.sorts == length b.vars) arity);
      }

  -- the variables of a bound, by numbers and by names
  bound_variables_are : (b : BoundLines) → IsSoundBound d b → map (λ v. v.name) (bound_variables d b) ≡ bound_vars s.predicates (bound_of d b)
  bound_variables_are b sound =
      let is = bound_names b sound in
      let places : places_of d b.predicate ≡ is.line.sorts = ap (λ f. option_map_or (λ p. p.sorts) f []) is.named in
      let names : map (λ v. v.name) (bound_variables d b) ≡ b.vars = typed_names b.vars (places_of d b.predicate) (omega (arith, ap length places, is.many)) in
      let number = at_number (λ p. p.name) d.predicates b.predicate is.line is.named in
      let declared : slice_get s.predicates (predicate_number d b.predicate) ≡ Some (predicate_of d is.line) = slice_get-mapped (predicate_of d) d.predicates (predicate_number d b.predicate) is.line number in
      let arity : arity_of s.predicates (predicate_number d b.predicate) ≡ length b.vars = ap (λ f. option_map_or (λ p. p.arity) f 0) declared ∙ is.many in
      names ∙ sym (ap (λ n. take n (three_names b.name b.vars)) arity ∙ first_names b.name b.vars sound.variable_count)

  pub hides_none : HidesNoConstant s
  hides_none = record {
    literals = λ n k c l e is.
        let at = map_at (clause_of d) d.clauses n c e in
        let said = literals_said at.0.vars at.0.literals c.literals (ap (λ x. x.literals) at.2) k l is in
        subst (λ names. LiteralIsSaid s names l) (same_variables at.0.vars ∙ ap (λ x. names_of x.vars) at.2) said;
    needs = λ n k o l e is.
        let at = map_at (operation_of d) d.operations n o e in
        let said = literals_said at.0.params at.0.needs o.needs (ap (λ x. x.needs) at.2) k l is in
        subst (λ names. LiteralIsSaid s names l) (same_variables at.0.params ∙ ap (λ x. names_of x.params) at.2) said;
    effects = λ n k o effect e is.
        let at = map_at (operation_of d) d.operations n o e in
        let said = effects_said at.0.params at.0.effects o.effects (ap (λ x. x.effects) at.2) k effect is in
        subst (λ names. EffectIsSaid s names effect) (same_variables at.0.params ∙ ap (λ x. names_of x.params) at.2) said;
    removes = λ n k b effect e is.
        let at = map_at (bound_of d) d.bounds n b e in
        let said = effects_said (bound_variables d at.0) at.0.removes b.removes (ap (λ x. x.removes) at.2) k effect is in
        subst (λ names. EffectIsSaid s names effect) (bound_variables_are at.0 (sound.bounds.each.at n at.0 at.1) ∙ ap (bound_vars s.predicates) at.2) said;
  }
