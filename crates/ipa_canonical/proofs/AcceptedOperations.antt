-- The lines of the operations of a canonical text are not refused.
--
--   last_there      the item that stands last
--   operations_go   the lines go on, where those behind them do
use Rattle.std.proofs.Common.{◌≡◌, ℕ, ◌+◌, ◌-◌, ◌<◌, Bool, true, false, cond, ◌||◌, List, [], ◌∷◌, ◌++◌, length, map, Option, Some, None, refl, sym, ap, subst, ◌∙◌, append_assoc, arith}
use Rattle.std.specs.List.{slice_get, list_any, flat_map}
use Rattle.std.specs.Option.{option_map_or}
use Rattle.std.proofs.lemmas.Bool.{or_from, or_parts}
use Rattle.std.proofs.lemmas.List.{length-append, length-map, map-append}
use Rattle.ipa_spec.specs.Actions.{sorts_of_vars, sorts_of, needs_of, effects_of}
use Rattle.ipa_spec.specs.Faults as numbered
use Rattle.ipa_spec.specs.Fits.{IsFit, LiteralFits, EffectFits}
use Rattle.ipa_spec.specs.declared.faults.FaultKind.TheVariants as kind
use Rattle.ipa_spec.specs.declared.names.Name.{Name}
use Rattle.ipa_spec.specs.declared.clauses.Literal.{Literal}
use Rattle.ipa_spec.specs.declared.operations.Effect.{Effect}
use Rattle.ipa_spec.specs.declared.operations.Operation.{Operation}
use Rattle.ipa_spec.specs.declared.operations.Action.TheVariants as action
use Rattle.ipa_spec.specs.declared.specification.Specification.{Specification}
use Rattle.ipa_forms.specs.declared.forms.LiteralForm.{LiteralForm}
use Rattle.ipa_forms.specs.declared.forms.Form.{Form}
use Rattle.ipa_forms.specs.declared.forms.Form.TheVariants as line
use Rattle.ipa_canonical.specs.Canonical.{predicate_name, typed_form, literal_form, names_of, args_form, need_form, effect_form, operation_forms}
use Rattle.ipa_names.specs.Naming.{last_of, with_last}
use Rattle.ipa_names.specs.Scopes.{operation_scope, with_constants}
use Rattle.ipa_names.specs.Declarations.{with_need, with_effect}
use Rattle.ipa_reader.specs.Standings.{next_standing}
use Rattle.ipa_names.specs.Flaws.{declaration_has, variables_have, literal_has, effect_has, specification_line_has}
use Rattle.ipa_names.specs.Counts.{count_above, effects_above, limit_passed}
use Rattle.ipa_canonical.specs.Named.{constant_line, effect_line, operation_lines}
use Rattle.ipa_canonical.specs.Hidden.{HidesNoConstant}
use Rattle.ipa_forms.specs.declared.forms.Typed.{Typed}
use Rattle.ipa_reader.specs.declared.standing.Arranged.{Arranged}
use Rattle.std.proofs.lemmas.Simd.{map-map}
use Rattle.ipa_canonical.specs.Shapes.{IsShaped}
use Rattle.ipa_names.specs.declared.flaws.Flaw.{Flaw}
use Rattle.ipa_names.specs.declared.declared.ClauseLine.{ClauseLine}
use Rattle.ipa_names.specs.declared.declared.EffectLine.{EffectLine}
use Rattle.ipa_names.specs.declared.declared.OperationLines.{OperationLines}
use Rattle.ipa_names.specs.declared.declared.Declared.{Declared}
use Rattle.ipa_names.specs.ListLaws.{with_last_is}
use Rattle.ipa_names.specs.NumberLaws.{slice_get-mapped}
use Rattle.ipa_spec.specs.FaultlessFits.{SpecificationParts}
use Rattle.ipa_canonical.proofs.AcceptedChain.{stand, IsUnrefused, Chain, Onward, no_refusal, each_line, each_chunk}
use Rattle.ipa_canonical.proofs.AcceptedLimits.{AreInside, count_inside, count_before, one_limit, two_limits}
use Rattle.ipa_canonical.proofs.AcceptedNames.{name_new, variables_clean, Knows, KnowsConstants, knows_vars, knows_more, knows_constants}
use Rattle.ipa_canonical.proofs.AcceptedParts.{full, literal_clean, effect_clean}
use Rattle.ipa_canonical.proofs.AcceptedLines.{at_part}

pub last_there : {X : Type 0} (xs : List X) (x : X) → last_of (xs ++ x ∷ []) ≡ Some x
last_there xs x =
    let count : length (xs ++ x ∷ []) - 1 ≡ length xs = omega (arith, length-append xs (x ∷ [])) in
    subst (λ k. slice_get (xs ++ x ∷ []) k ≡ Some x) (sym count) (at_part (xs ++ x ∷ []) xs [] x refl)

-- an `add` or a `del` line, by whether it adds
either_unrefused : (d : Declared) (a : Arranged) (predicate : Name) (args : List (Option Name)) (b : Bool) → ((flaw : Flaw) → effect_has flaw d (with_constants d (operation_scope d)) (record { add = b; predicate = predicate; args = args }) ≡ false) → effects_above d ≡ None → IsUnrefused (stand true false d a) (cond b (line.Add predicate args) (line.Del predicate args))
unfolding specification_line_has
either_unrefused d a predicate args true clean limit = no_refusal (stand true false d a) (line.Add predicate args) refl clean (one_limit (effects_above d) limit) refl
either_unrefused d a predicate args false clean limit = no_refusal (stand true false d a) (line.Del predicate args) refl clean (one_limit (effects_above d) limit) refl

either_next : (d : Declared) (a : Arranged) (predicate : Name) (args : List (Option Name)) (b : Bool) → next_standing (stand true false d a) (cond b (line.Add predicate args) (line.Del predicate args)) ≡ stand true false (record d { operations = with_last (with_effect (record { add = b; predicate = predicate; args = args })) d.operations }) a
either_next d a predicate args true = refl
either_next d a predicate args false = refl

module _ (s : Specification) (fit : IsFit s) (flaws : SpecificationParts s) (inside : AreInside s) (shaped : IsShaped s) (open_names : HidesNoConstant s) (cs : List ClauseLine) (os : List OperationLines) (n : ℕ) (o : Operation) (at : slice_get s.operations n ≡ Some o) where
  abbrev need_said : Literal → LiteralForm
  need_said l = literal_form s o.name (names_of o.params) l

  abbrev effect_said : Effect → EffectLine
  effect_said e = effect_line s o.name (names_of o.params) e

  abbrev lines : List LiteralForm → List EffectLine → OperationLines
  lines needs effects = record { name = o.name; params = map (typed_form s.sorts) o.params; needs = needs; effects = effects }

  abbrev doing : List LiteralForm → List EffectLine → Declared
  doing needs effects = full s cs (os ++ lines needs effects ∷ []) []

  has_params : numbered.variables_have kind.Duplicate s o.params ≡ false
  has_params =
      let first = or_parts (numbered.variables_have kind.Duplicate s o.params || list_any (numbered.literal_has kind.Duplicate s (sorts_of_vars o.params)) o.needs) (list_any (numbered.effect_has kind.Duplicate s (sorts_of_vars o.params)) o.effects) (flaws.operations n o at kind.Duplicate) in
      (or_parts (numbered.variables_have kind.Duplicate s o.params) (list_any (numbered.literal_has kind.Duplicate s (sorts_of_vars o.params)) o.needs) first.0).0

  sorts : sorts_of s (action.Op n) ≡ sorts_of_vars o.params
  sorts = ap (λ found. option_map_or (λ x. sorts_of_vars x.params) found []) at

  param_sort : (k sort : ℕ) → slice_get (sorts_of_vars o.params) k ≡ Some sort → sort < length s.sorts
  param_sort k sort is = fit.argument_sort (action.Op n) k sort (ap (λ all. slice_get all k) sorts ∙ is)

  abbrev scope : List Typed
  scope = map (typed_form s.sorts) o.params ++ map (constant_line s.sorts) s.constants

  knows : Knows s.sorts scope (names_of o.params) (sorts_of_vars o.params)
  knows = knows_more s.sorts (map (typed_form s.sorts) o.params) (map (constant_line s.sorts) s.constants) (names_of o.params) (sorts_of_vars o.params)
      (knows_vars s.sorts o.params param_sort has_params)

  knows_fixed : KnowsConstants s scope (names_of o.params)
  knows_fixed = knows_constants s flaws.constant_names (map (typed_form s.sorts) o.params) (names_of o.params) (map-map (λ v. v.name) (typed_form s.sorts) o.params)

  scope_is : (needs : List LiteralForm) (effects : List EffectLine) → with_constants (doing needs effects) (operation_scope (doing needs effects)) ≡ scope
  scope_is needs effects = ap (λ f. option_map_or (λ x. x.params) f [] ++ map (constant_line s.sorts) s.constants) (last_there os (lines needs effects))

  abbrev NeedsGo : List Literal → List Form → Type 0
  NeedsGo done later = (a : Arranged) → Chain (stand true false (doing (map need_said done) []) a) later

  need_step : (before later : List Literal) (l : Literal) (rest : List Form) → o.needs ≡ before ++ l ∷ later → NeedsGo (before ++ l ∷ []) rest → NeedsGo before (need_form s o.name (names_of o.params) l ∷ rest)
  unfolding specification_line_has
  need_step before later l rest e go = λ a. (
    no_refusal (stand true false (doing (map need_said before) []) a) (line.Need (need_said l)) refl clean limit refl,
    subst (λ all. Chain (stand true false (full s cs all []) a) rest) grown (go a),
  )
    where
      k : ℕ
      k = length before

      here : slice_get o.needs k ≡ Some l
      here = at_part o.needs before later l e

      needs_are : needs_of s (action.Op n) ≡ o.needs
      needs_are = ap (λ found. option_map_or (λ x. x.needs) found []) at

      fits : LiteralFits s (sorts_of_vars o.params) l
      fits = subst (λ all. LiteralFits s all l) sorts (fit.needs (action.Op n) k l (ap (λ all. slice_get all k) needs_are ∙ here))

      clean : (flaw : Flaw) → specification_line_has flaw (doing (map need_said before) []) (line.Need (need_said l)) ≡ false
      clean flaw = ap (λ names. literal_has flaw (doing (map need_said before) []) names (need_said l)) (scope_is (map need_said before) [])
          ∙ literal_clean s fit flaws shaped cs (os ++ lines (map need_said before) [] ∷ []) [] scope (names_of o.params) (sorts_of_vars o.params) o.name knows knows_fixed flaw l fits (open_names.needs n k o l at here) (shaped.needs n k o l at here)

      counted : option_map_or (λ x. count_above 10 6 (length x.needs + 1)) (last_of (os ++ lines (map need_said before) [] ∷ [])) None ≡ None
      counted = ap (λ f. option_map_or (λ x. count_above 10 6 (length x.needs + 1)) f None) (last_there os (lines (map need_said before) []))
          ∙ count_inside 10 6 (length (map need_said before) + 1) (count_before need_said before later l o.needs 6 e (inside.needs n o at))

      limit : limit_passed (doing (map need_said before) []) (line.Need (need_said l)) ≡ None
      limit = one_limit (option_map_or (λ x. count_above 10 6 (length x.needs + 1)) (last_of (os ++ lines (map need_said before) [] ∷ [])) None) counted

      grown : os ++ lines (map need_said (before ++ l ∷ [])) [] ∷ [] ≡ with_last (with_need (need_said l)) (os ++ lines (map need_said before) [] ∷ [])
      grown = ap (λ all. os ++ lines all [] ∷ []) (map-append need_said before (l ∷ [])) ∙ sym (with_last_is (with_need (need_said l)) (os ++ lines (map need_said before) [] ∷ []) os (lines (map need_said before) []) refl)

  abbrev EffectsGo : List Effect → List Form → Type 0
  EffectsGo done later = (a : Arranged) → Chain (stand true false (doing (map need_said o.needs) (map effect_said done)) a) later

  effect_step : (before later : List Effect) (x : Effect) (rest : List Form) → o.effects ≡ before ++ x ∷ later → EffectsGo (before ++ x ∷ []) rest → EffectsGo before (effect_form s o.name (names_of o.params) x ∷ rest)
  effect_step before later x rest e go = λ a. (
    either_unrefused (doing needs (map effect_said before)) a (predicate_name s o.name x.predicate) (args_form s o.name (names_of o.params) x) x.add clean counted,
    subst (λ st. Chain st rest) (ap (λ all. stand true false (full s cs all []) a) grown ∙ sym (either_next (doing needs (map effect_said before)) a (predicate_name s o.name x.predicate) (args_form s o.name (names_of o.params) x) x.add)) (go a),
  )
    where
      needs : List LiteralForm
      needs = map need_said o.needs

      k : ℕ
      k = length before

      here : slice_get o.effects k ≡ Some x
      here = at_part o.effects before later x e

      effects_are : effects_of s (action.Op n) ≡ o.effects
      effects_are = ap (λ found. option_map_or (λ y. y.effects) found []) at

      fits : EffectFits s (sorts_of_vars o.params) x
      fits = subst (λ all. EffectFits s all x) sorts (fit.effects (action.Op n) k x (ap (λ all. slice_get all k) effects_are ∙ here))

      clean : (flaw : Flaw) → effect_has flaw (doing needs (map effect_said before)) (with_constants (doing needs (map effect_said before)) (operation_scope (doing needs (map effect_said before)))) (effect_said x) ≡ false
      clean flaw = ap (λ names. effect_has flaw (doing needs (map effect_said before)) names (effect_said x)) (scope_is needs (map effect_said before))
          ∙ effect_clean s fit flaws shaped cs (os ++ lines needs (map effect_said before) ∷ []) [] scope (names_of o.params) (sorts_of_vars o.params) o.name knows knows_fixed flaw x.add x (λ h. h) fits (open_names.effects n k o x at here) (shaped.effects n k o x at here)

      counted : effects_above (doing needs (map effect_said before)) ≡ None
      counted = ap (λ f. option_map_or (λ y. count_above 9 12 (length y.effects + 1)) f None) (last_there os (lines needs (map effect_said before)))
          ∙ count_inside 9 12 (length (map effect_said before) + 1) (count_before effect_said before later x o.effects 12 e (inside.effects n o at))

      grown : os ++ lines needs (map effect_said (before ++ x ∷ [])) ∷ [] ≡ with_last (with_effect (effect_said x)) (os ++ lines needs (map effect_said before) ∷ [])
      grown = ap (λ all. os ++ lines needs all ∷ []) (map-append effect_said before (x ∷ [])) ∙ sym (with_last_is (with_effect (effect_said x)) (os ++ lines needs (map effect_said before) ∷ []) os (lines needs (map effect_said before)) refl)

  -- the lines behind that of the operation itself
  parts_go : (rest : List Form) → ((a : Arranged) → Chain (stand true false (full s cs (os ++ operation_lines s o ∷ []) []) a) rest) → (a : Arranged) →
      Chain (stand true false (doing [] []) a) ((map (need_form s o.name (names_of o.params)) o.needs ++ map (effect_form s o.name (names_of o.params)) o.effects) ++ rest)
  parts_go rest go a =
      let needs = map (need_form s o.name (names_of o.params)) o.needs in
      let effects = map (effect_form s o.name (names_of o.params)) o.effects in
      let behind : EffectsGo [] (effects ++ rest) = each_line EffectsGo o.effects (effect_form s o.name (names_of o.params)) effect_step [] o.effects refl rest go in
      let all : NeedsGo [] (needs ++ (effects ++ rest)) = each_line NeedsGo o.needs (need_form s o.name (names_of o.params)) need_step [] o.needs refl (effects ++ rest) behind in
      subst (λ later. Chain (stand true false (doing [] []) a) later) (sym (append_assoc needs effects rest)) (all a)

module _ (s : Specification) (fit : IsFit s) (flaws : SpecificationParts s) (inside : AreInside s) (shaped : IsShaped s) (open_names : HidesNoConstant s) (cs : List ClauseLine) where
  abbrev with_operations : List Operation → Declared
  with_operations os = full s cs (map (operation_lines s) os) []

  operation_step : (before later : List Operation) (o : Operation) (rest : List Form) → s.operations ≡ before ++ o ∷ later → Onward (with_operations (before ++ o ∷ [])) rest → Onward (with_operations before) (operation_forms s o ++ rest)
  unfolding specification_line_has
  operation_step before later o rest e go = λ operation bound a. (
    no_refusal (stand operation bound (with_operations before) a) (line.Op o.name (map (typed_form s.sorts) o.params)) refl clean limit refl,
    parts_go s fit flaws inside shaped open_names cs (map (operation_lines s) before) n o at rest
        (λ arranged. subst (λ os. Chain (stand true false (full s cs os []) arranged) rest) (map-append (operation_lines s) before (o ∷ [])) (go true false arranged)) a,
  )
    where
      n : ℕ
      n = length before

      at : slice_get s.operations n ≡ Some o
      at = at_part s.operations before later o e

      vars_clean : (flaw : Flaw) → variables_have flaw (with_operations before) (map (typed_form s.sorts) o.params) ≡ false
      vars_clean flaw = variables_clean flaw (with_operations before) o.params
          (λ k v is. param_sort s fit flaws inside shaped open_names cs (map (operation_lines s) before) n o at k v.sort (slice_get-mapped (λ x. x.sort) o.params k v is))
          (has_params s fit flaws inside shaped open_names cs (map (operation_lines s) before) n o at)

      clean : (flaw : Flaw) → specification_line_has flaw (with_operations before) (line.Op o.name (map (typed_form s.sorts) o.params)) ≡ false
      clean flaw = or_from (declaration_has flaw (map (λ x. x.name) (map (operation_lines s) before)) o.name) (variables_have flaw (with_operations before) (map (typed_form s.sorts) o.params))
          (name_new flaw (λ x. x.name) (operation_lines s) s.operations before later o e flaws.operation_names) (vars_clean flaw)

      limit : limit_passed (with_operations before) (line.Op o.name (map (typed_form s.sorts) o.params)) ≡ None
      limit = two_limits (count_above 7 32 (length (map (operation_lines s) before) + 1)) (count_above 8 4 (length (map (typed_form s.sorts) o.params)))
          (count_inside 7 32 (length (map (operation_lines s) before) + 1) (count_before (operation_lines s) before later o s.operations 32 e fit.operation_count))
          (count_inside 8 4 (length (map (typed_form s.sorts) o.params)) (omega (arith, length-map o.params (typed_form s.sorts), inside.params n o at)))

  pub operations_go : (rest : List Form) → Onward (full s cs (map (operation_lines s) s.operations) []) rest → Onward (full s cs [] []) (flat_map (operation_forms s) s.operations ++ rest)
  operations_go rest go = each_chunk (λ os later. Onward (with_operations os) later) s.operations (operation_forms s) operation_step [] s.operations refl rest go
