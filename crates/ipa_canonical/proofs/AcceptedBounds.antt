-- The lines of the bounds of a canonical text are not refused.
--
--   bounds_go   the lines go on, where those behind them do
use Rattle.std.proofs.Common.{◌≡◌, ℕ, suc, ◌+◌, true, false, List, [], ◌∷◌, ◌++◌, length, map, Some, None, refl, sym, ap, subst, ◌∙◌}
use Rattle.std.specs.List.{slice_get, slice_index_or, flat_map}
use Rattle.std.specs.Option.{option_map_or}
use Rattle.std.proofs.lemmas.Bool.{or_from}
use Rattle.std.proofs.lemmas.List.{map-append}
use Rattle.ipa_spec.specs.Actions.{place_sorts, drop_effects, sorts_of, effects_of}
use Rattle.ipa_spec.specs.Fits.{IsFit, EffectFits}
use Rattle.ipa_spec.specs.declared.operations.Effect.{Effect}
use Rattle.ipa_spec.specs.declared.operations.Action.TheVariants as action
use Rattle.ipa_spec.specs.declared.bounds.Bound.{Bound}
use Rattle.ipa_spec.specs.declared.specification.Specification.{Specification}
use Rattle.ipa_forms.specs.declared.forms.Form.{Form}
use Rattle.ipa_canonical.specs.Canonical.{predicate_name, remove_form, bound_form, bound_forms, bound_vars}
use Rattle.ipa_spec.specs.Limits.{size_outside}
use Rattle.ipa_names.specs.Naming.{last_of, with_last}
use Rattle.ipa_names.specs.Scopes.{places_of, typed_by_places, bound_variables}
use Rattle.ipa_names.specs.Declarations.{with_remove}
use Rattle.ipa_names.specs.Flaws.{declaration_has, effect_has, bound_has, specification_line_has}
use Rattle.ipa_names.specs.Counts.{count_above, limit_passed}
use Rattle.ipa_canonical.specs.Named.{constant_line, remove_line, bound_lines}
use Rattle.ipa_canonical.specs.Hidden.{HidesNoConstant}
use Rattle.ipa_forms.specs.declared.forms.Typed.{Typed}
use Rattle.ipa_reader.specs.declared.standing.Arranged.{Arranged}
use Rattle.ipa_canonical.specs.Shapes.{IsShaped}
use Rattle.ipa_names.specs.declared.flaws.Flaw.{Flaw}
use Rattle.ipa_names.specs.declared.declared.ClauseLine.{ClauseLine}
use Rattle.ipa_names.specs.declared.declared.EffectLine.{EffectLine}
use Rattle.ipa_names.specs.declared.declared.OperationLines.{OperationLines}
use Rattle.ipa_names.specs.declared.declared.BoundLines.{BoundLines}
use Rattle.ipa_names.specs.declared.declared.Declared.{Declared}
use Rattle.ipa_names.specs.ListLaws.{with_last_is}
use Rattle.ipa_spec.specs.FaultlessFits.{SpecificationParts}
use Rattle.ipa_canonical.proofs.AcceptedChain.{stand, Chain, Onward, no_refusal, each_line, each_chunk}
use Rattle.ipa_canonical.proofs.AcceptedLimits.{AreInside, count_inside, size_inside, count_before, one_limit, two_limits}
use Rattle.ipa_canonical.proofs.AcceptedNames.{name_new, Knows, KnowsConstants, knows_more, knows_constants}
use Rattle.ipa_canonical.proofs.AcceptedParts.{full, effect_clean, bound_clean, knows_bound, bound_names}
use Rattle.ipa_canonical.proofs.AcceptedLines.{at_part}
use Rattle.ipa_canonical.proofs.AcceptedOperations.{last_there}

module _ (s : Specification) (fit : IsFit s) (flaws : SpecificationParts s) (inside : AreInside s) (shaped : IsShaped s) (open_names : HidesNoConstant s) (cs : List ClauseLine) (os : List OperationLines) (bs : List BoundLines) (n : ℕ) (b : Bound) (at : slice_get s.bounds n ≡ Some b) where
  abbrev remove_said : Effect → EffectLine
  remove_said e = remove_line s b.name (bound_vars s.predicates b) e

  abbrev lines : List EffectLine → BoundLines
  lines removes = record (bound_lines s b) { removes = removes }

  abbrev dropping : List EffectLine → Declared
  dropping removes = full s cs os (bs ++ lines removes ∷ [])

  -- the further removes of a bound are the later effects of its drop
  further : (k : ℕ) (effect : Effect) → slice_get b.removes k ≡ Some effect → slice_get (effects_of s (action.Drop n)) (suc k) ≡ Some effect
  further k effect is = ap (λ f. slice_get (option_map_or (drop_effects s.predicates) f []) (suc k)) at ∙ is

  sorts : sorts_of s (action.Drop n) ≡ place_sorts s.predicates b.predicate
  sorts = ap (λ f. option_map_or (λ x. place_sorts s.predicates x.predicate) f []) at

  abbrev DropsGo : List Effect → List Form → Type 0
  DropsGo done later = (a : Arranged) → Chain (stand false true (dropping (map remove_said done)) a) later

  drop_step : (before later : List Effect) (x : Effect) (rest : List Form) → b.removes ≡ before ++ x ∷ later → DropsGo (before ++ x ∷ []) rest → DropsGo before (remove_form s b.name (bound_vars s.predicates b) x ∷ rest)
  unfolding specification_line_has
  drop_step before later x rest e go = λ a. (
    no_refusal (stand false true d a) (remove_form s b.name (bound_vars s.predicates b) x) refl clean limit refl,
    subst (λ all. Chain (stand false true (full s cs os all) a) rest) grown (go a),
  )
    where
      d : Declared
      d = dropping (map remove_said before)

      k : ℕ
      k = length before

      here : slice_get b.removes k ≡ Some x
      here = at_part b.removes before later x e

      fits : EffectFits s (place_sorts s.predicates b.predicate) x
      fits = subst (λ all. EffectFits s all x) sorts (fit.effects (action.Drop n) (suc k) x (further k x here))

      last : last_of (bs ++ lines (map remove_said before) ∷ []) ≡ Some (lines (map remove_said before))
      last = last_there bs (lines (map remove_said before))

      vars : List Typed
      vars = typed_by_places (bound_vars s.predicates b) (places_of d (predicate_name s b.name b.predicate))

      scope : List Typed
      scope = vars ++ map (constant_line s.sorts) s.constants

      knows : Knows s.sorts scope (bound_vars s.predicates b) (place_sorts s.predicates b.predicate)
      knows = knows_more s.sorts vars (map (constant_line s.sorts) s.constants) (bound_vars s.predicates b) (place_sorts s.predicates b.predicate)
          (knows_bound s fit flaws shaped cs os (bs ++ lines (map remove_said before) ∷ []) n b at)

      knows_fixed : KnowsConstants s scope (bound_vars s.predicates b)
      knows_fixed = knows_constants s flaws.constant_names vars (bound_vars s.predicates b) (bound_names s fit flaws shaped cs os (bs ++ lines (map remove_said before) ∷ []) n b at)

      scope_is : option_map_or (bound_variables d) (last_of (bs ++ lines (map remove_said before) ∷ [])) [] ++ map (constant_line s.sorts) s.constants ≡ scope
      scope_is = ap (λ f. option_map_or (bound_variables d) f [] ++ map (constant_line s.sorts) s.constants) last

      clean : (flaw : Flaw) → specification_line_has flaw d (remove_form s b.name (bound_vars s.predicates b) x) ≡ false
      clean flaw = ap (λ names. effect_has flaw d names (remove_said x)) scope_is
          ∙ effect_clean s fit flaws shaped cs os (bs ++ lines (map remove_said before) ∷ []) scope (bound_vars s.predicates b) (place_sorts s.predicates b.predicate) b.name
          knows knows_fixed flaw false x (λ h. cc) fits (open_names.removes n k b x at here) (shaped.removes n k b x at here)

      counted : option_map_or (λ y. count_above 13 4 (length y.removes + 1)) (last_of (bs ++ lines (map remove_said before) ∷ [])) None ≡ None
      counted = ap (λ f. option_map_or (λ y. count_above 13 4 (length y.removes + 1)) f None) last
          ∙ count_inside 13 4 (length (map remove_said before) + 1) (count_before remove_said before later x b.removes 4 e (inside.removes n b at))

      limit : limit_passed d (remove_form s b.name (bound_vars s.predicates b) x) ≡ None
      limit = one_limit (option_map_or (λ y. count_above 13 4 (length y.removes + 1)) (last_of (bs ++ lines (map remove_said before) ∷ [])) None) counted

      grown : bs ++ lines (map remove_said (before ++ x ∷ [])) ∷ [] ≡ with_last (with_remove (remove_said x)) (bs ++ lines (map remove_said before) ∷ [])
      grown = ap (λ all. bs ++ lines all ∷ []) (map-append remove_said before (x ∷ [])) ∙ sym (with_last_is (with_remove (remove_said x)) (bs ++ lines (map remove_said before) ∷ []) bs (lines (map remove_said before)) refl)

  -- the lines behind that of the bound itself
  drops_go : (rest : List Form) → ((a : Arranged) → Chain (stand false true (full s cs os (bs ++ bound_lines s b ∷ [])) a) rest) → (a : Arranged) → Chain (stand false true (dropping []) a) (map (remove_form s b.name (bound_vars s.predicates b)) b.removes ++ rest)
  drops_go rest go = each_line DropsGo b.removes (remove_form s b.name (bound_vars s.predicates b)) drop_step [] b.removes refl rest go

module _ (s : Specification) (fit : IsFit s) (flaws : SpecificationParts s) (inside : AreInside s) (shaped : IsShaped s) (open_names : HidesNoConstant s) (cs : List ClauseLine) (os : List OperationLines) where
  abbrev with_bounds : List Bound → Declared
  with_bounds bs = full s cs os (map (bound_lines s) bs)

  bound_step : (before later : List Bound) (b : Bound) (rest : List Form) → s.bounds ≡ before ++ b ∷ later → Onward (with_bounds (before ++ b ∷ [])) rest → Onward (with_bounds before) (bound_forms s b ++ rest)
  unfolding specification_line_has
  bound_step before later b rest e go = λ operation bound a. (
    no_refusal (stand operation bound (with_bounds before) a) (bound_form s b) refl clean limit refl,
    drops_go s fit flaws inside shaped open_names cs os (map (bound_lines s) before) n b at rest
        (λ arranged. subst (λ bs. Chain (stand false true (full s cs os bs) arranged) rest) (map-append (bound_lines s) before (b ∷ [])) (go false true arranged)) a,
  )
    where
      n : ℕ
      n = length before

      at : slice_get s.bounds n ≡ Some b
      at = at_part s.bounds before later b e

      clean : (flaw : Flaw) → specification_line_has flaw (with_bounds before) (bound_form s b) ≡ false
      clean flaw = or_from (declaration_has flaw (map (λ x. x.name) (map (bound_lines s) before)) b.name) (bound_has flaw (with_bounds before) (predicate_name s b.name b.predicate) (bound_vars s.predicates b) (slice_index_or b.vars b.counted b.name))
          (name_new flaw (λ x. x.name) (bound_lines s) s.bounds before later b e flaws.bound_names)
          (bound_clean s fit flaws shaped cs os (map (bound_lines s) before) flaw n b at)

      limit : limit_passed (with_bounds before) (bound_form s b) ≡ None
      limit = two_limits (count_above 11 8 (length (map (bound_lines s) before) + 1)) (size_outside (b.most ∷ []))
          (count_inside 11 8 (length (map (bound_lines s) before) + 1) (count_before (bound_lines s) before later b s.bounds 8 e fit.bound_count))
          (size_inside b.most (inside.sizes n b at))

  pub bounds_go : (rest : List Form) → Onward (full s cs os (map (bound_lines s) s.bounds)) rest → Onward (full s cs os []) (flat_map (bound_forms s) s.bounds ++ rest)
  bounds_go rest go = each_chunk (λ bs later. Onward (with_bounds bs) later) s.bounds (bound_forms s) bound_step [] s.bounds refl rest go
