-- The lines of the sorts, constants, predicates and clauses of a canonical text are not refused.
--
--   sorts_go, constants_go, predicates_go, clauses_go   the lines go on, where those behind them do
use Rattle.std.proofs.Common.{◌≡◌, ℕ, ◌+◌, ◌<◌, ◌≤◌, cond, false, ◌||◌, ◌==◌, List, [], ◌∷◌, ◌++◌, length, map, filter, take, slice_index, Some, None, refl, ap, subst, ◌∙◌, arith}
use Rattle.std.specs.List.{slice_get, slice_index_or, list_any}
use Rattle.std.specs.Option.{option_map}
use Rattle.std.proofs.lemmas.Bool.{or_from, or_parts, eq-eqb}
use Rattle.std.proofs.lemmas.List.{length-append, length-map, length-take-le, map-append, take-append-le, take_all}
use Rattle.std.proofs.lemmas.List.Elements.{filter-append}
use Rattle.std.proofs.lemmas.Simd.{map-map}
use Rattle.std.proofs.lemmas.Option.{get_or_from_slice_get}
use Rattle.ipa_spec.specs.Actions.{sorts_of_vars}
use Rattle.ipa_spec.specs.Faults as numbered
use Rattle.ipa_spec.specs.Constants.{constants_of}
use Rattle.ipa_spec.specs.Faults.{same_name}
use Rattle.ipa_spec.specs.Fits.{IsFit}
use Rattle.ipa_spec.specs.FoundLaws.{take_at, none_of}
use Rattle.ipa_spec.specs.declared.faults.FaultKind.{FaultKind}
use Rattle.ipa_spec.specs.declared.faults.FaultKind.TheVariants as kind
use Rattle.ipa_spec.specs.declared.constants.Constant.{Constant}
use Rattle.ipa_spec.specs.declared.names.Name.{Name}
use Rattle.ipa_spec.specs.declared.predicates.Predicate.{Predicate}
use Rattle.ipa_spec.specs.declared.clauses.Clause.{Clause}
use Rattle.ipa_spec.specs.declared.specification.Specification.{Specification}
use Rattle.ipa_forms.specs.declared.forms.Form.{Form}
use Rattle.ipa_forms.specs.declared.forms.Form.TheVariants as line
use Rattle.ipa_canonical.specs.Canonical.{names_at, const_form, typed_form, literal_form, names_of, pred_form, clause_form}
use Rattle.ipa_names.specs.Declarations.{nothing_declared}
use Rattle.ipa_names.specs.Scopes.{constants_named, with_constants}
use Rattle.ipa_names.specs.Flaws.{declaration_has, sort_has, variables_have, literal_has, specification_line_has}
use Rattle.ipa_names.specs.Counts.{count_above, limit_passed}
use Rattle.ipa_canonical.specs.Named.{constant_line, predicate_line, clause_line}
use Rattle.ipa_canonical.specs.Hidden.{HidesNoConstant}
use Rattle.ipa_canonical.specs.Shapes.{IsShaped}
use Rattle.ipa_forms.specs.declared.forms.Typed.{Typed}
use Rattle.ipa_names.specs.declared.flaws.Flaw.{Flaw}
use Rattle.ipa_reader.specs.Arrangements.{with_arrangement}
use Rattle.ipa_reader.specs.declared.standing.Arranged.{Arranged}
use Rattle.ipa_names.specs.declared.declared.Declared.{Declared}
use Rattle.ipa_names.specs.FilterLaws.{filter_same, length-filter_mapped}
use Rattle.ipa_names.specs.NumberLaws.{slice_get-mapped}
use Rattle.ipa_names.specs.ListLaws.{any-map, at_seam}
use Rattle.ipa_spec.specs.FaultlessFits.{SpecificationParts}
use Rattle.ipa_canonical.proofs.AcceptedChain.{stand, Chain, Onward, no_refusal, each_line}
use Rattle.ipa_canonical.proofs.AcceptedLimits.{count_inside, count_before, one_limit, two_limits, three_limits}
use Rattle.ipa_canonical.proofs.AcceptedNames.{name_new, sort_new, sort_known, sort_named, variables_clean, Knows, KnowsConstants, knows_vars, knows_more, knows_constants}
use Rattle.ipa_canonical.proofs.AcceptedParts.{full, literal_clean}

-- what stands behind others
pub at_part : {X : Type 0} (all before later : List X) (x : X) → all ≡ before ++ x ∷ later → slice_get all (length before) ≡ Some x
at_part all before later x e = ap (λ xs. slice_get xs (length before)) e ∙ at_seam before later x

module _ (s : Specification) (fit : IsFit s) (flaws : SpecificationParts s) (shaped : IsShaped s) (open_names : HidesNoConstant s) where
  abbrev with_sorts : List Name → Declared
  with_sorts names = record nothing_declared { sorts = names }

  sort_step : (before later : List Name) (x : Name) (rest : List Form) → s.sorts ≡ before ++ x ∷ later → Onward (with_sorts (before ++ x ∷ [])) rest → Onward (with_sorts before) (line.Sort x ∷ rest)
  unfolding specification_line_has
  sort_step before later x rest e go = λ operation bound a. (no_refusal (stand operation bound (with_sorts before) a) (line.Sort x) refl clean limit refl, go false false a)
    where
      clean : (flaw : Flaw) → specification_line_has flaw (with_sorts before) (line.Sort x) ≡ false
      clean flaw = sort_new flaw s.sorts before later x e flaws.sort_names

      limit : limit_passed (with_sorts before) (line.Sort x) ≡ None
      limit = one_limit (count_above 1 8 (length before + 1)) (count_inside 1 8 (length before + 1) (omega (arith, ap length e, length-append before (x ∷ later), fit.sort_count)))

  pub sorts_go : (rest : List Form) → Onward (with_sorts s.sorts) rest → Onward nothing_declared (map (λ name. line.Sort name) s.sorts ++ rest)
  sorts_go rest go = each_line (λ names lines. Onward (with_sorts names) lines) s.sorts (λ name. line.Sort name) sort_step [] s.sorts refl rest go

  abbrev with_declared : List Constant → Declared
  with_declared cs = record nothing_declared { sorts = s.sorts; constants = map (constant_line s.sorts) cs }

  constant_step : (before later : List Constant) (c : Constant) (rest : List Form) → s.constants ≡ before ++ c ∷ later → Onward (with_declared (before ++ c ∷ [])) rest → Onward (with_declared before) (const_form s.sorts c ∷ rest)
  unfolding specification_line_has
  constant_step before later c rest e go = λ operation bound a. (
    no_refusal (stand operation bound (with_declared before) a) (const_form s.sorts c) refl clean limit refl,
    subst (λ cs. Chain (stand false false (record nothing_declared { sorts = s.sorts; constants = cs }) (next a)) rest) (map-append (constant_line s.sorts) before (c ∷ [])) (go false false (next a)),
  )
    where
      next : Arranged → Arranged
      next a = with_arrangement (with_declared before) a (const_form s.sorts c)

      at : slice_get s.constants (length before) ≡ Some c
      at = at_part s.constants before later c e

      below : c.sort < length s.sorts
      below = fit.constant_sort (length before) c.sort (ap (option_map (λ k. k.sort)) at)

      clean : (flaw : Flaw) → specification_line_has flaw (with_declared before) (const_form s.sorts c) ≡ false
      clean flaw = or_from (declaration_has flaw (map (λ k. k.name) (map (constant_line s.sorts) before)) c.name) (sort_has flaw (with_declared before) (slice_index_or s.sorts c.sort c.name))
          (name_new flaw (λ k. k.name) (constant_line s.sorts) s.constants before later c e flaws.constant_names) (sort_known flaw (with_declared before) c.sort c.name below)

      own : Name
      own = slice_index_or s.sorts c.sort c.name

      -- a constant's sort is named as this one's exactly where it is this one's
      of_sort : (n : ℕ) (k : Constant) → slice_get before n ≡ Some k → same_name own (slice_index_or s.sorts k.sort k.name) ≡ (k.sort == c.sort)
      of_sort n k is =
          let front : take (length before) (before ++ c ∷ later) ≡ before = take-append-le (length before) before (c ∷ later) (omega arith) ∙ take_all (length before) before (omega arith) in
          let there : slice_get s.constants n ≡ Some k = ap (λ all. slice_get all n) e ∙ (take_at (length before) (before ++ c ∷ later) n k (ap (λ xs. slice_get xs n) front ∙ is)).1 in
          sort_named s.sorts flaws.sort_names c.sort k.sort c.name k.name below (fit.constant_sort n k.sort (ap (option_map (λ x. x.sort)) there))

      few : length (constants_named (map (constant_line s.sorts) before) own) + 1 ≤ 4
      few =
          let among = length-filter_mapped (λ t. same_name own t.sort) (constant_line s.sorts) before in
          let same = ap length (filter_same (λ k. k.sort == c.sort) (λ k. same_name own (slice_index_or s.sorts k.sort k.name)) before of_sort) in
          let front = filter-append (λ k. k.sort == c.sort) before (c ∷ later) in
          let this : filter (λ k. k.sort == c.sort) (c ∷ later) ≡ c ∷ filter (λ k. k.sort == c.sort) later = ap (λ b. cond b (c ∷ filter (λ k. k.sort == c.sort) later) (filter (λ k. k.sort == c.sort) later)) (eq-eqb c.sort c.sort refl) in
          let all = ap (λ cs. length (constants_of cs c.sort)) e in
          omega (
            arith,
            among,
            same,
            all,
            ap length front,
            ap length this,
            length-append (filter (λ k. k.sort == c.sort) before) (filter (λ k. k.sort == c.sort) (c ∷ later)),
            fit.constant_most c.sort,
          )

      limit : limit_passed (with_declared before) (const_form s.sorts c) ≡ None
      limit = one_limit (count_above 19 4 (length (constants_named (map (constant_line s.sorts) before) own) + 1)) (count_inside 19 4 (length (constants_named (map (constant_line s.sorts) before) own) + 1) few)

  pub constants_go : (rest : List Form) → Onward (with_declared s.constants) rest → Onward (with_sorts s.sorts) (map (const_form s.sorts) s.constants ++ rest)
  constants_go rest go = each_line (λ cs lines. Onward (with_declared cs) lines) s.constants (const_form s.sorts) constant_step [] s.constants refl rest go

  abbrev with_predicates : List Predicate → Declared
  with_predicates ps = record (with_declared s.constants) { predicates = map (predicate_line s.sorts) ps }

  predicate_step : (before later : List Predicate) (p : Predicate) (rest : List Form) → s.predicates ≡ before ++ p ∷ later → Onward (with_predicates (before ++ p ∷ [])) rest → Onward (with_predicates before) (pred_form s.sorts p ∷ rest)
  unfolding specification_line_has
  predicate_step before later p rest e go = λ operation bound a. (
    no_refusal (stand operation bound (with_predicates before) a) (pred_form s.sorts p) refl clean limit refl,
    subst (λ ps. Chain (stand false false (record (with_declared s.constants) { predicates = ps }) a) rest) (map-append (predicate_line s.sorts) before (p ∷ [])) (go false false a),
  )
    where
      at : slice_get s.predicates (length before) ≡ Some p
      at = at_part s.predicates before later p e

      sorts_clean : (flaw : Flaw) → list_any (sort_has flaw (with_predicates before)) (names_at s.sorts p.name (take p.arity p.sorts)) ≡ false
      sorts_clean flaw = any-map (sort_has flaw (with_predicates before)) (λ n. slice_index_or s.sorts n p.name) (take p.arity p.sorts)
          ∙ none_of (λ n. sort_has flaw (with_predicates before) (slice_index_or s.sorts n p.name)) (take p.arity p.sorts) (λ k n is.
          let taken = take_at p.arity p.sorts k n is in
          let number : slice_index p.sorts k ≡ n = get_or_from_slice_get p.sorts k n 0 taken.1 in
          sort_known flaw (with_predicates before) n p.name (subst (λ v. v < length s.sorts) number (fit.place_sort (length before) k p at taken.0)))

      clean : (flaw : Flaw) → specification_line_has flaw (with_predicates before) (pred_form s.sorts p) ≡ false
      clean flaw = or_from (declaration_has flaw (map (λ q. q.name) (map (predicate_line s.sorts) before)) p.name) (list_any (sort_has flaw (with_predicates before)) (names_at s.sorts p.name (take p.arity p.sorts)))
          (name_new flaw (λ q. q.name) (predicate_line s.sorts) s.predicates before later p e flaws.predicate_names) (sorts_clean flaw)

      places : length (names_at s.sorts p.name (take p.arity p.sorts)) ≡ p.arity
      places = length-map (take p.arity p.sorts) (λ k. slice_index_or s.sorts k p.name) ∙ length-take-le p.arity p.sorts (omega (arith, shaped.predicates (length before) p at, fit.arities (length before) p at))

      limit : limit_passed (with_predicates before) (pred_form s.sorts p) ≡ None
      limit = two_limits (count_above 2 32 (length (map (predicate_line s.sorts) before) + 1)) (count_above 3 3 (length (names_at s.sorts p.name (take p.arity p.sorts))))
          (count_inside 2 32 (length (map (predicate_line s.sorts) before) + 1) (count_before (predicate_line s.sorts) before later p s.predicates 32 e fit.predicate_count))
          (count_inside 3 3 (length (names_at s.sorts p.name (take p.arity p.sorts))) (omega (arith, places, fit.arities (length before) p at)))

  pub predicates_go : (rest : List Form) → Onward (full s [] [] []) rest → Onward (with_declared s.constants) (map (pred_form s.sorts) s.predicates ++ rest)
  predicates_go rest go = each_line (λ ps lines. Onward (with_predicates ps) lines) s.predicates (pred_form s.sorts) predicate_step [] s.predicates refl rest go

  abbrev with_clauses : List Clause → Declared
  with_clauses cs = full s (map (clause_line s) cs) [] []

  clause_step : (before later : List Clause) (c : Clause) (rest : List Form) → s.clauses ≡ before ++ c ∷ later → Onward (with_clauses (before ++ c ∷ [])) rest → Onward (with_clauses before) (clause_form s c ∷ rest)
  unfolding specification_line_has
  clause_step before later c rest e go = λ operation bound a. (
    no_refusal (stand operation bound (with_clauses before) a) (clause_form s c) refl clean limit refl,
    subst (λ cs. Chain (stand false false (full s cs [] []) a) rest) (map-append (clause_line s) before (c ∷ [])) (go false false a),
  )
    where
      n : ℕ
      n = length before

      at : slice_get s.clauses n ≡ Some c
      at = at_part s.clauses before later c e

      has : (k : FaultKind) → (numbered.variables_have k s c.vars ≡ false) × (list_any (numbered.literal_has k s (sorts_of_vars c.vars)) c.literals ≡ false)
      has k = or_parts (numbered.variables_have k s c.vars) (list_any (numbered.literal_has k s (sorts_of_vars c.vars)) c.literals) (flaws.clauses n c at k)

      vars_clean : (flaw : Flaw) → variables_have flaw (with_clauses before) (map (typed_form s.sorts) c.vars) ≡ false
      vars_clean flaw = variables_clean flaw (with_clauses before) c.vars (λ k v is. fit.variable_sort n k v.sort c at (slice_get-mapped (λ x. x.sort) c.vars k v is)) (has kind.Duplicate).0

      vars : List Typed
      vars = map (typed_form s.sorts) c.vars

      scope : List Typed
      scope = with_constants (with_clauses before) vars

      knows : Knows s.sorts scope (names_of c.vars) (sorts_of_vars c.vars)
      knows = knows_more s.sorts vars (map (constant_line s.sorts) s.constants) (names_of c.vars) (sorts_of_vars c.vars)
          (knows_vars s.sorts c.vars (λ j sort there. fit.variable_sort n j sort c at there) (has kind.Duplicate).0)

      knows_fixed : KnowsConstants s scope (names_of c.vars)
      knows_fixed = knows_constants s flaws.constant_names vars (names_of c.vars) (map-map (λ v. v.name) (typed_form s.sorts) c.vars)

      literals_clean : (flaw : Flaw) → list_any (literal_has flaw (with_clauses before) scope) (map (literal_form s c.name (names_of c.vars)) c.literals) ≡ false
      literals_clean flaw = any-map (literal_has flaw (with_clauses before) scope) (literal_form s c.name (names_of c.vars)) c.literals
          ∙ none_of (λ l. literal_has flaw (with_clauses before) scope (literal_form s c.name (names_of c.vars) l)) c.literals (λ k l is.
          literal_clean s fit flaws shaped (map (clause_line s) before) [] [] scope (names_of c.vars) (sorts_of_vars c.vars) c.name knows knows_fixed flaw l
          (fit.literals n k c l at is) (open_names.literals n k c l at is) (shaped.literals n k c l at is))

      clean : (flaw : Flaw) → specification_line_has flaw (with_clauses before) (clause_form s c) ≡ false
      clean flaw = or_from (declaration_has flaw (map (λ x. x.name) (map (clause_line s) before)) c.name || variables_have flaw (with_clauses before) (map (typed_form s.sorts) c.vars))
          (list_any (literal_has flaw (with_clauses before) (with_constants (with_clauses before) (map (typed_form s.sorts) c.vars))) (map (literal_form s c.name (names_of c.vars)) c.literals))
          (or_from (declaration_has flaw (map (λ x. x.name) (map (clause_line s) before)) c.name) (variables_have flaw (with_clauses before) (map (typed_form s.sorts) c.vars))
          (name_new flaw (λ x. x.name) (clause_line s) s.clauses before later c e flaws.clause_names) (vars_clean flaw))
          (literals_clean flaw)

      limit : limit_passed (with_clauses before) (clause_form s c) ≡ None
      limit = three_limits (count_above 4 32 (length (map (clause_line s) before) + 1)) (count_above 5 6 (length (map (literal_form s c.name (names_of c.vars)) c.literals))) (count_above 6 4 (length (map (typed_form s.sorts) c.vars)))
          (count_inside 4 32 (length (map (clause_line s) before) + 1) (count_before (clause_line s) before later c s.clauses 32 e fit.clause_count))
          (count_inside 5 6 (length (map (literal_form s c.name (names_of c.vars)) c.literals)) (omega (arith, length-map c.literals (literal_form s c.name (names_of c.vars)), fit.literal_count n c at)))
          (count_inside 6 4 (length (map (typed_form s.sorts) c.vars)) (omega (arith, length-map c.vars (typed_form s.sorts), fit.variable_count n c at)))

  pub clauses_go : (rest : List Form) → Onward (full s (map (clause_line s) s.clauses) [] []) rest → Onward (full s [] [] []) (map (clause_form s) s.clauses ++ rest)
  clauses_go rest go = each_line (λ cs lines. Onward (with_clauses cs) lines) s.clauses (clause_form s) clause_step [] s.clauses refl rest go
