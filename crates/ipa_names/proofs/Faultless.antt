-- What is sound by names is faultless by numbers.
--
--   specification_faultless   the specification that is declared has no fault
use Rattle.std.proofs.Common.{◌≡◌, ℕ, ◌≤◌, Bool, true, false, cond, not, ◌&&◌, ◌||◌, ◌==◌, ltb, leb, List, [], ◌∷◌, length, map, take, drop, Option, Some, None, refl, sym, ap, subst, ◌∙◌, suc, arith}
use Rattle.std.specs.List.{range_with_len, slice_get, slice_index_or, list_any, find}
use Rattle.std.specs.Option.{option_map, option_map_or}
use Rattle.std.proofs.lemmas.Bool.{or_parts, or_from, and_from, le-leb, not_from_true, not-false, lt-leb, le-ltb}
use Rattle.std.proofs.lemmas.List.{length-map}
use Rattle.ipa_spec.specs.FoundLaws.{list_any-false, none_of, map_at}
use Rattle.ipa_spec.specs.Actions.{sorts_of_vars, place_sorts}
use Rattle.ipa_spec.specs.Limits.{above, constant_counts, first_there, limits_passed, first_limit, fault_of}
use Rattle.ipa_spec.specs.Constants.{constant_count}
use Rattle.ipa_spec.specs.Faults as numbered
use Rattle.ipa_spec.specs.Faults.{same_name, has_repeat, specification_has}
use Rattle.ipa_spec.specs.declared.faults.FaultKind.{FaultKind}
use Rattle.ipa_spec.specs.declared.faults.FaultKind.TheVariants as kind
use Rattle.ipa_spec.specs.declared.faults.SpecFault.TheVariants as fault
use Rattle.ipa_spec.specs.declared.names.Name.{Name}
use Rattle.ipa_spec.specs.declared.predicates.Predicate.{Predicate}
use Rattle.ipa_names.specs.Naming.{is_among, number_or_count}
use Rattle.ipa_names.specs.Scopes.{predicate_named, places_of, with_constants, typed_by_places, bound_variables}
use Rattle.ipa_names.specs.Flaws.{use_has, sort_has, list_has, variables_have, literal_has, effect_has, arity_named, counted_has}
use Rattle.ipa_names.specs.Meaning.{three, predicate_number, sort_number, predicate_of, constant_of, var_of, literal_of, clause_of, effect_of, operation_of, three_names, bound_of, specification_of}
use Rattle.ipa_names.specs.Soundness.{IsSound, IsSoundConstant, IsSoundPredicate, IsSoundClause, IsSoundOperation, IsSoundBound}
use Rattle.ipa_names.specs.declared.flaws.Flaw.{Flaw}
use Rattle.ipa_names.specs.declared.flaws.Flaw.TheVariants.{Arity, UnknownName, Duplicate, FreeVariable}
use Rattle.ipa_forms.specs.declared.forms.Typed.{Typed}
use Rattle.ipa_forms.specs.declared.forms.LiteralForm.{LiteralForm}
use Rattle.ipa_names.specs.declared.declared.PredicateLine.{PredicateLine}
use Rattle.ipa_names.specs.declared.declared.ClauseLine.{ClauseLine}
use Rattle.ipa_names.specs.declared.declared.EffectLine.{EffectLine}
use Rattle.ipa_names.specs.declared.declared.OperationLines.{OperationLines}
use Rattle.ipa_names.specs.declared.declared.BoundLines.{BoundLines}
use Rattle.ipa_names.specs.declared.declared.Declared.{Declared}
use Rattle.ipa_names.specs.CountLaws.{there_none, no_fault}
use Rattle.ipa_names.specs.ConstantLaws.{numbered_few}
use Rattle.ipa_names.specs.FilterLaws.{length-filter_mapped}
use Rattle.ipa_names.specs.GrowthLaws.{known_use}
use Rattle.ipa_names.specs.ListLaws.{any_weaken, any-map}
use Rattle.ipa_names.specs.SoundLaws.{as_many, bound_uses}
use Rattle.ipa_spec.specs.NameLaws.{same_name-refl}
use Rattle.ipa_names.specs.NumberLaws.{at_number, number_below, slice_get-mapped, repeat-map}
use Rattle.ipa_names.proofs.PartsFaultless.{IsNumbered, scope_numbered, literal_faultless, effect_faultless}

-- what holds of each mapped item
mapped_each : {X Y : Type 0} (f : X → Y) (xs : List X) (Q : Y → Type 0) → ((n : ℕ) (x : X) → slice_get xs n ≡ Some x → Q (f x)) → (n : ℕ) (y : Y) → slice_get (map f xs) n ≡ Some y → Q y
mapped_each f xs Q h n y e = let m = map_at f xs n y e in subst Q m.2 (h n m.0 m.1)

module _ (d : Declared) (h : IsSound d) where
  sort_below : (sort : Name) → sort_has UnknownName d sort ≡ false → leb (length d.sorts) (sort_number d sort) ≡ false
  sort_below sort e = lt-leb (length d.sorts) (sort_number d sort) (number_below d.sorts sort (not-false (is_among d.sorts sort) e))

  constant_faultless : (c : Typed) → IsSoundConstant d c → (k : FaultKind) → numbered.constant_has k (specification_of d) (constant_of d c) ≡ false
  constant_faultless c s kind.UnknownName = sort_below c.sort (s.flawless UnknownName)
  constant_faultless c s kind.Arity = refl
  constant_faultless c s kind.SortMismatch = refl
  constant_faultless c s kind.Duplicate = refl
  constant_faultless c s kind.WildAdd = refl
  constant_faultless c s kind.FreeVariable = refl

  variables_faultless : (vars : List Typed) → ((flaw : Flaw) → variables_have flaw d vars ≡ false) → (k : FaultKind) → numbered.variables_have k (specification_of d) (map (var_of d) vars) ≡ false
  variables_faultless vars flawless kind.UnknownName =
      let sorts = or_parts (list_any (λ v. sort_has UnknownName d v.sort) vars) (list_has UnknownName (map (λ v. v.name) vars)) (flawless UnknownName) in
      any-map (λ v. leb (length d.sorts) v.sort) (var_of d) vars ∙ any_weaken (λ v. sort_has UnknownName d v.sort) (λ v. leb (length d.sorts) (sort_number d v.sort)) vars sorts.0 (λ v e. sort_below v.sort e)
  variables_faultless vars flawless kind.Duplicate =
      let names = or_parts (list_any (λ v. sort_has Duplicate d v.sort) vars) (list_has Duplicate (map (λ v. v.name) vars)) (flawless Duplicate) in
      repeat-map (λ v. v.name) (var_of d) vars ∙ sym (repeat-map (λ name. name) (λ v. v.name) vars) ∙ names.1
  variables_faultless vars flawless kind.Arity = refl
  variables_faultless vars flawless kind.SortMismatch = refl
  variables_faultless vars flawless kind.WildAdd = refl
  variables_faultless vars flawless kind.FreeVariable = refl

  literals_faultless : (scope : List Typed) (ls : List LiteralForm) → ((flaw : Flaw) → list_any (literal_has flaw d (with_constants d scope)) ls ≡ false) → (k : FaultKind) → list_any (numbered.literal_has k (specification_of d) (sorts_of_vars (map (var_of d) scope))) (map (literal_of d scope) ls) ≡ false
  literals_faultless scope ls flawless k =
      any-map (numbered.literal_has k (specification_of d) (sorts_of_vars (map (var_of d) scope))) (literal_of d scope) ls
      ∙ none_of (λ l. numbered.literal_has k (specification_of d) (sorts_of_vars (map (var_of d) scope)) (literal_of d scope l)) ls
      (λ n l at. literal_faultless d h scope (sorts_of_vars (map (var_of d) scope)) (scope_numbered d scope) l (λ flaw. list_any-false (literal_has flaw d (with_constants d scope)) ls (flawless flaw) n l at) k)

  effects_faultless : (scope : List Typed) (sorts : List ℕ) → IsNumbered d scope sorts → (es : List EffectLine) → ((flaw : Flaw) → list_any (effect_has flaw d (with_constants d scope)) es ≡ false) → (k : FaultKind) → list_any (numbered.effect_has k (specification_of d) sorts) (map (effect_of d scope) es) ≡ false
  effects_faultless scope sorts at es flawless k =
      any-map (numbered.effect_has k (specification_of d) sorts) (effect_of d scope) es
      ∙ none_of (λ a. numbered.effect_has k (specification_of d) sorts (effect_of d scope a)) es
      (λ n a e. effect_faultless d h scope sorts at a (λ flaw. list_any-false (effect_has flaw d (with_constants d scope)) es (flawless flaw) n a e) k)

  clause_faultless : (c : ClauseLine) → IsSoundClause d c → (k : FaultKind) → numbered.clause_has k (specification_of d) (clause_of d c) ≡ false
  clause_faultless c s k = or_from _ _ (variables_faultless c.vars s.variables k) (literals_faultless c.vars c.literals s.literals k)

  operation_faultless : (o : OperationLines) → IsSoundOperation d o → (k : FaultKind) → numbered.operation_has k (specification_of d) (operation_of d o) ≡ false
  operation_faultless o s k =
      or_from _ _ (or_from _ _ (variables_faultless o.params s.parameters k) (literals_faultless o.params o.needs s.needs k))
      (effects_faultless o.params (sorts_of_vars (map (var_of d) o.params)) (scope_numbered d o.params) o.effects s.effects k)

  -- the sorts of a predicate's places, and zeros behind them
  zeros_behind : (ns : List ℕ) → length ns ≤ 3 → list_any (λ sort. not (sort == 0)) (drop (length ns) (three ns)) ≡ false
  zeros_behind [] l = refl
  zeros_behind (a ∷ []) l = refl
  zeros_behind (a ∷ b ∷ []) l = refl
  zeros_behind (a ∷ b ∷ c ∷ []) l = refl
  zeros_behind (a ∷ b ∷ c ∷ e ∷ ns) l = absurd (omega arith)

  sorts_below : (ss : List Name) → length ss ≤ 3 → ((n : ℕ) (s : Name) → slice_get ss n ≡ Some s → leb (length d.sorts) (sort_number d s) ≡ false) →
      numbered.some_place (λ place. ltb place (length ss) && option_map_or (λ sort. leb (length d.sorts) sort) (slice_get (three (map (sort_number d) ss)) place) true) ≡ false
  sorts_below [] l put = refl
  sorts_below (a ∷ []) l put = or_from _ _ (or_from _ _ (put 0 a refl) refl) refl
  sorts_below (a ∷ b ∷ []) l put = or_from _ _ (or_from _ _ (put 0 a refl) (put 1 b refl)) refl
  sorts_below (a ∷ b ∷ c ∷ []) l put = or_from _ _ (or_from _ _ (put 0 a refl) (put 1 b refl)) (put 2 c refl)
  sorts_below (a ∷ b ∷ c ∷ e ∷ ss) l put = absurd (omega arith)

  predicate_faultless : (p : PredicateLine) → IsSoundPredicate d p → (k : FaultKind) → numbered.predicate_has k (specification_of d) (predicate_of d p) ≡ false
  predicate_faultless p s kind.Arity =
      subst (λ n. list_any (λ sort. not (sort == 0)) (drop n (three (map (sort_number d) p.sorts))) ≡ false) (length-map p.sorts (sort_number d))
      (zeros_behind (map (sort_number d) p.sorts) (omega (arith, length-map p.sorts (sort_number d), s.places)))
  predicate_faultless p s kind.UnknownName = sorts_below p.sorts s.places (λ n sort e. sort_below sort (list_any-false (sort_has UnknownName d) p.sorts (s.flawless UnknownName) n sort e))
  predicate_faultless p s kind.SortMismatch = refl
  predicate_faultless p s kind.Duplicate = refl
  predicate_faultless p s kind.WildAdd = refl
  predicate_faultless p s kind.FreeVariable = refl

  -- the names of a bound's variables, and the first one behind them
  first_behind : (own : Name) (vs : List Name) → length vs ≤ 3 → list_any (λ name. not (same_name (slice_index_or (three_names own vs) 0 name) name)) (drop (length vs) (three_names own vs)) ≡ false
  first_behind own [] l = let same = not_from_true (same_name own own) (same_name-refl own) in or_from _ _ same (or_from _ _ same (or_from _ _ same refl))
  first_behind own (a ∷ []) l = let same = not_from_true (same_name a a) (same_name-refl a) in or_from _ _ same (or_from _ _ same refl)
  first_behind own (a ∷ b ∷ []) l = or_from _ _ (not_from_true (same_name a a) (same_name-refl a)) refl
  first_behind own (a ∷ b ∷ c ∷ []) l = refl
  first_behind own (a ∷ b ∷ c ∷ e ∷ vs) l = absurd (omega arith)

  front_names : (own : Name) (vs : List Name) → length vs ≤ 3 → take (length vs) (three_names own vs) ≡ vs
  front_names own [] l = refl
  front_names own (a ∷ []) l = refl
  front_names own (a ∷ b ∷ []) l = refl
  front_names own (a ∷ b ∷ c ∷ []) l = refl
  front_names own (a ∷ b ∷ c ∷ e ∷ vs) l = absurd (omega arith)

  front_numbers : (ns : List ℕ) → length ns ≤ 3 → take (length ns) (three ns) ≡ ns
  front_numbers [] l = refl
  front_numbers (a ∷ []) l = refl
  front_numbers (a ∷ b ∷ []) l = refl
  front_numbers (a ∷ b ∷ c ∷ []) l = refl
  front_numbers (a ∷ b ∷ c ∷ e ∷ ns) l = absurd (omega arith)

  typed_sorts : (vs ss : List Name) → length ss ≡ length vs → sorts_of_vars (map (var_of d) (typed_by_places vs ss)) ≡ map (sort_number d) ss
  typed_sorts [] [] e = refl
  typed_sorts [] (s ∷ ss) e = absurd (omega arith)
  typed_sorts (v ∷ vs) [] e = absurd (omega arith)
  typed_sorts (v ∷ vs) (s ∷ ss) e = ap (λ rest. sort_number d s ∷ rest) (typed_sorts vs ss (omega arith))

  places_of_bound : (b : BoundLines) (arity : ℕ) (p : PredicateLine) → IsSoundBound d b → arity ≡ length b.vars → (k : FaultKind) → numbered.bound_places_have k (bound_of d b) (record { name = p.name; arity = arity; sorts = three (map (sort_number d) p.sorts); rule = p.rule }) ≡ false
  places_of_bound b arity p s same kind.Arity = subst (λ n. list_any (λ name. not (same_name (slice_index_or (three_names b.name b.vars) 0 name) name)) (drop n (three_names b.name b.vars)) ≡ false) (sym same) (first_behind b.name b.vars s.variable_count)
  places_of_bound b arity p s same kind.Duplicate =
      let repeats = or_parts (use_has Duplicate (arity_named d b.predicate) (length b.vars)) (list_has Duplicate b.vars)
      (or_parts (use_has Duplicate (arity_named d b.predicate) (length b.vars) || list_has Duplicate b.vars) (counted_has Duplicate b.vars b.counted) (s.flawless Duplicate)).0 in
      ap (has_repeat (λ name. name)) (ap (λ n. take n (three_names b.name b.vars)) same ∙ front_names b.name b.vars s.variable_count) ∙ repeats.1
  places_of_bound b arity p s same kind.FreeVariable =
      let counted = or_parts (use_has FreeVariable (arity_named d b.predicate) (length b.vars) || list_has FreeVariable b.vars) (counted_has FreeVariable b.vars b.counted) (s.flawless FreeVariable) in
      let below = number_below b.vars b.counted (not-false (is_among b.vars b.counted) counted.1) in
      lt-leb arity (number_or_count b.vars b.counted) (omega (arith, below, same))
  places_of_bound b arity p s same kind.SortMismatch = refl
  places_of_bound b arity p s same kind.UnknownName = refl
  places_of_bound b arity p s same kind.WildAdd = refl

  adds_of_bound : (b : BoundLines) → IsSoundBound d b → (k : FaultKind) → numbered.bound_adds k (bound_of d b) ≡ false
  adds_of_bound b s kind.WildAdd = any-map (λ e. e.add) (effect_of d (bound_variables d b)) b.removes ∙ s.removing
  adds_of_bound b s kind.Arity = refl
  adds_of_bound b s kind.SortMismatch = refl
  adds_of_bound b s kind.UnknownName = refl
  adds_of_bound b s kind.Duplicate = refl
  adds_of_bound b s kind.FreeVariable = refl

  bound_faultless : (b : BoundLines) → IsSoundBound d b → (k : FaultKind) → numbered.bound_has k (specification_of d) (bound_of d b) ≡ false
  bound_faultless b s k =
      let known = known_use (predicate_named d b.predicate) (length b.vars) (bound_uses d b.predicate b.vars b.counted UnknownName (s.flawless UnknownName)) in
      let p = known.0 in
      let many : length p.sorts ≡ length b.vars = as_many (predicate_named d b.predicate) p (length b.vars) known.1 (bound_uses d b.predicate b.vars b.counted Arity (s.flawless Arity)) in
      let short : length (map (sort_number d) p.sorts) ≤ 3 = omega (arith, length-map p.sorts (sort_number d), many, s.variable_count) in
      let places : places_of d b.predicate ≡ p.sorts = ap (λ found. option_map_or (λ q. q.sorts) found []) known.1 in
      let here = slice_get-mapped (predicate_of d) d.predicates (predicate_number d b.predicate) p (at_number (λ q. q.name) d.predicates b.predicate p known.1) in
      let front : place_sorts (map (predicate_of d) d.predicates) (predicate_number d b.predicate) ≡ map (sort_number d) p.sorts =
      ap (λ found. option_map_or (λ q. take q.arity q.sorts) found []) here ∙ ap (λ n. take n (three (map (sort_number d) p.sorts))) (sym (length-map p.sorts (sort_number d))) ∙ front_numbers (map (sort_number d) p.sorts) short in
      let scope : sorts_of_vars (map (var_of d) (bound_variables d b)) ≡ map (sort_number d) p.sorts =
      ap (λ ss. sorts_of_vars (map (var_of d) (typed_by_places b.vars ss))) places ∙ typed_sorts b.vars p.sorts many in
      let at : IsNumbered d (bound_variables d b) (place_sorts (map (predicate_of d) d.predicates) (predicate_number d b.predicate)) =
      subst (IsNumbered d (bound_variables d b)) (scope ∙ sym front) (scope_numbered d (bound_variables d b)) in
      let Q : Option Predicate → Type 0 = λ found. option_map_or (numbered.bound_places_have k (bound_of d b)) found (numbered.undeclared_has k) ≡ false in
      or_from _ _ (or_from _ _ (subst Q (sym here) (places_of_bound b (length p.sorts) p s many k)) (adds_of_bound b s k))
      (effects_faultless (bound_variables d b) (place_sorts (map (predicate_of d) d.predicates) (predicate_number d b.predicate)) at b.removes s.removes k)

  names_faultless : (k : FaultKind) → numbered.names_have k (specification_of d) ≡ false
  names_faultless kind.Duplicate =
      or_from _ _ (or_from _ _ (or_from _ _ (or_from _ _ (or_from _ _ h.sorts.apart (repeat-map (λ c. c.name) (constant_of d) d.constants ∙ h.constants.apart))
      (repeat-map (λ p. p.name) (predicate_of d) d.predicates ∙ h.predicates.apart))
      (repeat-map (λ c. c.name) (clause_of d) d.clauses ∙ h.clauses.apart))
      (repeat-map (λ o. o.name) (operation_of d) d.operations ∙ h.operations.apart))
      (repeat-map (λ b. b.name) (bound_of d) d.bounds ∙ h.bounds.apart)
  names_faultless kind.Arity = refl
  names_faultless kind.SortMismatch = refl
  names_faultless kind.UnknownName = refl
  names_faultless kind.WildAdd = refl
  names_faultless kind.FreeVariable = refl

  kinds_faultless : (k : FaultKind) → specification_has k (specification_of d) ≡ false
  unfolding specification_has
  kinds_faultless k =
      or_from _ _ (or_from _ _ (or_from _ _ (or_from _ _ (or_from _ _ (names_faultless k) (any-map (numbered.constant_has k (specification_of d)) (constant_of d) d.constants ∙ none_of (λ c. numbered.constant_has k (specification_of d) (constant_of d c)) d.constants (λ n c e. constant_faultless c (h.constants.each.at n c e) k)))
      (any-map (numbered.predicate_has k (specification_of d)) (predicate_of d) d.predicates ∙ none_of (λ p. numbered.predicate_has k (specification_of d) (predicate_of d p)) d.predicates (λ n p e. predicate_faultless p (h.predicates.each.at n p e) k)))
      (any-map (numbered.clause_has k (specification_of d)) (clause_of d) d.clauses ∙ none_of (λ c. numbered.clause_has k (specification_of d) (clause_of d c)) d.clauses (λ n c e. clause_faultless c (h.clauses.each.at n c e) k)))
      (any-map (numbered.operation_has k (specification_of d)) (operation_of d) d.operations ∙ none_of (λ o. numbered.operation_has k (specification_of d) (operation_of d o)) d.operations (λ n o e. operation_faultless o (h.operations.each.at n o e) k)))
      (any-map (numbered.bound_has k (specification_of d)) (bound_of d) d.bounds ∙ none_of (λ b. numbered.bound_has k (specification_of d) (bound_of d b)) d.bounds (λ n b e. bound_faultless b (h.bounds.each.at n b e) k))

none_step : {X : Type 0} (b : Bool) (x : X) (rest : Option X) → b ≡ false → rest ≡ None → cond b (Some x) rest ≡ None
none_step true x rest e later = cc
none_step false x rest e later = later

none_mapped : {X : Type 0} (test : ℕ → Bool) (of : X → ℕ) (xs : List X) → ((n : ℕ) (x : X) → slice_get xs n ≡ Some x → test (of x) ≡ false) → find test (map of xs) ≡ None
none_mapped test of [] h = refl
none_mapped test of (x ∷ xs) h = none_step (test (of x)) (of x) (find test (map of xs)) (h 0 x refl) (none_mapped test of xs (λ n y e. h (suc n) y e))

above_one : (which most count : ℕ) → count ≤ most → above which most (count ∷ []) ≡ None
above_one which most count l = ap (option_map (λ found. fault.Limit which found)) (none_step (ltb most count) count None (le-ltb most count l) refl)

above_each : {X : Type 0} (which most : ℕ) (of : X → ℕ) (xs : List X) → ((n : ℕ) (x : X) → slice_get xs n ≡ Some x → of x ≤ most) → above which most (map of xs) ≡ None
above_each which most of xs h = ap (option_map (λ found. fault.Limit which found)) (none_mapped (λ count. ltb most count) of xs (λ n x e. le-ltb most (of x) (h n x e)))

-- no sort has more constants than allowed
constants_faultless : (d : Declared) → IsSound d → above 19 4 (constant_counts (specification_of d)) ≡ None
constants_faultless d h =
    above_each 19 4 (constant_count (specification_of d)) (range_with_len 0 (length d.sorts))
    (λ n k e.
    let few = numbered_few d (λ m c at. not-false (is_among d.sorts c.sort) ((h.constants.each.at m c at).flawless UnknownName)) h.constant_most k in
    omega (arith, length-filter_mapped (λ c. c.sort == k) (constant_of d) d.constants, few))

limits_faultless : (d : Declared) → IsSound d → first_there (limits_passed (specification_of d)) ≡ None
limits_faultless d h =
    there_none _ _ (above_one 1 8 (length d.sorts) h.sorts.count) (
    there_none _ _ (above_one 2 32 (length (map (predicate_of d) d.predicates)) (omega (arith, length-map d.predicates (predicate_of d), h.predicates.count))) (
    there_none _ _ (above_each 3 3 (λ p. p.arity) (map (predicate_of d) d.predicates) (mapped_each (predicate_of d) d.predicates (λ p. p.arity ≤ 3) (λ n p e. (h.predicates.each.at n p e).places))) (
    there_none _ _ (above_one 4 32 (length (map (clause_of d) d.clauses)) (omega (arith, length-map d.clauses (clause_of d), h.clauses.count))) (
    there_none _ _ (above_each 5 6 (λ c. length c.literals) (map (clause_of d) d.clauses) (mapped_each (clause_of d) d.clauses (λ c. length c.literals ≤ 6) (λ n c e. omega (arith, length-map c.literals (literal_of d c.vars), (h.clauses.each.at n c e).literal_count)))) (
    there_none _ _ (above_each 6 4 (λ c. length c.vars) (map (clause_of d) d.clauses) (mapped_each (clause_of d) d.clauses (λ c. length c.vars ≤ 4) (λ n c e. omega (arith, length-map c.vars (var_of d), (h.clauses.each.at n c e).variable_count)))) (
    there_none _ _ (above_one 7 32 (length (map (operation_of d) d.operations)) (omega (arith, length-map d.operations (operation_of d), h.operations.count))) (
    there_none _ _ (above_each 8 4 (λ o. length o.params) (map (operation_of d) d.operations) (mapped_each (operation_of d) d.operations (λ o. length o.params ≤ 4) (λ n o e. omega (arith, length-map o.params (var_of d), (h.operations.each.at n o e).parameter_count)))) (
    there_none _ _ (above_each 9 12 (λ o. length o.effects) (map (operation_of d) d.operations) (mapped_each (operation_of d) d.operations (λ o. length o.effects ≤ 12) (λ n o e. omega (arith, length-map o.effects (effect_of d o.params), (h.operations.each.at n o e).effect_count)))) (
    there_none _ _ (above_each 10 6 (λ o. length o.needs) (map (operation_of d) d.operations) (mapped_each (operation_of d) d.operations (λ o. length o.needs ≤ 6) (λ n o e. omega (arith, length-map o.needs (literal_of d o.params), (h.operations.each.at n o e).need_count)))) (
    there_none _ _ (above_one 11 8 (length (map (bound_of d) d.bounds)) (omega (arith, length-map d.bounds (bound_of d), h.bounds.count))) (
    there_none _ _ (ap (option_map (λ found. fault.Limit 12 found)) (none_mapped (λ size. not (leb 1 size && leb size 65535)) (λ b. b.most) (map (bound_of d) d.bounds) (mapped_each (bound_of d) d.bounds (λ b. not (leb 1 b.most && leb b.most 65535) ≡ false)
    (λ n b e. not_from_true (leb 1 b.most && leb b.most 65535) (and_from (leb 1 b.most) (leb b.most 65535) (le-leb 1 b.most (h.bounds.each.at n b e).some_size) (le-leb b.most 65535 (h.bounds.each.at n b e).size)))))) (
    there_none _ _ (above_each 13 4 (λ b. length b.removes) (map (bound_of d) d.bounds) (mapped_each (bound_of d) d.bounds (λ b. length b.removes ≤ 4) (λ n b e. omega (arith, length-map b.removes (effect_of d (bound_variables d b)), (h.bounds.each.at n b e).remove_count)))) (
    there_none _ _ (constants_faultless d h) refl)))))))))))))

pub specification_faultless : (d : Declared) → IsSound d → fault_of (specification_of d) ≡ None
unfolding fault_of first_limit
specification_faultless d h =
    there_none _ _ (no_fault _ fault.Arity (kinds_faultless d h kind.Arity)) (
    there_none _ _ (no_fault _ fault.SortMismatch (kinds_faultless d h kind.SortMismatch)) (
    there_none _ _ (no_fault _ fault.UnknownName (kinds_faultless d h kind.UnknownName)) (
    there_none _ _ (no_fault _ fault.Duplicate (kinds_faultless d h kind.Duplicate)) (
    there_none _ _ (no_fault _ fault.WildAdd (kinds_faultless d h kind.WildAdd)) (
    there_none _ _ (no_fault _ fault.FreeVariable (kinds_faultless d h kind.FreeVariable)) (
    there_none _ _ (limits_faultless d h) refl))))))
