-- A faultless specification is fit.
--
--   none_there             where the first of a list is not there, none is
--   fault_if-None          a fault that is not there
--   kinds_of-faultless     no kind of fault stands in a faultless specification
--   limits_of-faultless    no limit is passed in it
--   NotFound, not_found    what is not found is not at the head, nor in the rest
--   above-map              no count is above the greatest allowed
--   SpecificationParts s   no part has a fault of any kind, and no two parts of a kind have one name
--   parts_of-faultless     so it is in a faultless specification
--   IsFit-from_faultless   it is fit
use Rattle.std.proofs.Common.{◌≡◌, ℕ, ◌+◌, ◌<◌, ◌≤◌, Bool, true, false, ◌||◌, cond, eqb, leb, List, [], ◌∷◌, length, map, take, Option, Some, None, refl, sym, ap, ◌∙◌, subst, arith, zero, suc, inl, inr}
use Rattle.std.specs.List.{list_any, range_with_len, slice_get, slice_index}
use Rattle.std.specs.Option.{option_map, option_map_or}
use Rattle.std.proofs.lemmas.Bool.{or_parts, cases_lt, ltb-false, leb-false, ne_eqb}
use Rattle.std.proofs.lemmas.Option.{slice_get-map, same_Some, get_or_from_slice_get, slice_get_within}
use Rattle.std.proofs.lemmas.List.{length-map, length-take}
use Rattle.ipa_spec.specs.Actions.{effects_of, needs_of, sorts_of, sorts_of_vars, place_sorts, drop_effect}
use Rattle.ipa_spec.specs.Faults.{has_repeat, specification_has, names_have, constant_has, predicate_has, clause_has, operation_has, bound_has, variables_have, literal_has, effect_has, bound_places_have, bound_adds, undeclared_has}
use Rattle.ipa_spec.specs.Limits.{fault_of, first_limit, first_there, fault_if, above, faults_found, limits_passed, IsFaultless}
use Rattle.ipa_spec.specs.Constants.{constants_of, constant_count}
use Rattle.ipa_spec.specs.Fits.{LiteralFits, EffectFits, IsFit}
use Rattle.ipa_spec.specs.declared.faults.FaultKind.{FaultKind}
use Rattle.ipa_spec.specs.declared.faults.FaultKind.TheVariants as kind
use Rattle.ipa_spec.specs.FoundLaws.{list_any-false, declared, said_of, map_at, take_at, found_or}
use Rattle.ipa_spec.specs.PartsFit.{AritiesFit, literal_fits, effect_fits, drop_effect_fits, place_sort_declared}
use Rattle.ipa_spec.specs.declared.faults.SpecFault.{SpecFault}
use Rattle.ipa_spec.specs.declared.faults.SpecFault.TheVariants as fault
use Rattle.ipa_spec.specs.declared.specification.Specification.{Specification}
use Rattle.ipa_spec.specs.declared.constants.Constant.{Constant}
use Rattle.ipa_spec.specs.declared.predicates.Predicate.{Predicate}
use Rattle.ipa_spec.specs.declared.predicates.Var.{Var}
use Rattle.ipa_spec.specs.declared.clauses.Clause.{Clause}
use Rattle.ipa_spec.specs.declared.clauses.Literal.{Literal}
use Rattle.ipa_spec.specs.declared.operations.Effect.{Effect}
use Rattle.ipa_spec.specs.declared.operations.Operation.{Operation}
use Rattle.ipa_spec.specs.declared.operations.Action.{Action}
use Rattle.ipa_spec.specs.declared.operations.Action.TheVariants.{Op, Drop}
use Rattle.ipa_spec.specs.declared.bounds.Bound.{Bound}

-- where the first of a list is not there, none of them is
pub none_there : (options : List (Option SpecFault)) → first_there options ≡ None →
    (n : ℕ) (o : Option SpecFault) → slice_get options n ≡ Some o → o ≡ None
none_there [] h n o e = cc
none_there (None ∷ rest) h zero o e = sym (same_Some _ _ e)
none_there (None ∷ rest) h (suc n) o e = none_there rest h n o e
none_there (Some found ∷ rest) h n o e = cc

pub fault_if-None : (found : Bool) (named : SpecFault) → fault_if found named ≡ None → found ≡ false
fault_if-None false named h = refl
fault_if-None true named h = cc

-- no kind of fault stands in a faultless specification
pub kinds_of-faultless : (s : Specification) → IsFaultless s → (k : FaultKind) →
    specification_has k s ≡ false
unfolding fault_of
kinds_of-faultless s h kind.Arity =
    fault_if-None _ fault.Arity (none_there (faults_found s) h.none 0 _ refl)
kinds_of-faultless s h kind.SortMismatch =
    fault_if-None _ fault.SortMismatch (none_there (faults_found s) h.none 1 _ refl)
kinds_of-faultless s h kind.UnknownName =
    fault_if-None _ fault.UnknownName (none_there (faults_found s) h.none 2 _ refl)
kinds_of-faultless s h kind.Duplicate =
    fault_if-None _ fault.Duplicate (none_there (faults_found s) h.none 3 _ refl)
kinds_of-faultless s h kind.WildAdd =
    fault_if-None _ fault.WildAdd (none_there (faults_found s) h.none 4 _ refl)
kinds_of-faultless s h kind.FreeVariable =
    fault_if-None _ fault.FreeVariable (none_there (faults_found s) h.none 5 _ refl)

-- no limit is passed in a faultless specification
pub limits_of-faultless : (s : Specification) → IsFaultless s → (n : ℕ) (o : Option SpecFault) →
    slice_get (limits_passed s) n ≡ Some o → o ≡ None
unfolding fault_of first_limit
limits_of-faultless s h n o e =
    none_there (limits_passed s) (none_there (faults_found s) h.none 6 _ refl) n o e

-- what is not found is not at the head, nor in the rest
pub record NotFound {X Y : Type 0} (here : Bool) (of : X → Y) (others : Option X) : Type 0 where
  pub head : here ≡ false
  pub rest : option_map of others ≡ None

pub not_found : {X Y : Type 0} (here : Bool) (of : X → Y) (x : X) (others : Option X) →
    option_map of (cond here (Some x) others) ≡ None → NotFound here of others
not_found true of x others h = cc
not_found false of x others h = record { head = refl; rest = h }

-- no count is above the greatest allowed
above-None : (which most : ℕ) (counts : List ℕ) → above which most counts ≡ None → (n count : ℕ) →
    slice_get counts n ≡ Some count → count ≤ most
above-None which most [] h n count e = cc
above-None which most (c ∷ cs) h zero count e =
    let same : c ≡ count = same_Some _ _ e in
    let head = not_found _ _ c _ h in
    subst (λ k. k ≤ most) same (ltb-false most c head.head)
above-None which most (c ∷ cs) h (suc n) count e =
    let head = not_found _ _ c _ h in
    above-None which most cs head.rest n count e

-- the same of what is counted of each item
pub above-map : {X : Type 0} (which most : ℕ) (of : X → ℕ) (xs : List X) →
    above which most (map of xs) ≡ None → (n : ℕ) (x : X) → slice_get xs n ≡ Some x → of x ≤ most
above-map which most of xs h n x e =
    above-None which most (map of xs) h n (of x) (slice_get-map of xs n ∙ ap (option_map of) e)

-- the sorts of variables without a fault are declared
sorts_declared : (s : Specification) (vars : List Var) →
    ((k : FaultKind) → variables_have k s vars ≡ false) → (k sort : ℕ) →
    slice_get (sorts_of_vars vars) k ≡ Some sort → sort < length s.sorts
sorts_declared s vars h k sort e =
    let v = map_at (λ v. v.sort) vars k sort e in
    let below =
    leb-false _ _
    (list_any-false (λ v. leb (length s.sorts) v.sort) vars (h kind.UnknownName) k v.0 v.1) in
    subst (λ n. n < length s.sorts) v.2 below

-- the parts of an operation have no fault where the operation has none
record OperationParts (s : Specification) (o : Operation) : Type 0 where
  params : (k : FaultKind) → variables_have k s o.params ≡ false
  needs : (k : FaultKind) →
      list_any (literal_has k s (sorts_of_vars o.params)) o.needs ≡ false
  effects : (k : FaultKind) →
      list_any (effect_has k s (sorts_of_vars o.params)) o.effects ≡ false

operation_parts : (s : Specification) (o : Operation) →
    ((k : FaultKind) → operation_has k s o ≡ false) → OperationParts s o
operation_parts s o h = record {
  params =
      λ k. (or_parts _ (list_any (literal_has k s (sorts_of_vars o.params)) o.needs)
      (or_parts _ (list_any (effect_has k s (sorts_of_vars o.params)) o.effects)
      (h k)).0).0;
  needs = λ k.
      (or_parts _ (list_any (literal_has k s (sorts_of_vars o.params)) o.needs)
      (or_parts _ (list_any (effect_has k s (sorts_of_vars o.params)) o.effects)
      (h k)).0).1;
  effects =
      λ k. (or_parts _ (list_any (effect_has k s (sorts_of_vars o.params)) o.effects)
      (h k)).1;
}

-- the parts of a bound have no fault where the bound has none
record BoundParts (s : Specification) (b : Bound) : Type 0 where
  places : (k : FaultKind) →
      option_map_or (bound_places_have k b) (slice_get s.predicates b.predicate)
      (undeclared_has k) ≡ false
  adds : (k : FaultKind) → bound_adds k b ≡ false
  removes : (k : FaultKind) →
      list_any (effect_has k s (place_sorts s.predicates b.predicate)) b.removes ≡ false

bound_parts : (s : Specification) (b : Bound) → ((k : FaultKind) → bound_has k s b ≡ false) →
    BoundParts s b
bound_parts s b h = record {
  places =
      λ k. (or_parts _ (bound_adds k b)
      (or_parts _
      (list_any (effect_has k s (place_sorts s.predicates b.predicate)) b.removes)
      (h k)).0).0;
  adds = λ k.
      (or_parts _ (bound_adds k b)
      (or_parts _
      (list_any (effect_has k s (place_sorts s.predicates b.predicate)) b.removes)
      (h k)).0).1;
  removes =
      λ k. (or_parts _
      (list_any (effect_has k s (place_sorts s.predicates b.predicate)) b.removes)
      (h k)).1;
}

-- the parts of a specification have no fault where it has none, and no two of a kind have one name
pub record SpecificationParts (s : Specification) : Type 0 where
  pub sort_names : has_repeat (λ name. name) s.sorts ≡ false
  pub constant_names : has_repeat (λ c. c.name) s.constants ≡ false
  pub predicate_names : has_repeat (λ p. p.name) s.predicates ≡ false
  pub clause_names : has_repeat (λ c. c.name) s.clauses ≡ false
  pub operation_names : has_repeat (λ o. o.name) s.operations ≡ false
  pub bound_names : has_repeat (λ b. b.name) s.bounds ≡ false
  pub constants : (n : ℕ) (c : Constant) → slice_get s.constants n ≡ Some c → (k : FaultKind) →
      constant_has k s c ≡ false
  pub predicates : (n : ℕ) (p : Predicate) → slice_get s.predicates n ≡ Some p → (k : FaultKind) →
      predicate_has k s p ≡ false
  pub clauses : (n : ℕ) (c : Clause) → slice_get s.clauses n ≡ Some c → (k : FaultKind) →
      clause_has k s c ≡ false
  pub operations : (n : ℕ) (o : Operation) → slice_get s.operations n ≡ Some o → (k : FaultKind) →
      operation_has k s o ≡ false
  pub bounds : (n : ℕ) (b : Bound) → slice_get s.bounds n ≡ Some b → (k : FaultKind) →
      bound_has k s b ≡ false

specification_parts : (s : Specification) → ((k : FaultKind) → specification_has k s ≡ false) →
    SpecificationParts s
unfolding specification_has
specification_parts s h =
    let split5 =
    λ (k : FaultKind). or_parts
    ((((names_have k s || list_any (constant_has k s) s.constants) || list_any (predicate_has k s)
    s.predicates) || list_any (clause_has k s) s.clauses) || list_any (operation_has k s)
    s.operations) (list_any (bound_has k s) s.bounds) (h k) in
    let split4 =
    λ (k : FaultKind). or_parts
    (((names_have k s || list_any (constant_has k s) s.constants) || list_any (predicate_has k s)
    s.predicates) || list_any (clause_has k s) s.clauses) (list_any (operation_has k s)
    s.operations) (split5 k).0 in
    let split3 =
    λ (k : FaultKind). or_parts
    ((names_have k s || list_any (constant_has k s) s.constants) || list_any (predicate_has k s)
    s.predicates) (list_any (clause_has k s) s.clauses) (split4 k).0 in
    let split2 =
    λ (k : FaultKind). or_parts (names_have k s || list_any (constant_has k s) s.constants)
    (list_any (predicate_has k s) s.predicates) (split3 k).0 in
    let split1 =
    λ (k : FaultKind). or_parts (names_have k s) (list_any (constant_has k s) s.constants)
    (split2 k).0 in
    let names5 =
    or_parts ((((has_repeat (λ name. name) s.sorts || has_repeat (λ c. c.name) s.constants)
    || has_repeat (λ p. p.name) s.predicates) || has_repeat (λ c. c.name) s.clauses)
    || has_repeat (λ o. o.name) s.operations) (has_repeat (λ b. b.name) s.bounds)
    (split1 kind.Duplicate).0 in
    let names4 =
    or_parts (((has_repeat (λ name. name) s.sorts || has_repeat (λ c. c.name) s.constants)
    || has_repeat (λ p. p.name) s.predicates) || has_repeat (λ c. c.name) s.clauses)
    (has_repeat (λ o. o.name) s.operations) names5.0 in
    let names3 =
    or_parts ((has_repeat (λ name. name) s.sorts || has_repeat (λ c. c.name) s.constants)
    || has_repeat (λ p. p.name) s.predicates) (has_repeat (λ c. c.name) s.clauses) names4.0 in
    let names2 =
    or_parts (has_repeat (λ name. name) s.sorts || has_repeat (λ c. c.name) s.constants)
    (has_repeat (λ p. p.name) s.predicates) names3.0 in
    let names1 =
    or_parts (has_repeat (λ name. name) s.sorts) (has_repeat (λ c. c.name) s.constants) names2.0 in
    record {
      sort_names = names1.0;
      constant_names = names1.1;
      predicate_names = names2.1;
      clause_names = names3.1;
      operation_names = names4.1;
      bound_names = names5.1;
      constants = λ n c e k. list_any-false (constant_has k s) s.constants (split1 k).1 n c e;
      predicates = λ n p e k. list_any-false (predicate_has k s) s.predicates (split2 k).1 n p e;
      clauses = λ n c e k. list_any-false (clause_has k s) s.clauses (split3 k).1 n c e;
      operations = λ n o e k. list_any-false (operation_has k s) s.operations (split4 k).1 n o e;
      bounds = λ n b e k. list_any-false (bound_has k s) s.bounds (split5 k).1 n b e;
    }

-- no part of a faultless specification has a fault, and no two of a kind have one name
pub parts_of-faultless : (s : Specification) → IsFaultless s → SpecificationParts s
parts_of-faultless s h = specification_parts s (kinds_of-faultless s h)

-- the predicates of a faultless specification have at most three places
arities_fit : (s : Specification) → IsFaultless s → AritiesFit s.predicates
arities_fit s h n p e =
    above-map 3 3 (λ p. p.arity) s.predicates (limits_of-faultless s h 2 _ refl) n p e

-- a declared bound has its predicate, and counts a place of it
record BoundFits (s : Specification) (b : Bound) : Type 0 where
  predicate : Predicate
  declared : slice_get s.predicates b.predicate ≡ Some predicate
  counted : b.counted < predicate.arity

bound_fits : (s : Specification) (b : Bound) → BoundParts s b → BoundFits s b
bound_fits s b parts =
    let found =
    declared (bound_places_have kind.UnknownName b) (slice_get s.predicates b.predicate)
    (parts.places kind.UnknownName) in
    let places =
    said_of (bound_places_have kind.FreeVariable b) false (slice_get s.predicates b.predicate)
    found.0 found.1 (parts.places kind.FreeVariable) in
    record { predicate = found.0; declared = found.1; counted = leb-false _ _ places }

-- the arguments of an action are at most four
argument_count_fits : (s : Specification) → IsFaultless s → (action : Action) →
    length (sorts_of s action) ≤ 4
argument_count_fits s h (Op n) =
    found_or (λ sorts. length sorts ≤ 4) (λ o. sorts_of_vars o.params) (slice_get s.operations n) []
    (omega arith)
    (λ o e. omega (
      arith,
      length-map o.params (λ v. v.sort),
      above-map 8 4 (λ o. length o.params) s.operations
          (limits_of-faultless s h 7 _ refl) n o e,
    ))
argument_count_fits s h (Drop n) =
    found_or (λ sorts. length sorts ≤ 4) (λ b. place_sorts s.predicates b.predicate)
    (slice_get s.bounds n) [] (omega arith)
    (λ b e. found_or (λ sorts. length sorts ≤ 4) (λ p. take p.arity p.sorts)
    (slice_get s.predicates b.predicate) [] (omega arith)
    (λ p f. omega (arith, length-take p.arity p.sorts, arities_fit s h b.predicate p f)))

-- the sorts of an action's arguments are declared
argument_sort_fits : (s : Specification) → IsFaultless s → SpecificationParts s →
    (action : Action) (k sort : ℕ) → slice_get (sorts_of s action) k ≡ Some sort →
    sort < length s.sorts
argument_sort_fits s h parts (Op n) k sort =
    found_or (λ sorts. slice_get sorts k ≡ Some sort → sort < length s.sorts)
    (λ o. sorts_of_vars o.params) (slice_get s.operations n) [] (λ e. cc)
    (λ o e. sorts_declared s o.params (operation_parts s o (parts.operations n o e)).params k sort)
argument_sort_fits s h parts (Drop n) k sort =
    found_or (λ sorts. slice_get sorts k ≡ Some sort → sort < length s.sorts)
    (λ b. place_sorts s.predicates b.predicate) (slice_get s.bounds n) [] (λ e. cc)
    (λ b e. found_or (λ sorts. slice_get sorts k ≡ Some sort → sort < length s.sorts)
    (λ p. take p.arity p.sorts) (slice_get s.predicates b.predicate) [] (λ e. cc)
    (λ p f is.
    let at = take_at p.arity p.sorts k sort is in
    let known =
    place_sort_declared s p (arities_fit s h b.predicate p f) (parts.predicates b.predicate p f)
    k at.0 in
    let same : known.0 ≡ sort = cc in
    subst (λ n. n < length s.sorts) same known.2))

-- the needs of an action fit its arguments
needs_at : (s : Specification) (found : Option Operation) → AritiesFit s.predicates →
    ((o : Operation) → found ≡ Some o → OperationParts s o) → (k : ℕ) (l : Literal) →
    slice_get (option_map_or (λ o. o.needs) found []) k ≡ Some l →
    LiteralFits s (option_map_or (λ o. sorts_of_vars o.params) found []) l
needs_at s None short parts k l e = cc
needs_at s (Some o) short parts k l e =
    literal_fits s (sorts_of_vars o.params) l short
    (λ f. list_any-false (literal_has f s (sorts_of_vars o.params)) o.needs
    ((parts o refl).needs f) k l e)

needs_fit : (s : Specification) → IsFaultless s → SpecificationParts s →
    (action : Action) (k : ℕ) (l : Literal) → slice_get (needs_of s action) k ≡ Some l →
    LiteralFits s (sorts_of s action) l
needs_fit s h parts (Op n) k l e =
    needs_at s (slice_get s.operations n) (arities_fit s h)
    (λ o f. operation_parts s o (parts.operations n o f)) k l e
needs_fit s h parts (Drop n) k l e = cc

-- the effects of an operation fit its parameters
operation_effects_at : (s : Specification) (found : Option Operation) → AritiesFit s.predicates →
    ((o : Operation) → found ≡ Some o → OperationParts s o) → (k : ℕ) (e : Effect) →
    slice_get (option_map_or (λ o. o.effects) found []) k ≡ Some e →
    EffectFits s (option_map_or (λ o. sorts_of_vars o.params) found []) e
operation_effects_at s None short parts k l e = cc
operation_effects_at s (Some o) short parts k e is =
    effect_fits s (sorts_of_vars o.params) e short
    (λ f. list_any-false (effect_has f s (sorts_of_vars o.params)) o.effects
    ((parts o refl).effects f) k e is)

-- the effects of a drop fit its fact
drop_effects_at : (s : Specification) (b : Bound) → AritiesFit s.predicates → SpecificationParts s →
    BoundParts s b → (k : ℕ) (e : Effect) →
    slice_get (drop_effect s.predicates b ∷ b.removes) k ≡ Some e →
    EffectFits s (place_sorts s.predicates b.predicate) e
drop_effects_at s b short parts of zero e is =
    let fits = bound_fits s b of in
    let p = fits.predicate in
    subst (λ e. EffectFits s (place_sorts s.predicates b.predicate) e) (same_Some _ _ is)
    (drop_effect_fits s b p fits.declared (short _ p fits.declared)
    (parts.predicates _ p fits.declared))
drop_effects_at s b short parts of (suc k) e is =
    effect_fits s (place_sorts s.predicates b.predicate) e short
    (λ f. list_any-false (effect_has f s (place_sorts s.predicates b.predicate))
    b.removes (of.removes f) k e is)

bound_effects_at : (s : Specification) (found : Option Bound) → AritiesFit s.predicates →
    SpecificationParts s → ((b : Bound) → found ≡ Some b → BoundParts s b) → (k : ℕ) (e : Effect) →
    slice_get (option_map_or (λ b. drop_effect s.predicates b ∷ b.removes) found []) k ≡ Some e →
    EffectFits s (option_map_or (λ b. place_sorts s.predicates b.predicate) found []) e
bound_effects_at s None short parts of k e is = cc
bound_effects_at s (Some b) short parts of k e is =
    drop_effects_at s b short parts (of b refl) k e is

effects_fit : (s : Specification) → IsFaultless s → SpecificationParts s →
    (action : Action) (k : ℕ) (e : Effect) → slice_get (effects_of s action) k ≡ Some e →
    EffectFits s (sorts_of s action) e
effects_fit s h parts (Op n) k e is =
    operation_effects_at s (slice_get s.operations n) (arities_fit s h)
    (λ o f. operation_parts s o (parts.operations n o f)) k e is
effects_fit s h parts (Drop n) k e is =
    bound_effects_at s (slice_get s.bounds n) (arities_fit s h) parts
    (λ b f. bound_parts s b (parts.bounds n b f)) k e is

-- the sort of a declared constant is declared
constant_sort_declared : (s : Specification) → SpecificationParts s → (n : ℕ) (c : Constant) →
    slice_get s.constants n ≡ Some c → c.sort < length s.sorts
constant_sort_declared s parts n c e = leb-false (length s.sorts) c.sort (parts.constants n c e kind.UnknownName)

-- what holds of the sort of each constant that may be found holds of the sort that is found
constant_sort_at : (P : ℕ → Type 0) (found : Option Constant) → ((c : Constant) → found ≡ Some c → P c.sort) →
    (sort : ℕ) → option_map (λ c. c.sort) found ≡ Some sort → P sort
constant_sort_at P None h sort e = cc
constant_sort_at P (Some c) h sort e = subst P (same_Some _ _ e) (h c refl)

-- a sort past those of all constants has none
none_past : (sorts : ℕ) (cs : List Constant) →
    ((n : ℕ) (c : Constant) → slice_get cs n ≡ Some c → c.sort < sorts) → (sort : ℕ) → sorts ≤ sort →
    length (constants_of cs sort) ≡ 0
none_past sorts [] h sort past = refl
none_past sorts (c ∷ cs) h sort past =
    let below : c.sort < sorts = h 0 c refl in
    let other : eqb c.sort sort ≡ false = ne_eqb c.sort sort (λ same. omega arith) in
    let skipped : length (constants_of (c ∷ cs) sort) ≡ length (constants_of cs sort) =
    ap (λ b. length (cond b (c ∷ constants_of cs sort) (constants_of cs sort))) other in
    skipped ∙ none_past sorts cs (λ n d e. h (suc n) d e) sort past

-- what stands at a place of numbers in their order
number_at : (start n k m : ℕ) → k < n → start + k ≡ m → slice_get (range_with_len start n) k ≡ Some m
number_at start zero k m l e = absurd (omega arith)
number_at start (suc n) zero m l e = ap (λ m. Some m) (omega arith)
number_at start (suc n) (suc k) m l e = number_at (start + 1) n k m (omega arith) (omega arith)

-- each sort has at most 4 constants
constants_within : (s : Specification) → IsFaultless s → SpecificationParts s → (sort : ℕ) →
    constant_count s sort ≤ 4
constants_within s h parts sort = elim (cases_lt sort (length s.sorts)) [
  | inl within ↦
      above-map 19 4 (constant_count s) (range_with_len 0 (length s.sorts)) (limits_of-faultless s h 13 _ refl) sort
      sort (number_at 0 (length s.sorts) sort sort within (omega arith))
  | inr past ↦
      let none = none_past (length s.sorts) s.constants (constant_sort_declared s parts) sort past in omega arith
]

-- a faultless specification is fit
pub IsFit-from_faultless : (s : Specification) → IsFaultless s → IsFit s
IsFit-from_faultless s h =
    let parts = parts_of-faultless s h in
    let short = arities_fit s h in
    record {
      sort_count = above-None 1 8 (length s.sorts ∷ []) (limits_of-faultless s h 0 _ refl) 0 _ refl;
      predicate_count =
          above-None 2 32 (length s.predicates ∷ []) (limits_of-faultless s h 1 _ refl) 0 _ refl;
      clause_count =
          above-None 4 32 (length s.clauses ∷ []) (limits_of-faultless s h 3 _ refl) 0 _ refl;
      operation_count =
          above-None 7 32 (length s.operations ∷ []) (limits_of-faultless s h 6 _ refl) 0 _ refl;
      bound_count =
          above-None 11 8 (length s.bounds ∷ []) (limits_of-faultless s h 10 _ refl) 0 _ refl;
      constant_sort =
          λ k sort e. constant_sort_at (λ n. n < length s.sorts) (slice_get s.constants k)
          (constant_sort_declared s parts k) sort e;
      constant_most = constants_within s h parts;
      arities = short;
      place_sort = λ n k p e l.
          let known = place_sort_declared s p (short n p e) (parts.predicates n p e) k l in
          let sort : slice_index p.sorts k ≡ known.0 =
          get_or_from_slice_get p.sorts k known.0 0 known.1 in
          subst (λ x. x < length s.sorts) (sym sort) known.2;
      variable_count =
          λ n c e. above-map 6 4 (λ c. length c.vars) s.clauses (limits_of-faultless s h 5 _ refl) n
          c e;
      literal_count =
          λ n c e. above-map 5 6 (λ c. length c.literals) s.clauses
          (limits_of-faultless s h 4 _ refl) n c e;
      variable_sort =
          λ n k sort c e. sorts_declared s c.vars
          (λ f. (or_parts _
          (list_any (literal_has f s (sorts_of_vars c.vars)) c.literals)
          (parts.clauses n c e f)).0) k sort;
      literals =
          λ n k c l e is. literal_fits s (sorts_of_vars c.vars) l short
          (λ f. list_any-false (literal_has f s (sorts_of_vars c.vars)) c.literals
          (or_parts _ (list_any (literal_has f s (sorts_of_vars c.vars)) c.literals)
          (parts.clauses n c e f)).1 k l is);
      argument_count = argument_count_fits s h;
      argument_sort = argument_sort_fits s h parts;
      needs = needs_fit s h parts;
      effects = effects_fit s h parts;
      need_count =
          λ n o e. above-map 10 6 (λ o. length o.needs) s.operations
          (limits_of-faultless s h 9 _ refl) n o e;
      effect_count =
          λ n o e. above-map 9 12 (λ o. length o.effects) s.operations
          (limits_of-faultless s h 8 _ refl) n o e;
      remove_count =
          λ n b e. above-map 13 4 (λ b. length b.removes) s.bounds
          (limits_of-faultless s h 12 _ refl) n b e;
      bound_predicate =
          λ n b e. slice_get_within s.predicates b.predicate _
          (bound_fits s b (bound_parts s b (parts.bounds n b e))).declared;
      counted = λ n b p e is.
          let fits = bound_fits s b (bound_parts s b (parts.bounds n b e)) in
          let same : fits.predicate ≡ p = same_Some _ _ (sym fits.declared ∙ is) in
          subst (λ q. b.counted < q.arity) same fits.counted;
      drops_remove =
          λ n k e b is at. list_any-false (λ e. e.add) b.removes
          ((bound_parts s b (parts.bounds n b is)).adds kind.WildAdd) k e at;
    }
