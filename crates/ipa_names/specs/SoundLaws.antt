-- What is declared stays sound with one more line that is not refused.
--
--   parts_push, parts_last   one more thing of a kind, and the last one changed
--   sound_declared           each kind of line
use Rattle.std.proofs.Common.{◌≡◌, ℕ, ◌+◌, ◌≤◌, false, ◌||◌, ◌==◌, List, [], ◌∷◌, ◌++◌, length, map, Option, Some, None, refl, sym, subst, ◌∙◌, append-nil, arith}
use Rattle.std.specs.List.{list_any}
use Rattle.std.specs.Option.{option_map, option_map_or}
use Rattle.std.proofs.lemmas.Bool.{or_parts, or_left, eqb-true, not-false}
use Rattle.std.proofs.lemmas.List.{length-append}
use Rattle.std.proofs.lemmas.List.Folds.{list_any-append}
use Rattle.ipa_spec.specs.Faults.{same_name}
use Rattle.ipa_spec.specs.declared.names.Name.{Name}
use Rattle.ipa_names.specs.Naming.{is_among, last_of, with_last}
use Rattle.ipa_names.specs.Declarations.{with_need, with_effect, with_remove, add_effect, remove_effect, with_declaration}
use Rattle.ipa_names.specs.Scopes.{predicate_named, constants_named, with_constants, operation_scope, bound_variables}
use Rattle.ipa_names.specs.Flaws.{use_has, sort_has, list_has, variables_have, arity_named, literal_has, effect_has, counted_has, bound_has, declaration_has, specification_line_has}
use Rattle.ipa_names.specs.Counts.{count_above, effects_above}
use Rattle.ipa_names.specs.Soundness.{AreSoundParts, IsSoundConstant, IsSoundOperation, IsSound, IsDeclarable}
use Rattle.ipa_names.specs.declared.flaws.Flaw.{Flaw}
use Rattle.ipa_names.specs.declared.flaws.Flaw.TheVariants.{Arity, UnknownName, Duplicate}
use Rattle.ipa_forms.specs.declared.forms.Form.{Form}
use Rattle.ipa_forms.specs.declared.forms.Form.TheVariants.{Sort, Const, Pred, Clause, Op, Need, Add, Del, Bound, Drops, Elem, Base, Replicas, Session, Do, Show}
use Rattle.ipa_names.specs.declared.declared.PredicateLine.{PredicateLine}
use Rattle.ipa_names.specs.declared.declared.EffectLine.{EffectLine}
use Rattle.ipa_names.specs.declared.declared.OperationLines.{OperationLines}
use Rattle.ipa_names.specs.declared.declared.BoundLines.{BoundLines}
use Rattle.ipa_names.specs.declared.declared.Declared.{Declared}
use Rattle.ipa_names.specs.ListLaws.{each_push, each_last, any_push, any_weaken, any-map, repeat_push, repeat-with_last, length-with_last, find_at, found_first}
use Rattle.ipa_names.specs.GrowthLaws.{Grows, known_use, sort_grown, literal_same, literals_grown, effect_same, variables_grown, bound_grown, weakened}
use Rattle.ipa_names.specs.CountLaws.{count_kept, size_kept}
use Rattle.ipa_names.specs.ConstantLaws.{constants_few, constants_more}

parts_push : {X : Type 0} {name_of : X → Name} {most : ℕ} {P : X → Type 0} {xs : List X} (x : X) →
    AreSoundParts name_of most P xs → length xs + 1 ≤ most →
    list_any (λ y. same_name (name_of y) (name_of x)) xs ≡ false → P x → AreSoundParts name_of most P (xs ++ x ∷ [])
parts_push {X} {name_of} {most} {P} {xs} x h short new p = record {
  count = omega (arith, length-append xs (x ∷ []));
  apart = repeat_push name_of xs x h.apart new;
  each = each_push xs x h.each p;
}

parts_last : {X : Type 0} {name_of : X → Name} {most : ℕ} {P : X → Type 0} {xs : List X} (change : X → X) →
    AreSoundParts name_of most P xs → ((x : X) → name_of (change x) ≡ name_of x) →
    ((x : X) → last_of xs ≡ Some x → P x → P (change x)) → AreSoundParts name_of most P (with_last change xs)
parts_last {X} {name_of} {most} {P} {xs} change h same changed = record {
  count = omega (arith, length-with_last change xs);
  apart = repeat-with_last name_of change xs same ∙ h.apart;
  each = each_last change xs h.each changed;
}

-- the name of a new thing is not taken
free_name : {X : Type 0} (name_of : X → Name) (xs : List X) (name : Name) → is_among (map name_of xs) name ≡ false →
    list_any (λ y. same_name (name_of y) name) xs ≡ false
free_name name_of xs name h = sym (any-map (λ other. same_name other name) name_of xs) ∙ h

grows_by_sort : (d : Declared) (name : Name) → Grows d (record d { sorts = d.sorts ++ name ∷ [] })
grows_by_sort d name = record {
  sorts = λ sort h. list_any-append (λ other. same_name other sort) d.sorts (name ∷ []) ∙ or_left _ _ h;
  predicates = λ n p e. e;
  more = [];
  constants = sym (append-nil d.constants);
}

grows_by_predicate : (d : Declared) (p : PredicateLine) → Grows d (record d { predicates = d.predicates ++ p ∷ [] })
grows_by_predicate d p = record {
  sorts = λ sort h. h;
  predicates = λ name q e. found_first (λ r. same_name r.name name) d.predicates (p ∷ []) q e;
  more = [];
  constants = sym (append-nil d.constants);
}

-- a test of what is found, where it is found
at_found : {X : Type 0} {Y : Type 0} (P : Y → Type 0) (of : X → Y) (none : Y) (found : Option X) (x : X) →
    found ≡ Some x → P (option_map_or of found none) → P (of x)
at_found P of none found x e h = let Q : Option _ → Type 0 = λ o. P (option_map_or of o none) in subst Q e h

-- the parts of a bound line
pub bound_uses : (d : Declared) (predicate : Name) (vars : List Name) (counted : Name) (flaw : Flaw) →
    bound_has flaw d predicate vars counted ≡ false → use_has flaw (arity_named d predicate) (length vars) ≡ false
bound_uses d predicate vars counted flaw h =
    (or_parts (use_has flaw (arity_named d predicate) (length vars)) (list_has flaw vars)
    (or_parts (use_has flaw (arity_named d predicate) (length vars) || list_has flaw vars) (counted_has flaw vars counted) h).0).0

pub as_many : (found : Option PredicateLine) (p : PredicateLine) (given : ℕ) → found ≡ Some p →
    use_has Arity (option_map (λ q. length q.sorts) found) given ≡ false → length p.sorts ≡ given
as_many found p given e h =
    let at = (let Q : Option PredicateLine → Type 0 = λ o. use_has Arity (option_map (λ q. length q.sorts) o) given ≡ false in subst Q e h) in
    eqb-true (length p.sorts) given (not-false (length p.sorts == given) at)

-- a bound has as many variables as its predicate has places
bound_variable_count : (d : Declared) (predicate : Name) (vars : List Name) (counted : Name) → IsSound d →
    ((flaw : Flaw) → bound_has flaw d predicate vars counted ≡ false) → length vars ≤ 3
bound_variable_count d predicate vars counted h flawless =
    let k = known_use (predicate_named d predicate) (length vars) (bound_uses d predicate vars counted UnknownName (flawless UnknownName)) in
    let many = as_many (predicate_named d predicate) k.0 (length vars) k.1 (bound_uses d predicate vars counted Arity (flawless Arity)) in
    let place = find_at (λ p. same_name p.name predicate) d.predicates k.0 k.1 in
    let places = (h.predicates.each.at place.0 k.0 place.1).places in
    omega (arith, many, places)

-- one more effect of the operation declared last
sound_effect : (d e : Declared) → Grows d e → (effect : EffectLine) (o : OperationLines) →
    last_of d.operations ≡ Some o → ((flaw : Flaw) → effect_has flaw d (with_constants d (operation_scope d)) effect ≡ false) →
    effects_above d ≡ None → IsSoundOperation e o → IsSoundOperation e (with_effect effect o)
sound_effect d e g effect o is flawless limit h =
    let at = λ (flaw : Flaw). at_found (λ scope. effect_has flaw d (with_constants d scope) effect ≡ false) (λ p. p.params) [] (last_of d.operations) o is (flawless flaw) in
    let count = count_kept 9 12 (length o.effects + 1) (at_found (λ found. found ≡ None) (λ p. count_above 9 12 (length p.effects + 1)) None (last_of d.operations) o is limit) in
    record {
      parameter_count = h.parameter_count;
      need_count = h.need_count;
      effect_count = omega (arith, count, length-append o.effects (effect ∷ []));
      parameters = h.parameters;
      needs = h.needs;
      effects = λ flaw. any_push (effect_has flaw e (with_constants e o.params)) o.effects effect (h.effects flaw) (effect_same d e g o.params effect at flaw);
    }

pub sound_declared : (d : Declared) (line : Form) → IsSound d → IsDeclarable d line → IsSound (with_declaration d line)
unfolding specification_line_has
sound_declared d (Sort name) h u =
    let e : Declared = record d { sorts = d.sorts ++ name ∷ [] } in
    let w = weakened d e (grows_by_sort d name) h in
    record {
      sorts =
          parts_push name w.sorts (count_kept 1 8 (length d.sorts + 1) (u.limits 0 _ refl)) (u.flawless Duplicate) tt;
      constants = w.constants;
      constant_most = h.constant_most;
      predicates = w.predicates;
      clauses = w.clauses;
      operations = w.operations;
      bounds = w.bounds;
    }
sound_declared d (Const c) h u =
    let e : Declared = record d { constants = d.constants ++ c ∷ [] } in
    let g : Grows d e = record { sorts = λ sort k. k; predicates = λ n p k. k; more = c ∷ []; constants = refl } in
    let w = weakened d e g h in
    let parts = λ (flaw : Flaw). or_parts (declaration_has flaw (map (λ k. k.name) d.constants) c.name) (sort_has flaw d c.sort) (u.flawless flaw) in
    let sound : IsSoundConstant e c = record { flawless = λ flaw. sort_grown d e g flaw c.sort (parts flaw).1 } in
    let room = count_kept 19 4 (length (constants_named d.constants c.sort) + 1) (u.limits 0 _ refl) in
    let most = constants_more d.constants c h.constant_most room in
    let each = each_push d.constants c w.constants.each sound in
    let few = constants_few d.sorts (d.constants ++ c ∷ []) (λ n k is. not-false (is_among d.sorts k.sort) ((each.at n k is).flawless UnknownName)) most in
    record {
      sorts = w.sorts;
      constants = parts_push c w.constants (omega (arith, few, h.sorts.count, length-append d.constants (c ∷ []))) (free_name (λ k. k.name) d.constants c.name (parts Duplicate).0) sound;
      constant_most = most;
      predicates = w.predicates;
      clauses = w.clauses;
      operations = w.operations;
      bounds = w.bounds;
    }
sound_declared d (Pred name sorts rule) h u =
    let p : PredicateLine = record { name = name; sorts = sorts; rule = rule } in
    let e : Declared = record d { predicates = d.predicates ++ p ∷ [] } in
    let g = grows_by_predicate d p in
    let w = weakened d e g h in
    let parts = λ (flaw : Flaw). or_parts (declaration_has flaw (map (λ q. q.name) d.predicates) name) (list_any (sort_has flaw d) sorts) (u.flawless flaw) in
    record {
      sorts = w.sorts;
      constants = w.constants;
      constant_most = h.constant_most;
      predicates = parts_push p w.predicates (count_kept 2 32 (length d.predicates + 1) (u.limits 0 _ refl)) (free_name (λ q. q.name) d.predicates name (parts Duplicate).0)
          (record {
            places = count_kept 3 3 (length sorts) (u.limits 1 _ refl);
            flawless = λ flaw. any_weaken (sort_has flaw d) (sort_has flaw e) sorts (parts flaw).1 (sort_grown d e g flaw);
          });
      clauses = w.clauses;
      operations = w.operations;
      bounds = w.bounds;
    }
sound_declared d (Clause name vars literals) h u =
    let e : Declared = with_declaration d (Clause name vars literals) in
    let g : Grows d e = record { sorts = λ sort k. k; predicates = λ n p k. k; more = []; constants = sym (append-nil d.constants) } in
    let w = weakened d e g h in
    let front = λ (flaw : Flaw). or_parts (declaration_has flaw (map (λ q. q.name) d.clauses) name || variables_have flaw d vars) (list_any (literal_has flaw d (with_constants d vars)) literals) (u.flawless flaw) in
    let parts = λ (flaw : Flaw). or_parts (declaration_has flaw (map (λ q. q.name) d.clauses) name) (variables_have flaw d vars) (front flaw).0 in
    record {
      sorts = w.sorts;
      constants = w.constants;
      constant_most = h.constant_most;
      predicates = w.predicates;
      clauses = parts_push (record { name = name; vars = vars; literals = literals }) w.clauses (count_kept 4 32 (length d.clauses + 1) (u.limits 0 _ refl)) (free_name (λ q. q.name) d.clauses name (parts Duplicate).0)
          (record {
            literal_count = count_kept 5 6 (length literals) (u.limits 1 _ refl);
            variable_count = count_kept 6 4 (length vars) (u.limits 2 _ refl);
            variables = λ flaw. variables_grown d e g vars flaw (parts flaw).1;
            literals = literals_grown d e g vars literals (λ flaw. (front flaw).1);
          });
      operations = w.operations;
      bounds = w.bounds;
    }
sound_declared d (Op name params) h u =
    let e : Declared = with_declaration d (Op name params) in
    let g : Grows d e = record { sorts = λ sort k. k; predicates = λ n p k. k; more = []; constants = sym (append-nil d.constants) } in
    let w = weakened d e g h in
    let parts = λ (flaw : Flaw). or_parts (declaration_has flaw (map (λ q. q.name) d.operations) name) (variables_have flaw d params) (u.flawless flaw) in
    record {
      sorts = w.sorts;
      constants = w.constants;
      constant_most = h.constant_most;
      predicates = w.predicates;
      clauses = w.clauses;
      operations = parts_push (record { name = name; params = params; needs = []; effects = [] }) w.operations (count_kept 7 32 (length d.operations + 1) (u.limits 0 _ refl)) (free_name (λ q. q.name) d.operations name (parts Duplicate).0)
          (record {
            parameter_count = count_kept 8 4 (length params) (u.limits 1 _ refl);
            need_count = omega arith;
            effect_count = omega arith;
            parameters = λ flaw. variables_grown d e g params flaw (parts flaw).1;
            needs = λ flaw. refl;
            effects = λ flaw. refl;
          });
      bounds = w.bounds;
    }
sound_declared d (Need literal) h u =
    let e : Declared = with_declaration d (Need literal) in
    let g : Grows d e = record { sorts = λ sort k. k; predicates = λ n p k. k; more = []; constants = sym (append-nil d.constants) } in
    let w = weakened d e g h in
    record {
      sorts = w.sorts;
      constants = w.constants;
      constant_most = h.constant_most;
      predicates = w.predicates;
      clauses = w.clauses;
      operations = parts_last (with_need literal) w.operations (λ o. refl) (λ o is p.
          let at = λ (flaw : Flaw). at_found (λ scope. literal_has flaw d (with_constants d scope) literal ≡ false) (λ q. q.params) [] (last_of d.operations) o is (u.flawless flaw) in
          let count = count_kept 10 6 (length o.needs + 1) (at_found (λ found. found ≡ None) (λ q. count_above 10 6 (length q.needs + 1)) None (last_of d.operations) o is (u.limits 0 _ refl)) in
          record {
            parameter_count = p.parameter_count;
            need_count = omega (arith, count, length-append o.needs (literal ∷ []));
            effect_count = p.effect_count;
            parameters = p.parameters;
            needs = λ flaw. any_push (literal_has flaw e (with_constants e o.params)) o.needs literal (p.needs flaw) (literal_same d e g o.params literal at flaw);
            effects = p.effects;
          });
      bounds = w.bounds;
    }
sound_declared d (Add predicate args) h u =
    let e : Declared = with_declaration d (Add predicate args) in
    let g : Grows d e = record { sorts = λ sort k. k; predicates = λ n p k. k; more = []; constants = sym (append-nil d.constants) } in
    let w = weakened d e g h in
    record {
      sorts = w.sorts;
      constants = w.constants;
      constant_most = h.constant_most;
      predicates = w.predicates;
      clauses = w.clauses;
      operations = parts_last (with_effect (add_effect predicate args)) w.operations (λ o. refl) (λ o is p. sound_effect d e g (add_effect predicate args) o is u.flawless (u.limits 0 _ refl) p);
      bounds = w.bounds;
    }
sound_declared d (Del predicate args) h u =
    let e : Declared = with_declaration d (Del predicate args) in
    let g : Grows d e = record { sorts = λ sort k. k; predicates = λ n p k. k; more = []; constants = sym (append-nil d.constants) } in
    let w = weakened d e g h in
    record {
      sorts = w.sorts;
      constants = w.constants;
      constant_most = h.constant_most;
      predicates = w.predicates;
      clauses = w.clauses;
      operations = parts_last (with_effect (remove_effect predicate args)) w.operations (λ o. refl) (λ o is p. sound_effect d e g (remove_effect predicate args) o is u.flawless (u.limits 0 _ refl) p);
      bounds = w.bounds;
    }
sound_declared d (Bound name predicate vars counted most pick) h u =
    let e : Declared = with_declaration d (Bound name predicate vars counted most pick) in
    let b : BoundLines = record { name = name; predicate = predicate; vars = vars; counted = counted; most = most; pick = pick; removes = [] } in
    let g : Grows d e = record { sorts = λ sort k. k; predicates = λ n p k. k; more = []; constants = sym (append-nil d.constants) } in
    let w = weakened d e g h in
    let parts = λ (flaw : Flaw). or_parts (declaration_has flaw (map (λ q. q.name) d.bounds) name) (bound_has flaw d predicate vars counted) (u.flawless flaw) in
    let size = size_kept most (u.limits 1 _ refl) in
    record {
      sorts = w.sorts;
      constants = w.constants;
      constant_most = h.constant_most;
      predicates = w.predicates;
      clauses = w.clauses;
      operations = w.operations;
      bounds = parts_push b w.bounds (count_kept 11 8 (length d.bounds + 1) (u.limits 0 _ refl)) (free_name (λ q. q.name) d.bounds name (parts Duplicate).0)
          (bound_grown d e g b (record {
            variable_count = bound_variable_count d predicate vars counted h (λ flaw. (parts flaw).1);
            some_size = omega (arith, size.0);
            size = size.1;
            remove_count = omega arith;
            flawless = λ flaw. (parts flaw).1;
            removes = λ flaw. refl;
            removing = refl;
          }));
    }
sound_declared d (Drops predicate args) h u =
    let e : Declared = with_declaration d (Drops predicate args) in
    let effect = remove_effect predicate args in
    let g : Grows d e = record { sorts = λ sort k. k; predicates = λ n p k. k; more = []; constants = sym (append-nil d.constants) } in
    let w = weakened d e g h in
    record {
      sorts = w.sorts;
      constants = w.constants;
      constant_most = h.constant_most;
      predicates = w.predicates;
      clauses = w.clauses;
      operations = w.operations;
      bounds = parts_last (with_remove effect) w.bounds (λ b. refl) (λ b is p.
          let at = λ (flaw : Flaw). at_found (λ scope. effect_has flaw d (with_constants d scope) effect ≡ false) (bound_variables d) [] (last_of d.bounds) b is (u.flawless flaw) in
          let here = λ (flaw : Flaw). effect_same d e g (bound_variables d b) effect at flaw in
          let count = count_kept 13 4 (length b.removes + 1) (at_found (λ found. found ≡ None) (λ q. count_above 13 4 (length q.removes + 1)) None (last_of d.bounds) b is (u.limits 0 _ refl)) in
          record {
            variable_count = p.variable_count;
            some_size = p.some_size;
            size = p.size;
            remove_count = omega (arith, count, length-append b.removes (effect ∷ []));
            flawless = p.flawless;
            removes = λ flaw. any_push (effect_has flaw e (with_constants e (bound_variables e b))) b.removes effect (p.removes flaw) (here flaw);
            removing = any_push (λ x. x.add) b.removes effect p.removing refl;
          });
    }
sound_declared d (Elem sort elements) h u = h
sound_declared d (Base predicate elements) h u = h
sound_declared d (Replicas number) h u = h
sound_declared d (Session number) h u = h
sound_declared d (Do operation elements) h u = h
sound_declared d (Show predicate places) h u = h
