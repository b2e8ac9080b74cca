-- What is sound stays so when more is declared.
--
--   Grows d e          what is declared in d is declared in e, and means the same there
--   literal_more, effect_more   what is wrong with a part stays where more names may be meant, and it uses none of them
--   literal_same, effect_same, literals_grown, effects_grown, variables_grown   parts without a flaw
--   Weakened d e       everything that d declares is sound in e
--   weakened           it is, where d is sound and grows to e
use Rattle.std.proofs.Common.{◌≡◌, ℕ, Bool, true, false, not, ◌||◌, List, [], ◌++◌, length, map, Option, Some, None, is_none, refl, sym, ap, subst, ◌∙◌, append_assoc}
use Rattle.std.specs.List.{slice_get, list_any, find, zip}
use Rattle.std.specs.Option.{option_map, option_map_or}
use Rattle.std.proofs.lemmas.Bool.{or_parts, or_from, not_from_true, not-false}
use Rattle.ipa_spec.specs.FoundLaws.{list_any-false, none_of}
use Rattle.ipa_spec.specs.Faults.{same_name}
use Rattle.ipa_spec.specs.declared.names.Name.{Name}
use Rattle.ipa_names.specs.Naming.{is_among}
use Rattle.ipa_names.specs.Scopes.{predicate_named, places_of, sort_of_variable, with_constants, typed_by_places, bound_variables}
use Rattle.ipa_names.specs.Flaws.{use_has, sort_has, list_has, variables_have, place_has, variable_has, arity_named, atom_has, comparison_has, literal_has, argument_place_has, argument_has, effect_has, counted_has, bound_has}
use Rattle.ipa_names.specs.Soundness.{AreSoundParts, IsSoundConstant, IsSoundPredicate, IsSoundClause, IsSoundOperation, IsSoundBound, IsSound}
use Rattle.ipa_names.specs.declared.flaws.Flaw.{Flaw}
use Rattle.ipa_names.specs.declared.flaws.Flaw.TheVariants.{Arity, SortMismatch, UnknownName, Duplicate, WildAdd, FreeVariable}
use Rattle.ipa_forms.specs.declared.forms.Typed.{Typed}
use Rattle.ipa_forms.specs.declared.forms.AtomForm.{AtomForm}
use Rattle.ipa_forms.specs.declared.forms.LiteralForm.{LiteralForm}
use Rattle.ipa_forms.specs.declared.forms.LiteralForm.TheVariants.{Holds, Fails, Same, Differ}
use Rattle.ipa_names.specs.declared.declared.PredicateLine.{PredicateLine}
use Rattle.ipa_names.specs.declared.declared.ClauseLine.{ClauseLine}
use Rattle.ipa_names.specs.declared.declared.EffectLine.{EffectLine}
use Rattle.ipa_names.specs.declared.declared.OperationLines.{OperationLines}
use Rattle.ipa_names.specs.declared.declared.BoundLines.{BoundLines}
use Rattle.ipa_names.specs.declared.declared.Declared.{Declared}
use Rattle.ipa_names.specs.ListLaws.{each_weaken, any_weaken, any_same, found_first, zip_first}

pub record Grows (d e : Declared) : Type 0 where
  pub sorts : (sort : Name) → is_among d.sorts sort ≡ true → is_among e.sorts sort ≡ true
  pub predicates : (name : Name) (p : PredicateLine) → predicate_named d name ≡ Some p → predicate_named e name ≡ Some p
  pub more : List Typed
  pub constants : e.constants ≡ d.constants ++ more

-- a use that is no unknown name is one of a declared predicate
pub known_use : (found : Option PredicateLine) (given : ℕ) →
    use_has UnknownName (option_map (λ p. length p.sorts) found) given ≡ false → (p : PredicateLine) × (found ≡ Some p)
known_use None given h = cc
known_use (Some p) given h = (p, refl)

typed_of : (found : Option Typed) → is_none (option_map (λ (v : Typed). v.sort) found) ≡ false →
    (v : Typed) × (found ≡ Some v)
typed_of None h = cc
typed_of (Some v) h = (v, refl)

-- what a name means stays where more names may be meant
sort_more : (scope more : List Typed) (name : Name) → is_none (sort_of_variable scope name) ≡ false →
    sort_of_variable (scope ++ more) name ≡ sort_of_variable scope name
sort_more scope more name h =
    let v = typed_of (find (λ v. same_name v.name name) scope) h in
    ap (option_map (λ (w : Typed). w.sort)) (found_first (λ w. same_name w.name name) scope more v.0 v.1 ∙ sym v.1)

module _ (d : Declared) (scope more : List Typed) where
  place_more : (flaw : Flaw) (name sort : Name) → variable_has FreeVariable scope name ≡ false →
      place_has flaw (scope ++ more) (name, sort) ≡ place_has flaw scope (name, sort)
  place_more SortMismatch name sort h =
      ap (λ found. option_map_or (λ own. not (same_name own sort)) found false) (sort_more scope more name h)
  place_more Arity name sort h = refl
  place_more UnknownName name sort h = refl
  place_more Duplicate name sort h = refl
  place_more WildAdd name sort h = refl
  place_more FreeVariable name sort h = refl

  variable_more : (flaw : Flaw) (name : Name) → variable_has FreeVariable scope name ≡ false →
      variable_has flaw (scope ++ more) name ≡ variable_has flaw scope name
  variable_more FreeVariable name h = ap is_none (sort_more scope more name h)
  variable_more Arity name h = refl
  variable_more SortMismatch name h = refl
  variable_more UnknownName name h = refl
  variable_more Duplicate name h = refl
  variable_more WildAdd name h = refl

  atom_more : (flaw : Flaw) (a : AtomForm) → atom_has FreeVariable d scope a ≡ false →
      atom_has flaw d (scope ++ more) a ≡ atom_has flaw d scope a
  atom_more flaw a h =
      let free : list_any (variable_has FreeVariable scope) a.args ≡ false =
      (or_parts (use_has FreeVariable (arity_named d a.predicate) (length a.args) || list_any (place_has FreeVariable scope) (zip a.args (places_of d a.predicate))) (list_any (variable_has FreeVariable scope) a.args) h).1 in
      let known = λ (n : ℕ) (name : Name) (at : slice_get a.args n ≡ Some name).
      list_any-false (variable_has FreeVariable scope) a.args free n name at in
      let places : list_any (place_has flaw (scope ++ more)) (zip a.args (places_of d a.predicate)) ≡ list_any (place_has flaw scope) (zip a.args (places_of d a.predicate)) =
      any_same (place_has flaw scope) (place_has flaw (scope ++ more)) (zip a.args (places_of d a.predicate))
      (λ n p at. place_more flaw p.0 p.1 (known n p.0 (zip_first a.args (places_of d a.predicate) n p.0 p.1 at))) in
      let names : list_any (variable_has flaw (scope ++ more)) a.args ≡ list_any (variable_has flaw scope) a.args =
      any_same (variable_has flaw scope) (variable_has flaw (scope ++ more)) a.args (λ n name at. variable_more flaw name (known n name at)) in
      λ i. (use_has flaw (arity_named d a.predicate) (length a.args) || places i) || names i

  comparison_more : (flaw : Flaw) (one other : Name) → variable_has FreeVariable scope one ≡ false →
      variable_has FreeVariable scope other ≡ false →
      comparison_has flaw (scope ++ more) one other ≡ comparison_has flaw scope one other
  comparison_more SortMismatch one other h k = λ i.
      option_map_or (λ sort. option_map_or (λ own. not (same_name own sort)) (sort_more scope more other k i) false) (sort_more scope more one h i) false
  comparison_more FreeVariable one other h k = λ i. variable_more FreeVariable one h i || variable_more FreeVariable other k i
  comparison_more Arity one other h k = refl
  comparison_more UnknownName one other h k = refl
  comparison_more Duplicate one other h k = refl
  comparison_more WildAdd one other h k = refl

  pub literal_more : (flaw : Flaw) (l : LiteralForm) → literal_has FreeVariable d scope l ≡ false →
      literal_has flaw d (scope ++ more) l ≡ literal_has flaw d scope l
  literal_more flaw (Holds a) h = atom_more flaw a h
  literal_more flaw (Fails a) h = atom_more flaw a h
  literal_more flaw (Same one other) h =
      let parts = or_parts (variable_has FreeVariable scope one) (variable_has FreeVariable scope other) h in
      comparison_more flaw one other parts.0 parts.1
  literal_more flaw (Differ one other) h =
      let parts = or_parts (variable_has FreeVariable scope one) (variable_has FreeVariable scope other) h in
      comparison_more flaw one other parts.0 parts.1

  argument_place_more : (flaw : Flaw) (add : Bool) (argument : Option Name) (sort : Name) →
      argument_has FreeVariable scope add argument ≡ false →
      argument_place_has flaw (scope ++ more) (argument, sort) ≡ argument_place_has flaw scope (argument, sort)
  argument_place_more flaw add None sort h = refl
  argument_place_more flaw add (Some name) sort h = place_more flaw name sort h

  argument_more : (flaw : Flaw) (add : Bool) (argument : Option Name) → argument_has FreeVariable scope add argument ≡ false →
      argument_has flaw (scope ++ more) add argument ≡ argument_has flaw scope add argument
  argument_more flaw add None h = refl
  argument_more flaw add (Some name) h = variable_more flaw name h

  pub effect_more : (flaw : Flaw) (a : EffectLine) → effect_has FreeVariable d scope a ≡ false →
      effect_has flaw d (scope ++ more) a ≡ effect_has flaw d scope a
  effect_more flaw a h =
      let free : list_any (argument_has FreeVariable scope a.add) a.args ≡ false =
      (or_parts (use_has FreeVariable (arity_named d a.predicate) (length a.args) || list_any (argument_place_has FreeVariable scope) (zip a.args (places_of d a.predicate))) (list_any (argument_has FreeVariable scope a.add) a.args) h).1 in
      let known = λ (n : ℕ) (argument : Option Name) (at : slice_get a.args n ≡ Some argument).
      list_any-false (argument_has FreeVariable scope a.add) a.args free n argument at in
      let places : list_any (argument_place_has flaw (scope ++ more)) (zip a.args (places_of d a.predicate)) ≡ list_any (argument_place_has flaw scope) (zip a.args (places_of d a.predicate)) =
      any_same (argument_place_has flaw scope) (argument_place_has flaw (scope ++ more)) (zip a.args (places_of d a.predicate))
      (λ n p at. argument_place_more flaw a.add p.0 p.1 (known n p.0 (zip_first a.args (places_of d a.predicate) n p.0 p.1 at))) in
      let names : list_any (argument_has flaw (scope ++ more) a.add) a.args ≡ list_any (argument_has flaw scope a.add) a.args =
      any_same (argument_has flaw scope a.add) (argument_has flaw (scope ++ more) a.add) a.args (λ n argument at. argument_more flaw a.add argument (known n argument at)) in
      λ i. (use_has flaw (arity_named d a.predicate) (length a.args) || places i) || names i

module _ (d e : Declared) (g : Grows d e) where
  pub sort_grown : (flaw : Flaw) (sort : Name) → sort_has flaw d sort ≡ false → sort_has flaw e sort ≡ false
  sort_grown UnknownName sort h =
      not_from_true (is_among e.sorts sort) (g.sorts sort (not-false (is_among d.sorts sort) h))
  sort_grown Arity sort h = refl
  sort_grown SortMismatch sort h = refl
  sort_grown Duplicate sort h = refl
  sort_grown WildAdd sort h = refl
  sort_grown FreeVariable sort h = refl

  named_grown : (name : Name) (given : ℕ) → use_has UnknownName (arity_named d name) given ≡ false →
      predicate_named e name ≡ predicate_named d name
  named_grown name given h = let k = known_use (predicate_named d name) given h in g.predicates name k.0 k.1 ∙ sym k.1

  -- what is wrong with an atom, where its predicate is found so
  atom_of_found : Flaw → List Typed → List Name → Option PredicateLine → Bool
  atom_of_found flaw scope args found =
      (use_has flaw (option_map (λ p. length p.sorts) found) (length args)
      || list_any (place_has flaw scope) (zip args (option_map_or (λ p. p.sorts) found [])))
      || list_any (variable_has flaw scope) args

  atom_grown : (scope : List Typed) (a : AtomForm) → atom_has UnknownName d scope a ≡ false → (flaw : Flaw) →
      atom_has flaw e scope a ≡ atom_has flaw d scope a
  unfolding atom_of_found
  atom_grown scope a h flaw =
      let used = or_parts (use_has UnknownName (arity_named d a.predicate) (length a.args)) (list_any (place_has UnknownName scope) (zip a.args (places_of d a.predicate)))
      (or_parts (use_has UnknownName (arity_named d a.predicate) (length a.args) || list_any (place_has UnknownName scope) (zip a.args (places_of d a.predicate))) (list_any (variable_has UnknownName scope) a.args) h).0 in
      ap (atom_of_found flaw scope a.args) (named_grown a.predicate (length a.args) used.0)

  literal_grown : (scope : List Typed) (l : LiteralForm) → literal_has UnknownName d scope l ≡ false →
      (flaw : Flaw) → literal_has flaw e scope l ≡ literal_has flaw d scope l
  literal_grown scope (Holds a) h flaw = atom_grown scope a h flaw
  literal_grown scope (Fails a) h flaw = atom_grown scope a h flaw
  literal_grown scope (Same one other) h flaw = refl
  literal_grown scope (Differ one other) h flaw = refl

  effect_of_found : Flaw → List Typed → Bool → List (Option Name) → Option PredicateLine → Bool
  effect_of_found flaw scope add args found =
      (use_has flaw (option_map (λ p. length p.sorts) found) (length args)
      || list_any (argument_place_has flaw scope) (zip args (option_map_or (λ p. p.sorts) found [])))
      || list_any (argument_has flaw scope add) args

  effect_grown : (scope : List Typed) (a : EffectLine) → effect_has UnknownName d scope a ≡ false → (flaw : Flaw) →
      effect_has flaw e scope a ≡ effect_has flaw d scope a
  unfolding effect_of_found
  effect_grown scope a h flaw =
      let used = or_parts (use_has UnknownName (arity_named d a.predicate) (length a.args)) (list_any (argument_place_has UnknownName scope) (zip a.args (places_of d a.predicate)))
      (or_parts (use_has UnknownName (arity_named d a.predicate) (length a.args) || list_any (argument_place_has UnknownName scope) (zip a.args (places_of d a.predicate))) (list_any (argument_has UnknownName scope a.add) a.args) h).0 in
      ap (effect_of_found flaw scope a.add a.args) (named_grown a.predicate (length a.args) used.0)

  -- the names that may be meant are those before, and the constants that are new
  scope_grown : (vars : List Typed) → with_constants e vars ≡ with_constants d vars ++ g.more
  scope_grown vars = ap (λ cs. vars ++ cs) g.constants ∙ sym (append_assoc vars d.constants g.more)

  pub literal_same : (vars : List Typed) (l : LiteralForm) →
      ((flaw : Flaw) → literal_has flaw d (with_constants d vars) l ≡ false) → (flaw : Flaw) →
      literal_has flaw e (with_constants e vars) l ≡ false
  literal_same vars l h flaw =
      let scope : List Typed = with_constants d vars in
      let free : literal_has FreeVariable e scope l ≡ false =
      literal_grown scope l (h UnknownName) FreeVariable ∙ h FreeVariable in
      ap (λ names. literal_has flaw e names l) (scope_grown vars) ∙ literal_more e scope g.more flaw l free
      ∙ literal_grown scope l (h UnknownName) flaw ∙ h flaw

  pub effect_same : (vars : List Typed) (a : EffectLine) →
      ((flaw : Flaw) → effect_has flaw d (with_constants d vars) a ≡ false) → (flaw : Flaw) →
      effect_has flaw e (with_constants e vars) a ≡ false
  effect_same vars a h flaw =
      let scope : List Typed = with_constants d vars in
      let free : effect_has FreeVariable e scope a ≡ false =
      effect_grown scope a (h UnknownName) FreeVariable ∙ h FreeVariable in
      ap (λ names. effect_has flaw e names a) (scope_grown vars) ∙ effect_more e scope g.more flaw a free
      ∙ effect_grown scope a (h UnknownName) flaw ∙ h flaw

  pub literals_grown : (vars : List Typed) (ls : List LiteralForm) →
      ((flaw : Flaw) → list_any (literal_has flaw d (with_constants d vars)) ls ≡ false) → (flaw : Flaw) →
      list_any (literal_has flaw e (with_constants e vars)) ls ≡ false
  literals_grown vars ls h flaw =
      none_of (literal_has flaw e (with_constants e vars)) ls
      (λ n l at. literal_same vars l (λ f. list_any-false (literal_has f d (with_constants d vars)) ls (h f) n l at) flaw)

  pub effects_grown : (vars : List Typed) (es : List EffectLine) →
      ((flaw : Flaw) → list_any (effect_has flaw d (with_constants d vars)) es ≡ false) → (flaw : Flaw) →
      list_any (effect_has flaw e (with_constants e vars)) es ≡ false
  effects_grown vars es h flaw =
      none_of (effect_has flaw e (with_constants e vars)) es
      (λ n a at. effect_same vars a (λ f. list_any-false (effect_has f d (with_constants d vars)) es (h f) n a at) flaw)

  pub variables_grown : (vars : List Typed) (flaw : Flaw) → variables_have flaw d vars ≡ false →
      variables_have flaw e vars ≡ false
  variables_grown vars flaw h =
      let parts = or_parts (list_any (λ v. sort_has flaw d v.sort) vars) (list_has flaw (map (λ v. v.name) vars)) h in
      or_from (list_any (λ v. sort_has flaw e v.sort) vars) (list_has flaw (map (λ v. v.name) vars)) (any_weaken (λ v. sort_has flaw d v.sort) (λ v. sort_has flaw e v.sort) vars parts.0 (λ v. sort_grown flaw v.sort)) parts.1

  pub constant_grown : (c : Typed) → IsSoundConstant d c → IsSoundConstant e c
  constant_grown c h = record { flawless = λ flaw. sort_grown flaw c.sort (h.flawless flaw) }

  pub predicate_grown : (p : PredicateLine) → IsSoundPredicate d p → IsSoundPredicate e p
  predicate_grown p h = record { places = h.places; flawless = λ flaw. any_weaken (sort_has flaw d) (sort_has flaw e) p.sorts (h.flawless flaw) (sort_grown flaw) }

  pub clause_grown : (c : ClauseLine) → IsSoundClause d c → IsSoundClause e c
  clause_grown c h = record {
    literal_count = h.literal_count;
    variable_count = h.variable_count;
    variables = λ flaw. variables_grown c.vars flaw (h.variables flaw);
    literals = literals_grown c.vars c.literals h.literals;
  }

  pub operation_grown : (o : OperationLines) → IsSoundOperation d o → IsSoundOperation e o
  operation_grown o h = record {
    parameter_count = h.parameter_count;
    need_count = h.need_count;
    effect_count = h.effect_count;
    parameters = λ flaw. variables_grown o.params flaw (h.parameters flaw);
    needs = literals_grown o.params o.needs h.needs;
    effects = effects_grown o.params o.effects h.effects;
  }

  bound_named : (b : BoundLines) → bound_has UnknownName d b.predicate b.vars b.counted ≡ false →
      predicate_named e b.predicate ≡ predicate_named d b.predicate
  bound_named b h =
      let used = or_parts (use_has UnknownName (arity_named d b.predicate) (length b.vars)) (list_has UnknownName b.vars)
      (or_parts (use_has UnknownName (arity_named d b.predicate) (length b.vars) || list_has UnknownName b.vars) (counted_has UnknownName b.vars b.counted) h).0 in
      named_grown b.predicate (length b.vars) used.0

  pub bound_scope_grown : (b : BoundLines) → bound_has UnknownName d b.predicate b.vars b.counted ≡ false →
      bound_variables e b ≡ bound_variables d b
  bound_scope_grown b h = ap (λ found. typed_by_places b.vars (option_map_or (λ p. p.sorts) found [])) (bound_named b h)

  pub bound_grown : (b : BoundLines) → IsSoundBound d b → IsSoundBound e b
  bound_grown b h = record {
    variable_count = h.variable_count;
    some_size = h.some_size;
    size = h.size;
    remove_count = h.remove_count;
    flawless = λ flaw. ap (λ found. (use_has flaw (option_map (λ p. length p.sorts) found) (length b.vars) || list_has flaw b.vars) || counted_has flaw b.vars b.counted) (bound_named b (h.flawless UnknownName)) ∙ h.flawless flaw;
    removes = λ flaw. subst (λ scope. list_any (effect_has flaw e (with_constants e scope)) b.removes ≡ false) (sym (bound_scope_grown b (h.flawless UnknownName))) (effects_grown (bound_variables d b) b.removes h.removes flaw);
    removing = h.removing;
  }

pub parts_weaken : {X : Type 0} {name_of : X → Name} {most : ℕ} {P Q : X → Type 0} {xs : List X} →
    AreSoundParts name_of most P xs → ((x : X) → P x → Q x) → AreSoundParts name_of most Q xs
parts_weaken {X} {name_of} {most} {P} {Q} {xs} h weaker = record { count = h.count; apart = h.apart; each = each_weaken xs h.each weaker }

pub record Weakened (d e : Declared) : Type 0 where
  pub sorts : AreSoundParts (λ name. name) 8 (λ name. Unit {0}) d.sorts
  pub constants : AreSoundParts (λ c. c.name) 32 (IsSoundConstant e) d.constants
  pub predicates : AreSoundParts (λ p. p.name) 32 (IsSoundPredicate e) d.predicates
  pub clauses : AreSoundParts (λ c. c.name) 32 (IsSoundClause e) d.clauses
  pub operations : AreSoundParts (λ o. o.name) 32 (IsSoundOperation e) d.operations
  pub bounds : AreSoundParts (λ b. b.name) 8 (IsSoundBound e) d.bounds

pub weakened : (d e : Declared) → Grows d e → IsSound d → Weakened d e
weakened d e g h = record {
  sorts = h.sorts;
  constants = parts_weaken h.constants (constant_grown d e g);
  predicates = parts_weaken h.predicates (predicate_grown d e g);
  clauses = parts_weaken h.clauses (clause_grown d e g);
  operations = parts_weaken h.operations (operation_grown d e g);
  bounds = parts_weaken h.bounds (bound_grown d e g);
}
