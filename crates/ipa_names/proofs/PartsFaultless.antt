-- What is sound by names has no fault by numbers.
--
--   IsNumbered d scope sorts   the variables of a scope have the numbers of their sorts in this list
--   scope_numbered             the variables of a clause or an operation
--   literal_faultless, effect_faultless, variables_faultless, predicate_faultless   the parts
use Rattle.std.proofs.Common.{◌≡◌, ℕ, ◌<◌, ◌≤◌, Bool, true, false, not, ◌||◌, ◌==◌, List, [], ◌∷◌, length, map, Option, Some, None, is_none, refl, sym, ap, subst, ◌∙◌, arith}
use Rattle.std.specs.List.{slice_get, list_any, find, zip}
use Rattle.std.specs.Option.{option_map, option_map_or}
use Rattle.std.proofs.lemmas.Bool.{or_parts, or_from, eq-eqb, not_from_true, not-false}
use Rattle.std.proofs.lemmas.List.{length-map}
use Rattle.std.proofs.lemmas.Option.{same_Some, slice_get_within}
use Rattle.ipa_spec.specs.FoundLaws.{list_any-false}
use Rattle.ipa_spec.specs.Actions.{sorts_of_vars}
use Rattle.ipa_spec.specs.Faults as numbered
use Rattle.ipa_spec.specs.Faults.{same_name}
use Rattle.ipa_spec.specs.declared.faults.FaultKind.{FaultKind}
use Rattle.ipa_spec.specs.declared.faults.FaultKind.TheVariants as kind
use Rattle.ipa_spec.specs.declared.names.Name.{Name}
use Rattle.ipa_spec.specs.Constants.{sort_of_constant, sort_of_term}
use Rattle.ipa_spec.specs.declared.constants.Constant.{Constant}
use Rattle.ipa_spec.specs.declared.constants.Term.{Term}
use Rattle.ipa_spec.specs.declared.constants.Term.TheVariants.{Var as Variable, Const as Fixed}
use Rattle.ipa_spec.specs.declared.specification.Specification.{Specification}
use Rattle.ipa_spec.specs.declared.predicates.Predicate.{Predicate}
use Rattle.ipa_names.specs.Naming.{number_or_count}
use Rattle.ipa_names.specs.Scopes.{predicate_named, places_of, sort_of_variable, with_constants}
use Rattle.ipa_names.specs.Flaws.{use_has, place_has, variable_has, is_elsewhere, arity_named, atom_has, comparison_has, literal_has, argument_place_has, argument_has, effect_has}
use Rattle.ipa_names.specs.Meaning.{three, predicate_number, sort_number, constant_number, variable_number, constant_of, term_of, term_arg, three_terms, predicate_of, var_of, atom_of, literal_of, arg_of, three_args, effect_of, specification_of}
use Rattle.ipa_names.specs.Soundness.{IsSound}
use Rattle.ipa_names.specs.declared.flaws.Flaw.{Flaw}
use Rattle.ipa_names.specs.declared.flaws.Flaw.TheVariants.{Arity, SortMismatch, UnknownName, WildAdd, FreeVariable}
use Rattle.ipa_forms.specs.declared.forms.Typed.{Typed}
use Rattle.ipa_forms.specs.declared.forms.AtomForm.{AtomForm}
use Rattle.ipa_forms.specs.declared.forms.LiteralForm.{LiteralForm}
use Rattle.ipa_forms.specs.declared.forms.LiteralForm.TheVariants.{Holds, Fails, Same, Differ}
use Rattle.ipa_names.specs.declared.declared.PredicateLine.{PredicateLine}
use Rattle.ipa_names.specs.declared.declared.EffectLine.{EffectLine}
use Rattle.ipa_names.specs.declared.declared.Declared.{Declared}
use Rattle.ipa_names.specs.GrowthLaws.{known_use}
use Rattle.ipa_names.specs.ListLaws.{any-map, find_at, found_first, found_behind, found_none, zip_first}
use Rattle.ipa_names.specs.SoundLaws.{as_many}
use Rattle.ipa_names.specs.NumberLaws.{at_number, number_same, number_found, number_absent, slice_get-mapped}

pub record IsNumbered (d : Declared) (scope : List Typed) (sorts : List ℕ) : Type 0 where
  pub each : (name sort : Name) → sort_of_variable scope name ≡ Some sort →
      (n : ℕ) × (variable_number scope name ≡ Some n) × (slice_get sorts n ≡ Some (sort_number d sort))

found_sort : (found : Option Typed) (sort : Name) → option_map (λ v. v.sort) found ≡ Some sort → (v : Typed) × (found ≡ Some v) × (v.sort ≡ sort)
found_sort None sort e = cc
found_sort (Some v) sort e = (v, refl, cc)

pub scope_numbered : (d : Declared) (scope : List Typed) → IsNumbered d scope (sorts_of_vars (map (var_of d) scope))
scope_numbered d scope = record {
  each = λ name sort e.
      let f = found_sort (find (λ v. same_name v.name name) scope) sort e in
      let n : ℕ = number_or_count (map (λ v. v.name) scope) name in
      let at = at_number (λ v. v.name) scope name f.0 f.1 in
      let below : n < length (map (λ v. v.name) scope) = omega (arith, slice_get_within scope n f.0 at, length-map scope (λ v. v.name)) in
      let here = slice_get-mapped (λ v. v.sort) (map (var_of d) scope) n (var_of d f.0) (slice_get-mapped (var_of d) scope n f.0 at) in
      (n, number_found (map (λ v. v.name) scope) name below, subst (λ s. slice_get (sorts_of_vars (map (var_of d) scope)) n ≡ Some (sort_number d s)) f.2 here);
}

some_of : {X : Type 0} (found : Option X) → is_none found ≡ false → (x : X) × (found ≡ Some x)
some_of None h = cc
some_of (Some x) h = (x, refl)

-- a variable that is in a place of its sort
record IsPlaced (scope : List Typed) (name sort : Name) : Type 0 where
  own : Name
  is : sort_of_variable scope name ≡ Some own
  same : same_name own sort ≡ true

elsewhere_not : (found : Option Name) (own sort : Name) → found ≡ Some own → option_map_or (λ o. not (same_name o sort)) found false ≡ false → same_name own sort ≡ true
elsewhere_not found own sort e h = not-false (same_name own sort) (let P : Option Name → Type 0 = λ o. option_map_or (λ x. not (same_name x sort)) o false ≡ false in subst P e h)

placed : (scope : List Typed) (name sort : Name) → variable_has FreeVariable scope name ≡ false → is_elsewhere scope sort name ≡ false → IsPlaced scope name sort
placed scope name sort free home =
    let f = some_of (sort_of_variable scope name) free in
    record { own = f.0; is = f.1; same = elsewhere_not (sort_of_variable scope name) f.0 sort f.1 home }

-- two numbers of one sort
same_numbers : (found : Option ℕ) (n m : ℕ) → found ≡ Some n → n ≡ m → option_map_or (λ sort. not (sort == m)) found false ≡ false
same_numbers found n m e same =
    let equal : (n == m) ≡ true = eq-eqb n m same in
    let P : Option ℕ → Type 0 = λ o. option_map_or (λ sort. not (sort == m)) o false ≡ false in
    subst P (sym e) (not_from_true (n == m) equal)

is_some_number : (found : Option ℕ) (n : ℕ) → found ≡ Some n → is_none found ≡ false
is_some_number found n e = let P : Option ℕ → Type 0 = λ o. is_none o ≡ false in subst P (sym e) refl

-- a term that has a sort is declared
not_free : (s : Specification) (sorts : List ℕ) (t : Term) (n : ℕ) → sort_of_term s sorts t ≡ Some n → numbered.term_free sorts t ≡ false
not_free s sorts (Variable v) n e = is_some_number (slice_get sorts v) n e
not_free s sorts (Fixed k) n e = refl

not_unknown : (s : Specification) (sorts : List ℕ) (t : Term) (n : ℕ) → sort_of_term s sorts t ≡ Some n → numbered.term_unknown s t ≡ false
not_unknown s sorts (Variable v) n e = refl
not_unknown s sorts (Fixed k) n e = is_some_number (sort_of_constant s k) n e

compared : (k : FaultKind) (s : Specification) (sorts : List ℕ) (t u : Term) (n m : ℕ) → sort_of_term s sorts t ≡ Some n → sort_of_term s sorts u ≡ Some m → n ≡ m →
    numbered.comparison_has k s sorts t u ≡ false
compared kind.SortMismatch s sorts t u n m first second same =
    let equal : (n == m) ≡ true = eq-eqb n m same in
    let P : Option ℕ → Option ℕ → Type 0 = λ a b. option_map_or (λ one. option_map_or (λ two. not (one == two)) b false) a false ≡ false in
    subst (λ a. P a (sort_of_term s sorts u)) (sym first) (subst (λ b. P (Some n) b) (sym second) (not_from_true (n == m) equal))
compared kind.FreeVariable s sorts t u n m first second same = or_from _ _ (not_free s sorts t n first) (not_free s sorts u m second)
compared kind.UnknownName s sorts t u n m first second same = or_from _ _ (not_unknown s sorts t n first) (not_unknown s sorts u m second)
compared kind.Arity s sorts t u n m first second same = refl
compared kind.Duplicate s sorts t u n m first second same = refl
compared kind.WildAdd s sorts t u n m first second same = refl

-- a term of a sort, in a place of the same sort
term_clean : (k : FaultKind) (s : Specification) (sorts : List ℕ) (t : Term) (n m : ℕ) → sort_of_term s sorts t ≡ Some n → n ≡ m → numbered.term_has k s sorts m t ≡ false
term_clean kind.SortMismatch s sorts (Variable v) n m e same = same_numbers (slice_get sorts v) n m e same
term_clean kind.FreeVariable s sorts (Variable v) n m e same = is_some_number (slice_get sorts v) n e
term_clean kind.Arity s sorts (Variable v) n m e same = refl
term_clean kind.UnknownName s sorts (Variable v) n m e same = refl
term_clean kind.Duplicate s sorts (Variable v) n m e same = refl
term_clean kind.WildAdd s sorts (Variable v) n m e same = refl
term_clean kind.SortMismatch s sorts (Fixed c) n m e same = same_numbers (sort_of_constant s c) n m e same
term_clean kind.UnknownName s sorts (Fixed c) n m e same = is_some_number (sort_of_constant s c) n e
term_clean kind.Arity s sorts (Fixed c) n m e same = refl
term_clean kind.FreeVariable s sorts (Fixed c) n m e same = refl
term_clean kind.Duplicate s sorts (Fixed c) n m e same = refl
term_clean kind.WildAdd s sorts (Fixed c) n m e same = refl

-- the argument that a term is, in the same place
arg_clean : (k : FaultKind) (s : Specification) (sorts : List ℕ) (add : Bool) (wanted : ℕ) (t : Term) → numbered.term_has k s sorts wanted t ≡ false → numbered.arg_has k s sorts add wanted (term_arg t) ≡ false
arg_clean kind.Arity s sorts add wanted (Variable v) h = h
arg_clean kind.SortMismatch s sorts add wanted (Variable v) h = h
arg_clean kind.UnknownName s sorts add wanted (Variable v) h = h
arg_clean kind.Duplicate s sorts add wanted (Variable v) h = h
arg_clean kind.WildAdd s sorts add wanted (Variable v) h = h
arg_clean kind.FreeVariable s sorts add wanted (Variable v) h = h
arg_clean kind.Arity s sorts add wanted (Fixed c) h = h
arg_clean kind.SortMismatch s sorts add wanted (Fixed c) h = h
arg_clean kind.UnknownName s sorts add wanted (Fixed c) h = h
arg_clean kind.Duplicate s sorts add wanted (Fixed c) h = h
arg_clean kind.WildAdd s sorts add wanted (Fixed c) h = h
arg_clean kind.FreeVariable s sorts add wanted (Fixed c) h = h

module _ (d : Declared) (h : IsSound d) (scope : List Typed) (sorts : List ℕ) (at : IsNumbered d scope sorts) where
  -- what a name means has the sort of the name
  named_term : (name own : Name) → sort_of_variable (with_constants d scope) name ≡ Some own → sort_of_term (specification_of d) sorts (term_of d scope name) ≡ Some (sort_number d own)
  named_term name own e = step (find (λ v. same_name v.name name) scope) refl
    where
      step : (found : Option Typed) → find (λ v. same_name v.name name) scope ≡ found → sort_of_term (specification_of d) sorts (term_of d scope name) ≡ Some (sort_number d own)
      step (Some v) is =
          let first : sort_of_variable (with_constants d scope) name ≡ Some v.sort = ap (option_map (λ (w : Typed). w.sort)) (found_first (λ w. same_name w.name name) scope d.constants v is) in
          let same : v.sort ≡ own = same_Some v.sort own (sym first ∙ e) in
          let n = at.each name own (ap (option_map (λ (w : Typed). w.sort)) is ∙ ap (λ s. Some s) same) in
          ap (λ found. sort_of_term (specification_of d) sorts (option_map_or (λ v. Variable v) found (Fixed (constant_number d name)))) n.1 ∙ n.2
      step None is =
          let absent : variable_number scope name ≡ None = number_absent (map (λ v. v.name) scope) name (any-map (λ other. same_name other name) (λ (v : Typed). v.name) scope ∙ found_none (λ v. same_name v.name name) scope is) in
          let c = found_sort (find (λ v. same_name v.name name) d.constants) own (ap (option_map (λ (w : Typed). w.sort)) (sym (found_behind (λ v. same_name v.name name) scope d.constants is)) ∙ e) in
          let here = slice_get-mapped (constant_of d) d.constants (constant_number d name) c.0 (at_number (λ v. v.name) d.constants name c.0 c.1) in
          let fixed : sort_of_constant (specification_of d) (constant_number d name) ≡ Some (sort_number d own) = ap (option_map (λ (k : Constant). k.sort)) here ∙ ap (λ s. Some (sort_number d s)) c.2 in
          ap (λ found. sort_of_term (specification_of d) sorts (option_map_or (λ v. Variable v) found (Fixed (constant_number d name)))) absent ∙ fixed

  term_faultless : (k : FaultKind) (name sort : Name) → IsPlaced (with_constants d scope) name sort → numbered.term_has k (specification_of d) sorts (sort_number d sort) (term_of d scope name) ≡ false
  term_faultless k name sort p = term_clean k (specification_of d) sorts (term_of d scope name) (sort_number d p.own) (sort_number d sort) (named_term name p.own p.is) (number_same d.sorts p.own sort p.same)

  unused_number : (k : FaultKind) → numbered.unused_has k (0 == 0) ≡ false
  unused_number kind.Arity = refl
  unused_number kind.SortMismatch = refl
  unused_number kind.UnknownName = refl
  unused_number kind.Duplicate = refl
  unused_number kind.WildAdd = refl
  unused_number kind.FreeVariable = refl

  -- the places of an atom, by the lists of its places and arguments
  places_faultless : (k : FaultKind) (p : PredicateLine) (number : ℕ) (ss vs : List Name) → length ss ≤ 3 → length ss ≡ length vs → ((n : ℕ) (v s : Name) → slice_get (zip vs ss) n ≡ Some (v, s) → IsPlaced (with_constants d scope) v s) →
      numbered.some_place (numbered.atom_place_has k (specification_of d) sorts
      (record { name = p.name; arity = length ss; sorts = three (map (sort_number d) ss); rule = p.rule })
      (record { predicate = number; args = three_terms (map (term_of d scope) vs) })) ≡ false
  places_faultless k p number [] [] short same put = or_from _ _ (or_from _ _ (unused_number k) (unused_number k)) (unused_number k)
  places_faultless k p number [] (v ∷ vs) short same put = absurd (omega arith)
  places_faultless k p number (s ∷ ss) [] short same put = absurd (omega arith)
  places_faultless k p number (s ∷ []) (v ∷ []) short same put = or_from _ _ (or_from _ _ (term_faultless k v s (put 0 v s refl)) (unused_number k)) (unused_number k)
  places_faultless k p number (s ∷ []) (v ∷ w ∷ vs) short same put = absurd (omega arith)
  places_faultless k p number (s ∷ t ∷ ss) (v ∷ []) short same put = absurd (omega arith)
  places_faultless k p number (s ∷ t ∷ []) (v ∷ w ∷ []) short same put = or_from _ _ (or_from _ _ (term_faultless k v s (put 0 v s refl)) (term_faultless k w t (put 1 w t refl))) (unused_number k)
  places_faultless k p number (s ∷ t ∷ []) (v ∷ w ∷ x ∷ vs) short same put = absurd (omega arith)
  places_faultless k p number (s ∷ t ∷ r ∷ ss) (v ∷ w ∷ []) short same put = absurd (omega arith)
  places_faultless k p number (s ∷ t ∷ r ∷ []) (v ∷ w ∷ x ∷ []) short same put = or_from _ _ (or_from _ _ (term_faultless k v s (put 0 v s refl)) (term_faultless k w t (put 1 w t refl))) (term_faultless k x r (put 2 x r refl))
  places_faultless k p number (s ∷ t ∷ r ∷ []) (v ∷ w ∷ x ∷ y ∷ vs) short same put = absurd (omega arith)
  places_faultless k p number (s ∷ t ∷ r ∷ q ∷ ss) vs short same put = absurd (omega arith)

  -- what an atom or an effect uses is declared, and takes as many arguments
  atom_faultless : (a : AtomForm) → ((flaw : Flaw) → atom_has flaw d (with_constants d scope) a ≡ false) → (k : FaultKind) → numbered.atom_has k (specification_of d) sorts (atom_of d scope a) ≡ false
  atom_faultless a flawless k =
      let front = λ (flaw : Flaw). or_parts (use_has flaw (arity_named d a.predicate) (length a.args) || list_any (place_has flaw (with_constants d scope)) (zip a.args (places_of d a.predicate))) (list_any (variable_has flaw (with_constants d scope)) a.args) (flawless flaw) in
      let parts = λ (flaw : Flaw). or_parts (use_has flaw (arity_named d a.predicate) (length a.args)) (list_any (place_has flaw (with_constants d scope)) (zip a.args (places_of d a.predicate))) (front flaw).0 in
      let known = known_use (predicate_named d a.predicate) (length a.args) (parts UnknownName).0 in
      let p = known.0 in
      let many : length p.sorts ≡ length a.args = as_many (predicate_named d a.predicate) p (length a.args) known.1 (parts Arity).0 in
      let places : places_of d a.predicate ≡ p.sorts = ap (λ found. option_map_or (λ q. q.sorts) found []) known.1 in
      let stands = find_at (λ q. same_name q.name a.predicate) d.predicates p known.1 in
      let short = (h.predicates.each.at stands.0 p stands.1).places in
      let home : list_any (place_has SortMismatch (with_constants d scope)) (zip a.args p.sorts) ≡ false = subst (λ ss. list_any (place_has SortMismatch (with_constants d scope)) (zip a.args ss) ≡ false) places (parts SortMismatch).1 in
      let put = λ (n : ℕ) (v s : Name) (e : slice_get (zip a.args p.sorts) n ≡ Some (v, s)).
      placed (with_constants d scope) v s (list_any-false (variable_has FreeVariable (with_constants d scope)) a.args (front FreeVariable).1 n v (zip_first a.args p.sorts n v s e)) (list_any-false (place_has SortMismatch (with_constants d scope)) (zip a.args p.sorts) home n (v, s) e) in
      let here = slice_get-mapped (predicate_of d) d.predicates (predicate_number d a.predicate) p (at_number (λ q. q.name) d.predicates a.predicate p known.1) in
      let Q : Option Predicate → Type 0 = λ found. option_map_or (λ q. numbered.some_place (numbered.atom_place_has k (specification_of d) sorts q (atom_of d scope a))) found (numbered.undeclared_has k) ≡ false in
      subst Q (sym here) (places_faultless k p (predicate_number d a.predicate) p.sorts a.args short many put)

  comparison_faultless : (one other : Name) → ((flaw : Flaw) → comparison_has flaw (with_constants d scope) one other ≡ false) → (k : FaultKind) → numbered.comparison_has k (specification_of d) sorts (term_of d scope one) (term_of d scope other) ≡ false
  comparison_faultless one other flawless k =
      let free = or_parts (variable_has FreeVariable (with_constants d scope) one) (variable_has FreeVariable (with_constants d scope) other) (flawless FreeVariable) in
      let first = some_of (sort_of_variable (with_constants d scope) one) free.0 in
      let second = some_of (sort_of_variable (with_constants d scope) other) free.1 in
      let home : is_elsewhere (with_constants d scope) first.0 other ≡ false = (let Q : Option Name → Type 0 = λ found. option_map_or (λ sort. is_elsewhere (with_constants d scope) sort other) found false ≡ false in subst Q first.1 (flawless SortMismatch)) in
      let same = elsewhere_not (sort_of_variable (with_constants d scope) other) second.0 first.0 second.1 home in
      compared k (specification_of d) sorts (term_of d scope one) (term_of d scope other) (sort_number d first.0) (sort_number d second.0) (named_term one first.0 first.1) (named_term other second.0 second.1) (sym (number_same d.sorts second.0 first.0 same))

  pub literal_faultless : (l : LiteralForm) → ((flaw : Flaw) → literal_has flaw d (with_constants d scope) l ≡ false) → (k : FaultKind) → numbered.literal_has k (specification_of d) sorts (literal_of d scope l) ≡ false
  literal_faultless (Holds a) flawless k = atom_faultless a flawless k
  literal_faultless (Fails a) flawless k = atom_faultless a flawless k
  literal_faultless (Same one other) flawless k = comparison_faultless one other flawless k
  literal_faultless (Differ one other) flawless k = comparison_faultless one other flawless k

  named_argument : (k : FaultKind) (add : Bool) (name sort : Name) → IsPlaced (with_constants d scope) name sort → numbered.arg_has k (specification_of d) sorts add (sort_number d sort) (arg_of d scope (Some name)) ≡ false
  named_argument k add name sort p = arg_clean k (specification_of d) sorts add (sort_number d sort) (term_of d scope name) (term_faultless k name sort p)

  argument_faultless : (add : Bool) (argument : Option Name) (sort : Name) → argument_place_has SortMismatch (with_constants d scope) (argument, sort) ≡ false → ((flaw : Flaw) → argument_has flaw (with_constants d scope) add argument ≡ false) → (k : FaultKind) → numbered.arg_has k (specification_of d) sorts add (sort_number d sort) (arg_of d scope argument) ≡ false
  argument_faultless add (Some name) sort home flawless k = named_argument k add name sort (placed (with_constants d scope) name sort (flawless FreeVariable) home)
  argument_faultless add None sort home flawless kind.WildAdd = flawless WildAdd
  argument_faultless add None sort home flawless kind.Arity = refl
  argument_faultless add None sort home flawless kind.SortMismatch = refl
  argument_faultless add None sort home flawless kind.UnknownName = refl
  argument_faultless add None sort home flawless kind.Duplicate = refl
  argument_faultless add None sort home flawless kind.FreeVariable = refl

  effect_places_faultless : (k : FaultKind) (p : PredicateLine) (add : Bool) (number : ℕ) (ss : List Name) (vs : List (Option Name)) → length ss ≤ 3 → length ss ≡ length vs → ((n : ℕ) (v : Option Name) (s : Name) → slice_get (zip vs ss) n ≡ Some (v, s) → numbered.arg_has k (specification_of d) sorts add (sort_number d s) (arg_of d scope v) ≡ false) →
      numbered.some_place (numbered.effect_place_has k (specification_of d) sorts (record { name = p.name; arity = length ss; sorts = three (map (sort_number d) ss); rule = p.rule }) (record { add = add; predicate = number; args = three_args (map (arg_of d scope) vs) })) ≡ false
  effect_places_faultless k p add number [] [] short same put = or_from _ _ (or_from _ _ (unused_number k) (unused_number k)) (unused_number k)
  effect_places_faultless k p add number [] (v ∷ vs) short same put = absurd (omega arith)
  effect_places_faultless k p add number (s ∷ ss) [] short same put = absurd (omega arith)
  effect_places_faultless k p add number (s ∷ []) (v ∷ []) short same put = or_from _ _ (or_from _ _ (put 0 v s refl) (unused_number k)) (unused_number k)
  effect_places_faultless k p add number (s ∷ []) (v ∷ w ∷ vs) short same put = absurd (omega arith)
  effect_places_faultless k p add number (s ∷ t ∷ ss) (v ∷ []) short same put = absurd (omega arith)
  effect_places_faultless k p add number (s ∷ t ∷ []) (v ∷ w ∷ []) short same put = or_from _ _ (or_from _ _ (put 0 v s refl) (put 1 w t refl)) (unused_number k)
  effect_places_faultless k p add number (s ∷ t ∷ []) (v ∷ w ∷ x ∷ vs) short same put = absurd (omega arith)
  effect_places_faultless k p add number (s ∷ t ∷ r ∷ ss) (v ∷ w ∷ []) short same put = absurd (omega arith)
  effect_places_faultless k p add number (s ∷ t ∷ r ∷ []) (v ∷ w ∷ x ∷ []) short same put = or_from _ _ (or_from _ _ (put 0 v s refl) (put 1 w t refl)) (put 2 x r refl)
  effect_places_faultless k p add number (s ∷ t ∷ r ∷ []) (v ∷ w ∷ x ∷ y ∷ vs) short same put = absurd (omega arith)
  effect_places_faultless k p add number (s ∷ t ∷ r ∷ q ∷ ss) vs short same put = absurd (omega arith)

  pub effect_faultless : (a : EffectLine) → ((flaw : Flaw) → effect_has flaw d (with_constants d scope) a ≡ false) → (k : FaultKind) → numbered.effect_has k (specification_of d) sorts (effect_of d scope a) ≡ false
  effect_faultless a flawless k =
      let front = λ (flaw : Flaw). or_parts (use_has flaw (arity_named d a.predicate) (length a.args) || list_any (argument_place_has flaw (with_constants d scope)) (zip a.args (places_of d a.predicate))) (list_any (argument_has flaw (with_constants d scope) a.add) a.args) (flawless flaw) in
      let parts = λ (flaw : Flaw). or_parts (use_has flaw (arity_named d a.predicate) (length a.args)) (list_any (argument_place_has flaw (with_constants d scope)) (zip a.args (places_of d a.predicate))) (front flaw).0 in
      let known = known_use (predicate_named d a.predicate) (length a.args) (parts UnknownName).0 in
      let p = known.0 in
      let many : length p.sorts ≡ length a.args = as_many (predicate_named d a.predicate) p (length a.args) known.1 (parts Arity).0 in
      let places : places_of d a.predicate ≡ p.sorts = ap (λ found. option_map_or (λ q. q.sorts) found []) known.1 in
      let stands = find_at (λ q. same_name q.name a.predicate) d.predicates p known.1 in
      let short = (h.predicates.each.at stands.0 p stands.1).places in
      let home : list_any (argument_place_has SortMismatch (with_constants d scope)) (zip a.args p.sorts) ≡ false = subst (λ ss. list_any (argument_place_has SortMismatch (with_constants d scope)) (zip a.args ss) ≡ false) places (parts SortMismatch).1 in
      let put = λ (n : ℕ) (v : Option Name) (s : Name) (e : slice_get (zip a.args p.sorts) n ≡ Some (v, s)).
      argument_faultless a.add v s (list_any-false (argument_place_has SortMismatch (with_constants d scope)) (zip a.args p.sorts) home n (v, s) e) (λ flaw. list_any-false (argument_has flaw (with_constants d scope) a.add) a.args (front flaw).1 n v (zip_first a.args p.sorts n v s e)) k in
      let here = slice_get-mapped (predicate_of d) d.predicates (predicate_number d a.predicate) p (at_number (λ q. q.name) d.predicates a.predicate p known.1) in
      let Q : Option Predicate → Type 0 = λ found. option_map_or (λ q. numbered.some_place (numbered.effect_place_has k (specification_of d) sorts q (effect_of d scope a))) found (numbered.undeclared_has k) ≡ false in
      subst Q (sym here) (effect_places_faultless k p a.add (predicate_number d a.predicate) p.sorts a.args short many put)
