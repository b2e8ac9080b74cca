-- The elements of a sort begin with its constants.
--
--   more_here, more_other   more names in the list of a number, in that list and in the others
--   begun_next              a line that adds no element and no constant
--   names_sorted            one more sort changes no list of constants
--   begun_constant          a `const` line
--   begun_elements          an `elem` line
--   constant_room           a constant that is not refused has room in its sort
--   constant_new            and its name is new there
use Rattle.std.proofs.Common.{◌≡◌, ℕ, ◌+◌, ◌≤◌, Bool, true, false, cond, ◌||◌, ◌==◌, List, [], ◌∷◌, ◌++◌, length, map, filter, Option, Some, None, refl, sym, ap, subst, ◌∙◌, append_assoc, append-nil, zero, suc, inl, inr, arith}
use Rattle.std.specs.List.{list_any}
use Rattle.std.specs.Option.{option_map_or}
use Rattle.std.proofs.lemmas.Bool.{or_parts, cases_eq, eq-eqb, ne_eqb, not-false}
use Rattle.std.proofs.lemmas.List.{length-map, map-append}
use Rattle.std.proofs.lemmas.List.Elements.{filter-append}
use Rattle.ipa_spec.specs.Faults.{same_name, has_repeat}
use Rattle.ipa_spec.specs.declared.names.Name.{Name}
use Rattle.ipa_forms.specs.declared.forms.Typed.{Typed}
use Rattle.ipa_names.specs.Naming.{is_among, number_in}
use Rattle.ipa_names.specs.Meaning.{sort_number}
use Rattle.ipa_names.specs.Flaws.{sort_has}
use Rattle.ipa_names.specs.Soundness.{IsSound}
use Rattle.ipa_names.specs.ConstantLaws.{numbered_few}
use Rattle.ipa_names.specs.FilterLaws.{filter_same, filter_any}
use Rattle.ipa_names.specs.ListLaws.{any-map, repeat_push}
use Rattle.ipa_names.specs.NumberLaws.{number_below, number_found, number_more}
use Rattle.ipa_names.specs.declared.flaws.Flaw.TheVariants.{UnknownName}
use Rattle.ipa_names.specs.declared.declared.Declared.{Declared}
use Rattle.ipa_reader.specs.Arrangements.{elements_at, elements_of, with_more, with_elements}
use Rattle.ipa_reader.specs.Soundness.{constant_names, AreApart, IsBegun}

pub more_here : (m : ℕ) (names : List Name) (es : List (List Name)) → elements_at (with_more m names es) m ≡ elements_at es m ++ names
more_here zero names [] = refl
more_here zero names (own ∷ others) = refl
more_here (suc m) names [] = more_here m names []
more_here (suc m) names (own ∷ others) = more_here m names others

pub more_other : (m n : ℕ) (names : List Name) (es : List (List Name)) → (m ≡ n → ⊥) → elements_at (with_more m names es) n ≡ elements_at es n
more_other zero zero names es ne = absurd (ne refl)
more_other zero (suc n) names [] ne = refl
more_other zero (suc n) names (own ∷ others) ne = refl
more_other (suc m) zero names [] ne = refl
more_other (suc m) zero names (own ∷ others) ne = refl
more_other (suc m) (suc n) names [] ne = more_other m n names [] (λ e. ne (ap suc e))
more_other (suc m) (suc n) names (own ∷ others) ne = more_other m n names others (λ e. ne (ap suc e))

pub begun_next : (d e : Declared) (es : List (List Name)) (b x : Bool) (n : ℕ) → constant_names e n ≡ constant_names d n → IsBegun d es b n → IsBegun e es (b || x) n
begun_next d e es b x n same h = record {
  later = h.later;
  are = h.are ∙ ap (λ names. names ++ h.later) (sym same);
  none = λ f. h.none (or_parts b x f).0;
}

-- a declared sort
among : (d : Declared) (sort : Name) → sort_has UnknownName d sort ≡ false → is_among d.sorts sort ≡ true
among d sort h = not-false (is_among d.sorts sort) h

sort_place : (d : Declared) (sort : Name) → is_among d.sorts sort ≡ true → number_in d.sorts sort ≡ Some (sort_number d sort)
sort_place d sort h = number_found d.sorts sort (number_below d.sorts sort h)

pub names_sorted : (d : Declared) (name : Name) (n : ℕ) → IsSound d → constant_names (record d { sorts = d.sorts ++ name ∷ [] }) n ≡ constant_names d n
names_sorted d name n h =
    let e : Declared = record d { sorts = d.sorts ++ name ∷ [] } in
    ap (map (λ (c : Typed). c.name))
    (filter_same (λ c. sort_number d c.sort == n) (λ c. sort_number e c.sort == n) d.constants
    (λ k c at. ap (λ m. m == n) (number_more d.sorts (name ∷ []) c.sort (among d c.sort ((h.constants.each.at k c at).flawless UnknownName)))))

-- the constants of a sort with one more constant
names_more : (d : Declared) (c : Typed) (n : ℕ) → constant_names (record d { constants = d.constants ++ c ∷ [] }) n ≡ constant_names d n ++ map (λ (k : Typed). k.name) (cond (sort_number d c.sort == n) (c ∷ []) [])
names_more d c n =
    ap (map (λ (k : Typed). k.name)) (filter-append (λ k. sort_number d k.sort == n) d.constants (c ∷ []))
    ∙ map-append (λ (k : Typed). k.name) (filter (λ k. sort_number d k.sort == n) d.constants) (cond (sort_number d c.sort == n) (c ∷ []) [])

module _ (d : Declared) (es : List (List Name)) (sound : IsSound d) where
  -- before any setup line the elements of a sort are its constants
  pub only_constants : (n : ℕ) (b : Bool) → b ≡ false → IsBegun d es b n → elements_at es n ≡ constant_names d n
  only_constants n b first h = h.are ∙ ap (λ later. constant_names d n ++ later) (h.none first) ∙ append-nil (constant_names d n)

  begun_with : (c : Typed) (b x : Bool) (n : ℕ) → elements_at es n ≡ constant_names d n → IsBegun (record d { constants = d.constants ++ c ∷ [] }) (with_more (sort_number d c.sort) (c.name ∷ []) es) (b || x) n
  begun_with c b x n only =
      let m : ℕ = sort_number d c.sort in
      record {
        later = [];
        are = elim (cases_eq m n) [
          | inl same ↦
              subst (λ k. elements_at (with_more m (c.name ∷ []) es) k ≡ elements_at es k ++ c.name ∷ []) same (more_here m (c.name ∷ []) es)
              ∙ ap (λ names. names ++ c.name ∷ []) only
              ∙ ap (λ t. constant_names d n ++ map (λ (k : Typed). k.name) (cond t (c ∷ []) [])) (sym (eq-eqb m n same))
              ∙ sym (names_more d c n) ∙ sym (append-nil (constant_names (record d { constants = d.constants ++ c ∷ [] }) n))
          | inr other ↦
              more_other m n (c.name ∷ []) es other ∙ only ∙ sym (append-nil (constant_names d n))
              ∙ ap (λ t. constant_names d n ++ map (λ (k : Typed). k.name) (cond t (c ∷ []) [])) (sym (ne_eqb m n other))
              ∙ sym (names_more d c n) ∙ sym (append-nil (constant_names (record d { constants = d.constants ++ c ∷ [] }) n))
        ];
        none = λ e. refl;
      }

  pub begun_constant : (c : Typed) (b x : Bool) (n : ℕ) → sort_has UnknownName d c.sort ≡ false → b ≡ false → IsBegun d es b n → IsBegun (record d { constants = d.constants ++ c ∷ [] }) (with_elements d es c.sort (c.name ∷ [])) (b || x) n
  begun_constant c b x n known first h =
      let place = sort_place d c.sort (among d c.sort known) in
      subst (λ found. IsBegun (record d { constants = d.constants ++ c ∷ [] }) (option_map_or (λ k. with_more k (c.name ∷ []) es) found es) (b || x) n) (sym place)
      (begun_with c b x n (only_constants n b first h))

  begun_at : (names : List Name) (b : Bool) (n : ℕ) (found : Option ℕ) → IsBegun d es b n → IsBegun d (option_map_or (λ m. with_more m names es) found es) (b || true) n
  begun_at names b n None h = begun_next d d es b true n refl h
  begun_at names b n (Some m) h = elim (cases_eq m n) [
    | inl same ↦ record {
      later = h.later ++ names;
      are = subst (λ k. elements_at (with_more m names es) k ≡ elements_at es k ++ names) same (more_here m names es)
          ∙ ap (λ own. own ++ names) h.are ∙ append_assoc (constant_names d n) h.later names;
      none = λ e. cc ((or_parts b true e).1);
    }
    | inr other ↦ record {
      later = h.later;
      are = more_other m n names es other ∙ h.are;
      none = λ e. cc ((or_parts b true e).1);
    }
  ]

  pub begun_elements : (sort : Name) (names : List Name) (b : Bool) (n : ℕ) → IsBegun d es b n → IsBegun d (with_elements d es sort names) (b || true) n
  begun_elements sort names b n h = begun_at names b n (number_in d.sorts sort) h

  -- the elements of the sort of a constant, before any setup line
  own_elements : (sort : Name) (b : Bool) → sort_has UnknownName d sort ≡ false → b ≡ false → ((n : ℕ) → IsBegun d es b n) → elements_of d es sort ≡ constant_names d (sort_number d sort)
  own_elements sort b known first h =
      ap (λ found. option_map_or (elements_at es) found []) (sort_place d sort (among d sort known)) ∙ only_constants (sort_number d sort) b first (h (sort_number d sort))

  pub constant_room : (sort : Name) (b : Bool) → sort_has UnknownName d sort ≡ false → b ≡ false → ((n : ℕ) → IsBegun d es b n) → length (elements_of d es sort) + 1 ≤ 256
  constant_room sort b known first h =
      let few = numbered_few d (λ m c at. among d c.sort ((sound.constants.each.at m c at).flawless UnknownName)) sound.constant_most (sort_number d sort) in
      omega (arith, ap length (own_elements sort b known first h), length-map (filter (λ c. sort_number d c.sort == sort_number d sort) d.constants) (λ c. c.name), few)

  pub constant_new : (c : Typed) (b : Bool) → AreApart es → sort_has UnknownName d c.sort ≡ false → is_among (map (λ k. k.name) d.constants) c.name ≡ false → b ≡ false → ((n : ℕ) → IsBegun d es b n) → has_repeat (λ name. name) (elements_of d es c.sort ++ c.name ∷ []) ≡ false
  constant_new c b apart known new first h =
      let m : ℕ = sort_number d c.sort in
      let own = own_elements c.sort b known first h in
      let once : has_repeat (λ name. name) (elements_of d es c.sort) ≡ false =
      ap (λ found. has_repeat (λ name. name) (option_map_or (elements_at es) found [])) (sort_place d c.sort (among d c.sort known)) ∙ apart.each m in
      let unnamed : list_any (λ (k : Typed). same_name k.name c.name) d.constants ≡ false =
      sym (any-map (λ other. same_name other c.name) (λ (k : Typed). k.name) d.constants) ∙ new in
      let among_few : list_any (λ name. same_name name c.name) (constant_names d m) ≡ false =
      any-map (λ other. same_name other c.name) (λ (k : Typed). k.name) (filter (λ k. sort_number d k.sort == m) d.constants)
      ∙ filter_any (λ (k : Typed). same_name k.name c.name) (λ k. sort_number d k.sort == m) d.constants unnamed in
      repeat_push (λ name. name) (elements_of d es c.sort) c.name once (ap (list_any (λ name. same_name name c.name)) own ∙ among_few)
