-- What is said with a line that is not refused fits what is declared.
--
--   size_at                        the size of a sort is the number of its elements
--   fact_larger, request_larger    what fits a universe fits a larger one
--   sizes_grown                    more elements of a sort make a larger universe
--   fact_fits, do_fits, show_fits  a fact and a request that are said
use Rattle.std.proofs.Common.{◌≡◌, ℕ, ◌<◌, ◌≤◌, false, true, List, [], ◌∷◌, ◌++◌, length, map, Option, Some, None, unwrap_or, refl, sym, ap, subst, ◌∙◌, zero, suc, inl, inr, arith}
use Rattle.std.specs.List.{slice_get, slice_index, slice_index_or, list_any, zip}
use Rattle.std.specs.Option.{option_map_or}
use Rattle.std.proofs.lemmas.Bool.{cases_eq, not-false}
use Rattle.std.proofs.lemmas.List.{length-map, length-append}
use Rattle.std.proofs.lemmas.Option.{slice_get_within, get_or_from_slice_get}
use Rattle.ipa_spec.specs.Actions.{sorts_of, sorts_of_vars}
use Rattle.ipa_spec.specs.Faults.{same_name}
use Rattle.ipa_spec.specs.FoundLaws.{list_any-false, none_of}
use Rattle.ipa_spec.specs.declared.names.Name.{Name}
use Rattle.ipa_spec.specs.declared.operations.Action.TheVariants.{Op}
use Rattle.ipa_spec.specs.declared.specification.Specification.{Specification}
use Rattle.ipa_logic.specs.Facts.{Universe, size_of, IsFact}
use Rattle.ipa_logic.specs.FitLaws.{three-at, three-past}
use Rattle.ipa_logic.specs.Truth.{IsOver}
use Rattle.ipa_logic.specs.Requests.{IsRequest}
use Rattle.ipa_logic.specs.declared.facts.Fact.{Fact}
use Rattle.ipa_logic.specs.declared.facts.Request.{Request}
use Rattle.ipa_logic.specs.declared.facts.Request.TheVariants as request
use Rattle.ipa_forms.specs.declared.forms.Typed.{Typed}
use Rattle.ipa_names.specs.Naming.{is_among, number_in, number_or_count}
use Rattle.ipa_names.specs.Meaning.{sort_number, predicate_number, predicate_of, var_of, operation_of, specification_of}
use Rattle.ipa_names.specs.NumberLaws.{at_number, number_below, slice_get-mapped}
use Rattle.ipa_names.specs.ListLaws.{find_at}
use Rattle.ipa_names.specs.Scopes.{predicate_named, operation_named, places_of}
use Rattle.ipa_names.specs.Soundness.{IsSound}
use Rattle.ipa_names.specs.declared.declared.PredicateLine.{PredicateLine}
use Rattle.ipa_names.specs.declared.declared.OperationLines.{OperationLines}
use Rattle.ipa_names.specs.declared.declared.Declared.{Declared}
use Rattle.ipa_reader.specs.Arrangements.{elements_at, elements_of, element_number, element_numbers, four, with_more, with_elements, fact_said, do_said, show_said, wanted_number, parameter_sorts, operation_number}
use Rattle.ipa_reader.specs.Refusals.{is_no_element, is_no_wanted}
use Rattle.ipa_reader.specs.Setups.{element_count, size_list}
use Rattle.ipa_reader.specs.declared.standing.Standing.{Standing}
use Rattle.ipa_reader.proofs.SoundConstants.{more_here, more_other}

elements_past : (es : List (List Name)) (n : ℕ) → length es ≤ n → elements_at es n ≡ []
elements_past [] n l = refl
elements_past (x ∷ es) zero l = absurd (omega arith)
elements_past (x ∷ es) (suc n) l = elements_past es n (omega arith)

pub size_at : (es : List (List Name)) → length es ≤ 8 → (sort : ℕ) → size_of (size_list es) sort ≡ element_count es sort
size_at es l zero = refl
size_at es l (suc zero) = refl
size_at es l (suc (suc zero)) = refl
size_at es l (suc (suc (suc zero))) = refl
size_at es l (suc (suc (suc (suc zero)))) = refl
size_at es l (suc (suc (suc (suc (suc zero))))) = refl
size_at es l (suc (suc (suc (suc (suc (suc zero)))))) = refl
size_at es l (suc (suc (suc (suc (suc (suc (suc zero))))))) = refl
size_at es l (suc (suc (suc (suc (suc (suc (suc (suc n)))))))) =
    sym (ap length (elements_past es (suc (suc (suc (suc (suc (suc (suc (suc n)))))))) (omega (arith, l))))

-- no sort has fewer elements
abbrev pub IsLarger : Universe → Universe → Type 0
IsLarger small large = (sort : ℕ) → size_of small sort ≤ size_of large sort

pub fact_larger : (s : Specification) (small large : Universe) → IsLarger small large → (f : Fact) → IsFact s small f → IsFact s large f
fact_larger s small large grows f h = record {
  predicate = h.predicate;
  declared = h.declared;
  elements = λ k l. omega (arith, h.elements k l, grows (slice_index h.predicate.sorts k));
  unused = h.unused;
  width = h.width;
}

pub request_larger : (s : Specification) (small large : Universe) → IsLarger small large → (r : Request) → IsRequest s small r → IsRequest s large r
request_larger s small large grows (request.Do op args) h = record {
  declared = h.declared;
  arguments = record {
    elements = λ v sort e. omega (arith, h.arguments.elements v sort e, grows sort);
    unused = h.arguments.unused;
    width = h.arguments.width;
  };
}
request_larger s small large grows (request.Show n places) h = record {
  predicate = h.predicate;
  declared = h.declared;
  elements = λ k x l e. omega (arith, h.elements k x l e, grows (slice_index h.predicate.sorts k));
  unused = h.unused;
}

count_more : (m n : ℕ) (names : List Name) (es : List (List Name)) → element_count es n ≤ element_count (with_more m names es) n
count_more m n names es = elim (cases_eq m n) [
  | inl same ↦
      let here = subst (λ k. elements_at (with_more m names es) k ≡ elements_at es k ++ names) same (more_here m names es) in
      omega (arith, ap length here, length-append (elements_at es n) names)
  | inr other ↦ omega (arith, ap length (more_other m n names es other))
]

count_found : (names : List Name) (es : List (List Name)) (n : ℕ) (found : Option ℕ) → element_count es n ≤ element_count (option_map_or (λ m. with_more m names es) found es) n
count_found names es n None = omega arith
count_found names es n (Some m) = count_more m n names es

pub sizes_grown : (d : Declared) (es : List (List Name)) (sort : Name) (names : List Name) → length es ≤ 8 → length (with_elements d es sort names) ≤ 8 → IsLarger (size_list es) (size_list (with_elements d es sort names))
sizes_grown d es sort names few many n =
    omega (arith, size_at es few n, size_at (with_elements d es sort names) many n, count_found names es n (number_in d.sorts sort))

-- four numbers in their places
four-at : (f : ℕ → ℕ) (k : ℕ) → k < 4 → slice_index (f 0 ∷ f 1 ∷ f 2 ∷ f 3 ∷ []) k ≡ f k
four-at f zero h = refl
four-at f (suc zero) h = refl
four-at f (suc (suc zero)) h = refl
four-at f (suc (suc (suc zero))) h = refl
four-at f (suc (suc (suc (suc k)))) h = absurd (omega arith)

four-past : (f : ℕ → ℕ) (n k : ℕ) → ((j : ℕ) → n ≤ j → f j ≡ 0) → n ≤ k → slice_index (f 0 ∷ f 1 ∷ f 2 ∷ f 3 ∷ []) k ≡ 0
four-past f n zero z h = z 0 h
four-past f n (suc zero) z h = z 1 h
four-past f n (suc (suc zero)) z h = z 2 h
four-past f n (suc (suc (suc zero))) z h = z 3 h
four-past f n (suc (suc (suc (suc k)))) z h = refl

three_wanted-at : (f : ℕ → Option ℕ) (k : ℕ) → k < 3 → slice_index_or (f 0 ∷ f 1 ∷ f 2 ∷ []) k None ≡ f k
three_wanted-at f zero h = refl
three_wanted-at f (suc zero) h = refl
three_wanted-at f (suc (suc zero)) h = refl
three_wanted-at f (suc (suc (suc k))) h = absurd (omega arith)

three_wanted-past : (f : ℕ → Option ℕ) (n k : ℕ) → ((j : ℕ) → n ≤ j → f j ≡ None) → n ≤ k → slice_index_or (f 0 ∷ f 1 ∷ f 2 ∷ []) k None ≡ None
three_wanted-past f n zero z h = z 0 h
three_wanted-past f n (suc zero) z h = z 1 h
three_wanted-past f n (suc (suc zero)) z h = z 2 h
three_wanted-past f n (suc (suc (suc k))) z h = refl

-- past the end of a list of pairs there is nothing
past_pairs : {X Y Z : Type 0} (g : X × Y → Z) (xs : List X) (ys : List Y) (none : Z) (k : ℕ) → length ys ≤ k → slice_index_or (map g (zip xs ys)) k none ≡ none
past_pairs g [] ys none k l = refl
past_pairs g (x ∷ xs) [] none k l = refl
past_pairs g (x ∷ xs) (y ∷ ys) none zero l = absurd (omega arith)
past_pairs g (x ∷ xs) (y ∷ ys) none (suc k) l = past_pairs g xs ys none k (omega arith)

module _ (s : Standing) (h : IsSound s.declared) (lists : length s.arranged.elements ≤ 8) where
  -- a declared element is one of its sort
  below : (name sort : Name) → is_among (elements_of s.declared s.arranged.elements sort) name ≡ true → element_number s.declared s.arranged.elements sort name < size_of (size_list s.arranged.elements) (sort_number s.declared sort)
  below name sort e = step (number_in s.declared.sorts sort) e
    where
      step : (found : Option ℕ) → is_among (option_map_or (elements_at s.arranged.elements) found []) name ≡ true →
          number_or_count (option_map_or (elements_at s.arranged.elements) found []) name < size_of (size_list s.arranged.elements) (unwrap_or found (length s.declared.sorts))
      step None g = cc
      step (Some m) g =
          subst (λ n. number_or_count (elements_at s.arranged.elements m) name < n) (sym (size_at s.arranged.elements lists m))
          (number_below (elements_at s.arranged.elements m) name g)

  placed : (names sorts : List Name) → list_any (is_no_element s) (zip names sorts) ≡ false → (n : ℕ) (name sort : Name) → slice_get (zip names sorts) n ≡ Some (name, sort) →
      element_number s.declared s.arranged.elements sort name < size_of (size_list s.arranged.elements) (sort_number s.declared sort)
  placed names sorts e n name sort at =
      below name sort (not-false (is_among (elements_of s.declared s.arranged.elements sort) name) (list_any-false (is_no_element s) (zip names sorts) e n (name, sort) at))

  -- the numbers of elements in places of their sorts
  numbers_below : (names sorts : List Name) → length sorts ≡ length names →
      ((n : ℕ) (name sort : Name) → slice_get (zip names sorts) n ≡ Some (name, sort) → element_number s.declared s.arranged.elements sort name < size_of (size_list s.arranged.elements) (sort_number s.declared sort)) →
      (k : ℕ) → k < length sorts → slice_index_or (element_numbers s.declared s.arranged.elements sorts names) k 0 < size_of (size_list s.arranged.elements) (slice_index_or (map (sort_number s.declared) sorts) k 0)
  numbers_below [] [] same put k l = absurd (omega arith)
  numbers_below [] (t ∷ sorts) same put k l = absurd (omega arith)
  numbers_below (v ∷ names) [] same put k l = absurd (omega arith)
  numbers_below (v ∷ names) (t ∷ sorts) same put zero l = put 0 v t refl
  numbers_below (v ∷ names) (t ∷ sorts) same put (suc k) l = numbers_below names sorts (omega arith) (λ n name sort e. put (suc n) name sort e) k (omega arith)

  pub fact_fits : (predicate : Name) (names : List Name) (p : PredicateLine) → predicate_named s.declared predicate ≡ Some p → length p.sorts ≡ length names →
      list_any (is_no_element s) (zip names (places_of s.declared predicate)) ≡ false → IsFact (specification_of s.declared) (size_list s.arranged.elements) (fact_said s.declared s.arranged.elements predicate names)
  fact_fits predicate names p named many missing =
      let places : places_of s.declared predicate ≡ p.sorts = ap (λ found. option_map_or (λ q. q.sorts) found []) named in
      let stands = find_at (λ q. same_name q.name predicate) s.declared.predicates p named in
      let short = (h.predicates.each.at stands.0 p stands.1).places in
      let ns : List ℕ = element_numbers s.declared s.arranged.elements (places_of s.declared predicate) names in
      let is : ns ≡ element_numbers s.declared s.arranged.elements p.sorts names = ap (λ ss. element_numbers s.declared s.arranged.elements ss names) places in
      let put = placed names p.sorts (subst (λ ss. list_any (is_no_element s) (zip names ss) ≡ false) places missing) in
      record {
        predicate = predicate_of s.declared p;
        declared = slice_get-mapped (predicate_of s.declared) s.declared.predicates (predicate_number s.declared predicate) p (at_number (λ q. q.name) s.declared.predicates predicate p named);
        elements = λ k l.
            let within : k < 3 = omega (arith, l, short) in
            let sort = three-at (λ j. slice_index_or (map (sort_number s.declared) p.sorts) j 0) k within in
            let number = three-at (λ j. slice_index_or ns j 0) k within ∙ ap (λ ms. slice_index_or ms k 0) is in
            subst (λ n. slice_index (fact_said s.declared s.arranged.elements predicate names).args k < size_of (size_list s.arranged.elements) n) (sym sort)
            (subst (λ n. n < size_of (size_list s.arranged.elements) (slice_index_or (map (sort_number s.declared) p.sorts) k 0)) (sym number) (numbers_below names p.sorts many put k l));
        unused = λ k l. three-past (λ j. slice_index_or ns j 0) (length p.sorts) k (λ j past. ap (λ ms. slice_index_or ms j 0) is ∙ past_pairs (λ q. element_number s.declared s.arranged.elements q.1 q.0) names p.sorts 0 j past) l;
        width = refl;
      }

  -- the numbers of the sorts of variables
  sorts_numbered : (vars : List Typed) → sorts_of_vars (map (var_of s.declared) vars) ≡ map (sort_number s.declared) (map (λ v. v.sort) vars)
  sorts_numbered [] = refl
  sorts_numbered (v ∷ vars) = ap (λ rest. sort_number s.declared v.sort ∷ rest) (sorts_numbered vars)

  over_fits : (names sorts : List Name) → length sorts ≡ length names → length sorts ≤ 4 → list_any (is_no_element s) (zip names sorts) ≡ false → (ns : List ℕ) → ns ≡ element_numbers s.declared s.arranged.elements sorts names →
      IsOver (size_list s.arranged.elements) (map (sort_number s.declared) sorts) (slice_index_or ns 0 0 ∷ slice_index_or ns 1 0 ∷ slice_index_or ns 2 0 ∷ slice_index_or ns 3 0 ∷ [])
  over_fits names sorts many short missing ns is = record {
    elements = λ v sort e.
        let within : v < length sorts = omega (arith, slice_get_within (map (sort_number s.declared) sorts) v sort e, length-map sorts (sort_number s.declared)) in
        let own : slice_index_or (map (sort_number s.declared) sorts) v 0 ≡ sort = get_or_from_slice_get (map (sort_number s.declared) sorts) v sort 0 e in
        let number = four-at (λ j. slice_index_or ns j 0) v (omega (arith, within, short)) ∙ ap (λ ms. slice_index_or ms v 0) is in
        subst (λ n. slice_index (slice_index_or ns 0 0 ∷ slice_index_or ns 1 0 ∷ slice_index_or ns 2 0 ∷ slice_index_or ns 3 0 ∷ []) v < size_of (size_list s.arranged.elements) n) own
        (subst (λ n. n < size_of (size_list s.arranged.elements) (slice_index_or (map (sort_number s.declared) sorts) v 0)) (sym number) (numbers_below names sorts many (placed names sorts missing) v within));
    unused = λ v l.
        four-past (λ j. slice_index_or ns j 0) (length sorts) v (λ j past. ap (λ ms. slice_index_or ms j 0) is ∙ past_pairs (λ q. element_number s.declared s.arranged.elements q.1 q.0) names sorts 0 j past)
        (omega (arith, l, length-map sorts (sort_number s.declared)));
    width = refl;
  }

  pub do_fits : (operation : Name) (names : List Name) (o : OperationLines) → operation_named s.declared operation ≡ Some o → length o.params ≡ length names →
      list_any (is_no_element s) (zip names (parameter_sorts s.declared operation)) ≡ false → IsRequest (specification_of s.declared) (size_list s.arranged.elements) (do_said s.declared s.arranged.elements operation names)
  do_fits operation names o named many missing =
      let sorts : List Name = map (λ v. v.sort) o.params in
      let own : parameter_sorts s.declared operation ≡ sorts = ap (λ found. option_map_or (λ p. map (λ v. v.sort) p.params) found []) named in
      let stands = find_at (λ q. same_name q.name operation) s.declared.operations o named in
      let short = (h.operations.each.at stands.0 o stands.1).parameter_count in
      let here = slice_get-mapped (operation_of s.declared) s.declared.operations (operation_number s.declared operation) o (at_number (λ q. q.name) s.declared.operations operation o named) in
      let of : sorts_of (specification_of s.declared) (Op (operation_number s.declared operation)) ≡ map (sort_number s.declared) sorts =
      ap (λ found. option_map_or (λ p. sorts_of_vars p.params) found []) here ∙ sorts_numbered o.params in
      record {
        declared = slice_get_within (map (operation_of s.declared) s.declared.operations) (operation_number s.declared operation) (operation_of s.declared o) here;
        arguments = subst (λ ss. IsOver (size_list s.arranged.elements) ss (four (element_numbers s.declared s.arranged.elements (parameter_sorts s.declared operation) names))) (sym of)
            (over_fits names sorts (length-map o.params (λ v. v.sort) ∙ many) (omega (arith, length-map o.params (λ v. v.sort), short))
            (subst (λ ss. list_any (is_no_element s) (zip names ss) ≡ false) own missing)
            (element_numbers s.declared s.arranged.elements (parameter_sorts s.declared operation) names)
            (ap (λ ss. element_numbers s.declared s.arranged.elements ss names) own));
      }

  -- a wanted element in a place of its sort
  wanted_below : (places : List (Option Name)) (sorts : List Name) → length sorts ≡ length places → list_any (is_no_wanted s) (zip places sorts) ≡ false → (k x : ℕ) → k < length sorts →
      slice_index_or (map (wanted_number s.declared s.arranged.elements) (zip places sorts)) k None ≡ Some x → x < size_of (size_list s.arranged.elements) (slice_index_or (map (sort_number s.declared) sorts) k 0)
  wanted_below [] [] same e k x l is = absurd (omega arith)
  wanted_below [] (t ∷ sorts) same e k x l is = absurd (omega arith)
  wanted_below (p ∷ places) [] same e k x l is = absurd (omega arith)
  wanted_below (None ∷ places) (t ∷ sorts) same e zero x l is = cc
  wanted_below (Some v ∷ places) (t ∷ sorts) same e zero x l is =
      let given : element_number s.declared s.arranged.elements t v ≡ x = cc in
      let there = not-false (is_among (elements_of s.declared s.arranged.elements t) v) (list_any-false (is_no_wanted s) (zip (Some v ∷ places) (t ∷ sorts)) e 0 (Some v, t) refl) in
      subst (λ n. n < size_of (size_list s.arranged.elements) (sort_number s.declared t)) given (below v t there)
  wanted_below (p ∷ places) (t ∷ sorts) same e (suc k) x l is =
      wanted_below places sorts (omega arith) (none_of (is_no_wanted s) (zip places sorts) (λ n q at. list_any-false (is_no_wanted s) (zip (p ∷ places) (t ∷ sorts)) e (suc n) q at)) k x (omega arith) is

  pub show_fits : (predicate : Name) (places : List (Option Name)) (p : PredicateLine) → predicate_named s.declared predicate ≡ Some p → length p.sorts ≡ length places →
      list_any (is_no_wanted s) (zip places (places_of s.declared predicate)) ≡ false → IsRequest (specification_of s.declared) (size_list s.arranged.elements) (show_said s.declared s.arranged.elements predicate places)
  show_fits predicate places p named many missing =
      let own : places_of s.declared predicate ≡ p.sorts = ap (λ found. option_map_or (λ q. q.sorts) found []) named in
      let stands = find_at (λ q. same_name q.name predicate) s.declared.predicates p named in
      let short = (h.predicates.each.at stands.0 p stands.1).places in
      let ws : List (Option ℕ) = map (wanted_number s.declared s.arranged.elements) (zip places (places_of s.declared predicate)) in
      let is : ws ≡ map (wanted_number s.declared s.arranged.elements) (zip places p.sorts) = ap (λ ss. map (wanted_number s.declared s.arranged.elements) (zip places ss)) own in
      record {
        predicate = predicate_of s.declared p;
        declared = slice_get-mapped (predicate_of s.declared) s.declared.predicates (predicate_number s.declared predicate) p (at_number (λ q. q.name) s.declared.predicates predicate p named);
        elements = λ k x l e.
            let within : k < 3 = omega (arith, l, short) in
            let sort = three-at (λ j. slice_index_or (map (sort_number s.declared) p.sorts) j 0) k within in
            let wanted = sym (three_wanted-at (λ j. slice_index_or ws j None) k within ∙ ap (λ vs. slice_index_or vs k None) is) ∙ e in
            subst (λ n. x < size_of (size_list s.arranged.elements) n) (sym sort)
            (wanted_below places p.sorts many (subst (λ ss. list_any (is_no_wanted s) (zip places ss) ≡ false) own missing) k x l wanted);
        unused = λ k l. three_wanted-past (λ j. slice_index_or ws j None) (length p.sorts) k (λ j past. ap (λ vs. slice_index_or vs j None) is ∙ past_pairs (wanted_number s.declared s.arranged.elements) places p.sorts None j past) l;
      }
