-- The setup of a document fits its specification.
--
--   said_nothing       where nothing is said, all that is said fits
--   filter_place       an item that passes stands among those that pass behind as many as pass before it
--   number_once        the number of a name that stands once
--   fitting            the setup that is said fits
use Rattle.std.proofs.Common.{◌≡◌, ℕ, ◌+◌, Bool, true, false, cond, not, ◌==◌, List, [], ◌∷◌, ◌++◌, length, map, filter, take, Some, None, sym, ap, subst, ◌∙◌, zero, suc, arith}
use Rattle.std.specs.List.{slice_get, list_any, prefix_len}
use Rattle.std.specs.Option.{option_map_or}
use Rattle.std.proofs.lemmas.Bool.{or_parts, eq-eqb, lt-ltb}
use Rattle.std.proofs.lemmas.List.{length-map, length-append, take-map}
use Rattle.std.proofs.lemmas.Option.{same_Some, slice_get_within}
use Rattle.ipa_spec.specs.Constants.{constants_of, element_of_constant}
use Rattle.ipa_spec.specs.FoundLaws.{list_any-false, found_at, map_at}
use Rattle.ipa_spec.specs.Faults.{same_name, has_repeat}
use Rattle.ipa_spec.specs.NameLaws.{same_name-refl}
use Rattle.ipa_spec.specs.declared.names.Name.{Name}
use Rattle.ipa_spec.specs.declared.constants.Constant.{Constant}
use Rattle.ipa_spec.specs.declared.specification.Specification.{Specification}
use Rattle.ipa_logic.specs.Facts.{has, fact_cmp, IsFact, IsState, IsStateOf, IsUniverse}
use Rattle.ipa_logic.specs.FactLaws.{same_fact}
use Rattle.ipa_logic.specs.declared.facts.Fact.{Fact}
use Rattle.std.specs.Ordering.{is_eq}
use Rattle.ipa_forms.specs.declared.forms.Typed.{Typed}
use Rattle.ipa_names.specs.Naming.{number_in}
use Rattle.ipa_names.specs.Meaning.{sort_number, constant_of, specification_of}
use Rattle.ipa_names.specs.FilterLaws.{length-filter_mapped}
use Rattle.ipa_names.specs.NumberLaws.{slice_get-mapped}
use Rattle.ipa_names.specs.Soundness.{EachOf}
use Rattle.ipa_names.specs.declared.declared.Declared.{Declared}
use Rattle.ipa_reader.specs.Arrangements.{elements_at}
use Rattle.ipa_reader.specs.Setups.{size_list}
use Rattle.ipa_reader.specs.Soundness.{constant_names, AreApart, IsBegun, IsSoundStanding}
use Rattle.ipa_reader.specs.Fitting.{IsFitting}
use Rattle.ipa_reader.specs.declared.standing.Standing.{Standing}
use Rattle.ipa_reader.proofs.SaidFits.{size_at}

-- an item that passes stands among those that pass behind as many as pass before it
filter_place : {X : Type 0} (test : X → Bool) (xs : List X) (k : ℕ) (x : X) → slice_get xs k ≡ Some x → test x ≡ true → slice_get (filter test xs) (length (filter test (take k xs))) ≡ Some x
filter_place test [] k x e passes = cc
filter_place test (y ∷ ys) zero x e passes =
    let same : y ≡ x = same_Some y x e in
    ap (λ b. slice_get (cond b (y ∷ filter test ys) (filter test ys)) 0) (ap test same ∙ passes) ∙ e
filter_place test (y ∷ ys) (suc k) x e passes = step (test y) (filter_place test ys k x e passes)
  where
    step : (b : Bool) → slice_get (filter test ys) (length (filter test (take k ys))) ≡ Some x →
        slice_get (cond b (y ∷ filter test ys) (filter test ys)) (length (cond b (y ∷ filter test (take k ys)) (filter test (take k ys)))) ≡ Some x
    step true h = h
    step false h = h

at_front : {X : Type 0} (xs ys : List X) (k : ℕ) (x : X) → slice_get xs k ≡ Some x → slice_get (xs ++ ys) k ≡ Some x
at_front [] ys k x e = cc
at_front (z ∷ xs) ys zero x e = e
at_front (z ∷ xs) ys (suc k) x e = at_front xs ys k x e

prefix_once : (names : List Name) (j : ℕ) (x : Name) → has_repeat (λ name. name) names ≡ false → slice_get names j ≡ Some x → prefix_len (λ other. not (same_name other x)) names ≡ j
prefix_once [] j x once e = cc
prefix_once (y ∷ ys) zero x once e =
    let here : same_name y x ≡ true = subst (λ z. same_name y z ≡ true) (same_Some y x e) (same_name-refl y) in
    ap (λ b. cond (not b) (1 + prefix_len (λ other. not (same_name other x)) ys) 0) here
prefix_once (y ∷ ys) (suc j) x once e =
    let parts = or_parts (list_any (λ z. same_name y z) ys) (has_repeat (λ name. name) ys) once in
    let other = list_any-false (λ z. same_name y z) ys parts.0 j x e in
    let later = prefix_once ys j x parts.1 e in
    ap (λ b. cond (not b) (1 + prefix_len (λ other. not (same_name other x)) ys) 0) other ∙ omega (arith, later)

-- the number of a name that stands once
number_once : (names : List Name) (j : ℕ) (x : Name) → has_repeat (λ name. name) names ≡ false → slice_get names j ≡ Some x → number_in names x ≡ Some j
number_once names j x once e =
    let place : ℕ = prefix_len (λ other. not (same_name other x)) names in
    let is : place ≡ j = prefix_once names j x once e in
    ap (λ b. cond b (Some place) None) (lt-ltb place (length names) (omega (arith, is, slice_get_within names j x e))) ∙ ap (λ n. Some n) is

module _ (d : Declared) (es : List (List Name)) (b : Bool) (begun : (n : ℕ) → IsBegun d es b n) (apart : AreApart es) where
  -- each sort has at least its constants
  sizes_fit : IsUniverse (specification_of d) (size_list es)
  sizes_fit = record {
    constants = λ sort.
        let h = begun sort in
        omega (
          arith,
          size_at es apart.lists sort,
          length-filter_mapped (λ c. c.sort == sort) (constant_of d) d.constants,
          length-map (filter (λ c. sort_number d c.sort == sort) d.constants) (λ c. c.name),
          ap length h.are,
          length-append (constant_names d sort) h.later,
        );
  }

  -- a constant's name is that of its element
  named : (k : ℕ) (c : Constant) → slice_get (map (constant_of d) d.constants) k ≡ Some c → number_in (elements_at es c.sort) c.name ≡ Some (element_of_constant (specification_of d) k)
  named k c e =
      let m = map_at (constant_of d) d.constants k c e in
      let test : Typed → Bool = λ t. sort_number d t.sort == c.sort in
      let sort : sort_number d m.0.sort ≡ c.sort = ap (λ (x : Constant). x.sort) m.2 in
      let place : ℕ = length (filter test (take k d.constants)) in
      let among : slice_get (filter test d.constants) place ≡ Some m.0 = filter_place test d.constants k m.0 m.1 (eq-eqb (sort_number d m.0.sort) c.sort sort) in
      let name : slice_get (constant_names d c.sort) place ≡ Some c.name = slice_get-mapped (λ (t : Typed). t.name) (filter test d.constants) place m.0 among ∙ ap (λ (x : Constant). Some x.name) m.2 in
      let h = begun c.sort in
      let there : slice_get (elements_at es c.sort) place ≡ Some c.name = ap (λ names. slice_get names place) h.are ∙ at_front (constant_names d c.sort) h.later place c.name name in
      let before : length (constants_of (take k (map (constant_of d) d.constants)) c.sort) ≡ place =
      ap (λ cs. length (constants_of cs c.sort)) (take-map (constant_of d) k d.constants) ∙ length-filter_mapped (λ x. x.sort == c.sort) (constant_of d) (take k d.constants) in
      let element : element_of_constant (specification_of d) k ≡ place =
      ap (λ found. option_map_or (λ (x : Constant). length (constants_of (take k (map (constant_of d) d.constants)) x.sort)) found 0) e ∙ before in
      number_once (elements_at es c.sort) place c.name (apart.each c.sort) there ∙ ap (λ n. Some n) (sym element)

-- the facts of a state are facts that are said
said_state : (s : Specification) (sizes : List ℕ) (facts base : List Fact) → EachOf (IsFact s sizes) facts → IsStateOf (has facts) base → IsState s sizes base
said_state s sizes facts base each h = record {
  rising = h.rising;
  facts = λ f there.
      let g = found_at (λ x. is_eq (fact_cmp f x)) facts (sym (h.facts f) ∙ there) in
      subst (IsFact s sizes) (sym (same_fact f g.item g.passes)) (each.at g.place g.item g.at);
}

pub fitting : (s : Standing) (base : List Fact) → IsSoundStanding s → IsStateOf (has s.arranged.facts) base →
    IsFitting (specification_of s.declared) (size_list s.arranged.elements) s.arranged.elements base s.arranged.sessions
fitting s base h state = record {
  universe = sizes_fit s.declared s.arranged.elements s.place.after_setup h.begun h.apart;
  constants = named s.declared s.arranged.elements s.place.after_setup h.begun h.apart;
  state = said_state (specification_of s.declared) (size_list s.arranged.elements) s.arranged.facts base h.said.facts state;
  requests = λ n k work asked at here. (h.said.requests.at n work at).at k asked here;
}
