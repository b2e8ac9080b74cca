-- The line of a list of facts means the facts.
--
--   IsNamed s es        what of a specification and its elements the names need
--   fact_pieces-are     a fact is written as its predicate's name and the names of its elements
--   state_back          a state is read back
use Rattle.std.proofs.Common.{◌≡◌, ℕ, zero, suc, ◌<◌, ◌≤◌, true, false, ◌&&◌, cond, List, [], ◌∷◌, ◌++◌, length, map, take, None, Some, refl, sym, ap, subst, ◌∙◌, arith, inl, inr}
use Rattle.std.specs.List.{slice_get, slice_index, flat_map, AllByRecursion}
use Rattle.std.specs.List.Sorted.{IsStrictlySortedBy}
use Rattle.std.specs.Option.{option_map, option_map_or}
use Rattle.std.specs.Prelude.{option_and_then}
use Rattle.std.specs.Ordering.{is_lt, is_eq}
use Rattle.std.proofs.lemmas.Bool.{and_from, cases_lt, or_left, or_right, ne_eqb}
use Rattle.std.proofs.lemmas.Grind.{same_number_lists}
use Rattle.std.proofs.lemmas.List.{length-take}
use Rattle.std.proofs.lemmas.Option.{get_or_from_slice_get}
use Rattle.ipa_spec.specs.Actions.{place_sorts}
use Rattle.ipa_spec.specs.Fits.{IsFit}
use Rattle.ipa_spec.specs.FaultlessFits.{SpecificationParts, parts_of-faultless, IsFit-from_faultless}
use Rattle.ipa_spec.specs.FoundLaws.{take_at}
use Rattle.ipa_spec.specs.declared.names.Name.{Name}
use Rattle.ipa_spec.specs.declared.predicates.Predicate.{Predicate}
use Rattle.ipa_spec.specs.declared.specification.Specification.{Specification}
use Rattle.ipa_logic.specs.Acceptance.{drop_args}
use Rattle.ipa_logic.specs.Facts.{fact_cmp, has, size_of, IsFact, IsRising, IsState}
use Rattle.ipa_logic.specs.FactLaws.{fact_itself}
use Rattle.ipa_logic.specs.Truth.{IsOver}
use Rattle.ipa_logic.specs.declared.facts.Fact.{Fact}
use Rattle.ipa_reader.specs.Setups.{size_list}
use Rattle.ipa_journal.specs.Naming.{four_of, predicate_sorts, elements_in, fact_pieces, facts_pieces}
use Rattle.ipa_journal.specs.Meaning.{values_in, fact_with, fact_of, fact_in, facts_in, joined_facts, rises_from, is_empty_list, some_facts, state_in}
use Rattle.ipa_journal.specs.Parts.{is_key}
use Rattle.ipa_journal.specs.declared.keywords.Keyword.TheVariants as keys
use Rattle.ipa_journal.specs.declared.parts.Part.{Part}
use Rattle.ipa_journal.specs.declared.parts.Part.TheVariants as parts
use Rattle.ipa_journal.specs.declared.pieces.Piece.TheVariants.{Word, Group}
use Rattle.ipa_journal_laws.specs.Writable.{IsSetting}
use Rattle.ipa_journal_laws.proofs.Spelled.{part_of}
use Rattle.ipa_journal_laws.proofs.Named.{position_named}
use Rattle.ipa_journal_laws.proofs.Values.{AreSorts, values_back}

-- the sorts of the places of a declared predicate
pub place_sorts-are : (s : Specification) (k : ℕ) (p : Predicate) → slice_get s.predicates k ≡ Some p →
    place_sorts s.predicates k ≡ take p.arity p.sorts
place_sorts-are s k p e = ap (λ o. option_map_or (λ q. take q.arity q.sorts) o []) e

module _ (s : Specification) (sizes : List ℕ) (es : List (List Name)) (n : ℕ) (set : IsSetting s sizes es n) where
  abbrev pub fits : IsFit s
  fits = IsFit-from_faultless s set.faultless

  abbrev pub own_names : SpecificationParts s
  own_names = parts_of-faultless s set.faultless

  pub place_count : (k : ℕ) (p : Predicate) → slice_get s.predicates k ≡ Some p → length (take p.arity p.sorts) ≡ p.arity
  place_count k p e = omega (arith, length-take p.arity p.sorts, set.places k p e)

  pub place_known : (k : ℕ) (p : Predicate) → slice_get s.predicates k ≡ Some p → AreSorts (take p.arity p.sorts)
  place_known k p e j sort at =
      let taken = take_at p.arity p.sorts j sort at in
      let number : slice_index p.sorts j ≡ sort = get_or_from_slice_get p.sorts j sort 0 taken.1 in
      omega (arith, fits.place_sort k j p e taken.0, fits.sort_count, number)

  drop_args-at : (f : Fact) (k : ℕ) → k < 3 → slice_index (drop_args f) k ≡ slice_index f.args k
  drop_args-at f zero l = refl
  drop_args-at f (suc zero) l = refl
  drop_args-at f (suc (suc zero)) l = refl
  drop_args-at f (suc (suc (suc k))) l = absurd (omega arith)

  drop_args-past : (f : Fact) (k : ℕ) → 3 ≤ k → slice_index (drop_args f) k ≡ 0
  drop_args-past f zero l = absurd (omega arith)
  drop_args-past f (suc zero) l = absurd (omega arith)
  drop_args-past f (suc (suc zero)) l = absurd (omega arith)
  drop_args-past f (suc (suc (suc zero))) l = refl
  drop_args-past f (suc (suc (suc (suc k)))) l = refl

  -- a fact's elements are values over the sorts of its places
  over : (f : Fact) (is : IsFact s sizes f) → IsOver (size_list es) (take is.predicate.arity is.predicate.sorts) (drop_args f)
  over f is =
      let p = is.predicate in
      let count = place_count f.predicate p is.declared in
      let short = fits.arities f.predicate p is.declared in
      subst (λ u. IsOver u (take p.arity p.sorts) (drop_args f)) set.sizes_are (record {
        elements = λ v sort at.
            let taken = take_at p.arity p.sorts v sort at in
            let number : slice_index p.sorts v ≡ sort = get_or_from_slice_get p.sorts v sort 0 taken.1 in
            let below = is.elements v taken.0 in
            let moved : slice_index f.args v < size_of sizes sort = subst (λ k. slice_index f.args v < size_of sizes k) number below in
            let same = drop_args-at f v (omega (arith, taken.0, short)) in
            omega (arith, moved, same);
        unused = λ v past.
            elim (cases_lt v 3) [
              | inl low ↦ drop_args-at f v low ∙ is.unused v (omega (arith, past, count))
              | inr high ↦ drop_args-past f v high
            ];
        width = refl;
      })

  fact_same : (f : Fact) (is : IsFact s sizes f) → fact_with f.predicate (drop_args f) ≡ f
  fact_same f is =
      let args : (fact_with f.predicate (drop_args f)).args ≡ f.args = same_number_lists (fact_with f.predicate (drop_args f)).args f.args (sym is.width) (three f) in
      λ i. record { predicate = f.predicate; args = args i }
    where
      three : (g : Fact) (k : ℕ) → k < 3 → slice_index (fact_with g.predicate (drop_args g)).args k ≡ slice_index g.args k
      three g zero l = refl
      three g (suc zero) l = refl
      three g (suc (suc zero)) l = refl
      three g (suc (suc (suc k))) l = absurd (omega arith)

  abbrev pub fact_names : Fact → List Name
  fact_names f = elements_in es (predicate_sorts s f.predicate) (drop_args f)

  pub fact_pieces-are : (f : Fact) (is : IsFact s sizes f) →
      fact_pieces s es f ≡ Word is.predicate.name ∷ Group (fact_names f) ∷ []
  fact_pieces-are f is =
      ap (λ o. option_map_or (λ q. Word q.name ∷ []) o [] ++ Group (fact_names f) ∷ []) is.declared

  -- a fact's parts mean the fact
  fact_back : (f : Fact) (is : IsFact s sizes f) →
      fact_in s es (parts.Word is.predicate.name) (parts.Group (fact_names f)) ≡ Some f
  fact_back f is =
      let p = is.predicate in
      let sorts : List ℕ = take p.arity p.sorts in
      let named = position_named (λ q. q.name) s.predicates f.predicate p is.declared own_names.predicate_names in
      let places = place_sorts-are s f.predicate p is.declared in
      let count = place_count f.predicate p is.declared in
      let short = fits.arities f.predicate p is.declared in
      let back = values_back es set.apart (drop_args f) sorts (omega (arith, count, short)) (place_known f.predicate p is.declared) (over f is) in
      ap (λ o. fact_of s es o (fact_names f)) named
      ∙ ap (λ l. option_map (fact_with f.predicate) (values_in es (four_of l) (elements_in es (four_of l) (drop_args f)))) places
      ∙ ap (option_map (fact_with f.predicate)) back.means
      ∙ ap Some (fact_same f is)

  abbrev pub AreFacts : List Fact → Type 0
  AreFacts fs = AllByRecursion (IsFact s sizes) fs

  facts_back : (fs : List Fact) → AreFacts fs → facts_in s es (map part_of (flat_map (fact_pieces s es) fs)) ≡ Some fs
  facts_back [] h = refl
  facts_back (f ∷ fs) h =
      ap (λ ps. facts_in s es (map part_of (ps ++ flat_map (fact_pieces s es) fs))) (fact_pieces-are f h.0)
      ∙ (λ i. joined_facts (fact_back f h.0 i) (facts_back fs h.1 i))

  -- facts in order rise
  rising : (last : Fact) (fs : List Fact) → IsRising (last ∷ fs) → rises_from (Some last) fs ≡ true
  unfolding IsStrictlySortedBy
  rising last [] h = refl
  rising last (f ∷ fs) h = and_from (is_lt (fact_cmp last f)) (rises_from (Some f) fs) (ap is_lt h.0.0) (rising f fs h.1)

  rising_all : (f : Fact) (fs : List Fact) → IsRising (f ∷ fs) → rises_from None (f ∷ fs) ≡ true
  rising_all f fs h = rising f fs h

  all_facts : (all fs : List Fact) → ((f : Fact) → has all f ≡ true → IsFact s sizes f) → ((f : Fact) → has fs f ≡ true → has all f ≡ true) → AreFacts fs
  all_facts all [] h among = tt
  all_facts all (f ∷ fs) h among =
      (h f (among f (or_left (is_eq (fact_cmp f f)) (has fs f) (fact_itself f))), all_facts all fs h (λ g k. among g (or_right (is_eq (fact_cmp g f)) (has fs g) k)))

  pub facts_of : (state : List Fact) → IsState s sizes state → AreFacts state
  facts_of state h = all_facts state state h.facts (λ f k. k)

  -- a list with a fact is not the empty list
  not_empty : (p q : Part) (later : List Part) → is_empty_list (p ∷ q ∷ later) ≡ false
  not_empty p q later =
      ap (λ b. b && is_key (p ∷ q ∷ later) 0 keys.Nothing) (ne_eqb (length (p ∷ q ∷ later)) 1 (λ e. omega (arith, e)))

  pub state_back : (state : List Fact) → IsState s sizes state → state_in s es (map part_of (facts_pieces s es state)) ≡ Some state
  state_back [] h = refl
  state_back (f ∷ fs) h =
      let each = facts_of (f ∷ fs) h in
      let ps : List Part = map part_of (flat_map (fact_pieces s es) (f ∷ fs)) in
      let more = ap (λ us. is_empty_list (map part_of (us ++ flat_map (fact_pieces s es) fs))) (fact_pieces-are f each.0)
      ∙ not_empty (parts.Word each.0.predicate.name) (parts.Group (fact_names f)) (map part_of (flat_map (fact_pieces s es) fs)) in
      ap (λ b. cond b (Some []) (option_and_then some_facts (facts_in s es ps))) more
      ∙ ap (option_and_then some_facts) (facts_back (f ∷ fs) each)
      ∙ ap (λ b. cond b (Some (f ∷ fs)) None) (rising_all f fs h.rising)
