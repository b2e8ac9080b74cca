-- What the parts of a list of facts mean is a state over the sizes of the lists.
--
--   state_of   the facts that are read are in order, and each is over the sizes
use Rattle.std.proofs.Common.{◌≡◌, ℕ, zero, suc, ◌<◌, Bool, true, false, cond, List, [], ◌∷◌, length, take, Option, None, Some, refl, sym, ap, subst, ◌∙◌, arith, inl, inr}
use Rattle.std.specs.Prelude.{option_and_then}
use Rattle.std.specs.List.{slice_get, slice_index, AllByRecursion}
use Rattle.std.specs.List.Sorted.{IsStrictlySortedBy}
use Rattle.std.specs.Ordering.{is_eq, is_lt}
use Rattle.std.specs.declared.cmp.Ordering.TheVariants.{Less}
use Rattle.std.proofs.lemmas.Bool.{and_parts, cases_lt, false≢true, or_cases}
use Rattle.std.proofs.lemmas.List.{get_or_past}
use Rattle.std.proofs.lemmas.Option.{same_Some, get_or_from_slice_get}
use Rattle.ipa_spec.specs.FoundLaws.{at_take}
use Rattle.ipa_spec.specs.Faults.{same_name}
use Rattle.ipa_spec.specs.declared.names.Name.{Name}
use Rattle.ipa_spec.specs.declared.predicates.Predicate.{Predicate}
use Rattle.ipa_spec.specs.declared.specification.Specification.{Specification}
use Rattle.ipa_logic.specs.Facts.{fact_cmp, has, size_of, IsFact, IsRising, IsState}
use Rattle.ipa_logic.specs.FactLaws.{fact_cmp_total, same_fact}
use Rattle.ipa_logic.specs.OrderLaws.{Less-from_lt}
use Rattle.ipa_logic.specs.Truth.{IsOver}
use Rattle.ipa_logic.specs.declared.facts.Fact.{Fact}
use Rattle.ipa_reader.specs.Setups.{size_list}
use Rattle.ipa_journal.specs.Naming.{four_of, predicate_sorts}
use Rattle.ipa_journal.specs.Meaning.{values_in, predicate_named, fact_with, fact_of, fact_said, fact_in, joined_facts, facts_in, rises_from, is_empty_list, some_facts, state_in}
use Rattle.ipa_journal.specs.Parts.{word_part, group_part}
use Rattle.ipa_journal.specs.declared.parts.Part.{Part}
use Rattle.ipa_journal_laws.specs.Writable.{IsSetting}
use Rattle.ipa_journal_laws.proofs.Cases.{cond_some, mapped_some, chosen_some, position_within}
use Rattle.ipa_journal_laws.proofs.Facts.{AreFacts, fits, place_sorts-are, place_count, place_known}
use Rattle.ipa_journal_laws.proofs.Named.{item_at}
use Rattle.ipa_journal_laws.proofs.ValuesOf.{values_over}

module _ (s : Specification) (sizes : List ℕ) (es : List (List Name)) (n : ℕ) (set : IsSetting s sizes es n) where
  three_at : (k : ℕ) (values : List ℕ) (j : ℕ) → j < 3 → slice_index (fact_with k values).args j ≡ slice_index values j
  three_at k values zero l = refl
  three_at k values (suc zero) l = refl
  three_at k values (suc (suc zero)) l = refl
  three_at k values (suc (suc (suc j))) l = absurd (omega arith)

  sort_there : (p : Predicate) (j : ℕ) → j < length p.sorts → slice_get p.sorts j ≡ Some (slice_index p.sorts j)
  sort_there p j l =
      let it = item_at p.sorts j l in
      it.1 ∙ ap Some (sym (get_or_from_slice_get p.sorts j it.0 0 it.1))

  -- a fact with values over the sorts of its predicate
  fact_over : (k : ℕ) (values : List ℕ) (p : Predicate) → slice_get s.predicates k ≡ Some p →
      IsOver (size_list es) (take p.arity p.sorts) values → IsFact s sizes (fact_with k values)
  fact_over k values p at over =
      let fit = fits s sizes es n set in
      let short = fit.arities k p at in
      let wide = set.places k p at in
      let count = place_count s sizes es n set k p at in
      record {
        predicate = p;
        declared = at;
        elements = λ j l.
            let there = at_take p.arity p.sorts j (slice_index p.sorts j) l (sort_there p j (omega (arith, l, wide))) in
            let below = over.elements j (slice_index p.sorts j) there in
            let same = three_at k values j (omega (arith, l, short)) in
            subst (λ u. slice_index (fact_with k values).args j < size_of u (slice_index p.sorts j)) (sym set.sizes_are) (omega (arith, below, same));
        unused = λ j past.
            elim (cases_lt j 3) [
              | inl low ↦ three_at k values j low ∙ over.unused j (omega (arith, past, count))
              | inr high ↦ get_or_past (fact_with k values).args j 0 high
            ];
        width = refl;
      }

  fact_of_name : (o : Option ℕ) (w : Name) (ns : List Name) (f : Fact) → predicate_named s w ≡ o → fact_of s es o ns ≡ Some f → IsFact s sizes f
  fact_of_name None w ns f named e = cc
  fact_of_name (Some k) w ns f named e =
      let within = position_within (λ p. same_name p.name w) s.predicates k named in
      let it = item_at s.predicates k within in
      let mapped = mapped_some (fact_with k) (values_in es (predicate_sorts s k) ns) f e in
      let places = place_sorts-are s k it.0 it.1 in
      let means = ap (λ l. values_in es (four_of l) ns) (sym places) ∙ mapped.1 in
      let count = place_count s sizes es n set k it.0 it.1 in
      let short = (fits s sizes es n set).arities k it.0 it.1 in
      let over = values_over es (take it.0.arity it.0.sorts) (omega (arith, count, short)) (place_known s sizes es n set k it.0 it.1) ns mapped.0 means in
      subst (IsFact s sizes) mapped.2 (fact_over k mapped.0 it.0 it.1 over.over)

  fact_of_parts : (w : Option Name) (ns : Option (List Name)) (f : Fact) → fact_said s es w ns ≡ Some f → IsFact s sizes f
  fact_of_parts None ns f e = cc
  fact_of_parts (Some w) None f e = cc
  fact_of_parts (Some w) (Some ns) f e = fact_of_name (predicate_named s w) w ns f refl e

  joined_some : (o : Option Fact) (os : Option (List Fact)) (fs : List Fact) → joined_facts o os ≡ Some fs →
      (f : Fact) × (later : List Fact) × (o ≡ Some f) × (os ≡ Some later) × (f ∷ later ≡ fs)
  joined_some None os fs e = cc
  joined_some (Some f) None fs e = cc
  joined_some (Some f) (Some later) fs e = (f, later, refl, refl, same_Some (f ∷ later) fs e)

  facts_of_parts : (ps : List Part) (fs : List Fact) → facts_in s es ps ≡ Some fs → AreFacts s sizes es n set fs
  facts_of_parts [] fs e = subst (AreFacts s sizes es n set) (same_Some [] fs e) tt
  facts_of_parts (p ∷ []) fs e = cc
  facts_of_parts (p ∷ q ∷ later) fs e =
      let j = joined_some (fact_in s es p q) (facts_in s es later) fs e in
      subst (AreFacts s sizes es n set) j.4 (fact_of_parts (word_part p) (group_part q) j.0 j.2, facts_of_parts later j.1 j.3)

  all_less : (f g : Fact) (fs : List Fact) → fact_cmp f g ≡ Less → AllByRecursion (λ h. fact_cmp g h ≡ Less) fs → AllByRecursion (λ h. fact_cmp f h ≡ Less) fs
  all_less f g [] l h = tt
  all_less f g (x ∷ fs) l h = (fact_cmp_total.trans f g x l h.0, all_less f g fs l h.1)

  risen_behind : (last : Fact) (fs : List Fact) → rises_from (Some last) fs ≡ true → AllByRecursion (λ f. fact_cmp last f ≡ Less) fs × IsRising fs
  unfolding IsStrictlySortedBy
  risen_behind last [] h = (tt, tt)
  risen_behind last (f ∷ fs) h =
      let parts = and_parts (is_lt (fact_cmp last f)) (rises_from (Some f) fs) h in
      let less = Less-from_lt (fact_cmp last f) parts.0 in
      let later = risen_behind f fs parts.1 in
      ((less, all_less last f fs less later.0), later)

  nothing_rises : IsRising []
  unfolding IsStrictlySortedBy
  nothing_rises = tt

  risen_all : (f : Fact) (fs : List Fact) → rises_from (Some f) fs ≡ true → IsRising (f ∷ fs)
  unfolding IsStrictlySortedBy
  risen_all f fs h = risen_behind f fs h

  among : (fs : List Fact) → AreFacts s sizes es n set fs → (f : Fact) → has fs f ≡ true → IsFact s sizes f
  among [] h f e = absurd (false≢true e)
  among (g ∷ fs) h f e = elim (or_cases (is_eq (fact_cmp f g)) (has fs f) e) [
    | inl here ↦ subst (IsFact s sizes) (sym (same_fact f g here)) h.0
    | inr later ↦ among fs h.1 f later
  ]

  pub no_facts : IsState s sizes []
  no_facts = record { rising = nothing_rises; facts = λ f e. absurd (false≢true e) }

  some_state : (fs state : List Fact) → AreFacts s sizes es n set fs → some_facts fs ≡ Some state → IsState s sizes state
  some_state [] state h e = cc
  some_state (f ∷ fs) state h e =
      let found = cond_some (rises_from None (f ∷ fs)) (Some (f ∷ fs)) state e in
      subst (IsState s sizes) (same_Some (f ∷ fs) state found.1) (record { rising = risen_all f fs found.0; facts = among (f ∷ fs) h })

  either : (b : Bool) (ps : List Part) (state : List Fact) → cond b (Some []) (option_and_then some_facts (facts_in s es ps)) ≡ Some state → IsState s sizes state
  either true ps state e = subst (IsState s sizes) (same_Some [] state e) no_facts
  either false ps state e =
      let found = chosen_some some_facts (facts_in s es ps) state e in
      some_state found.0 state (facts_of_parts ps found.0 found.1) found.2

  pub state_of : (ps : List Part) (state : List Fact) → state_in s es ps ≡ Some state → IsState s sizes state
  state_of ps state e = either (is_empty_list ps) ps state e
