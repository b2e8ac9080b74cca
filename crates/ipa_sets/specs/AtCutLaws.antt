-- Laws of what an index tells at a cut.
--
--   shown-value     the value that is shown is that at the cut
--   has-facts_at    a fact is true where it may be and its value is shown so
--   rising-facts_at the true facts stand in order
--   facts_at-state  they are the state at the cut
--   age_shown-age   and the ages are those at the cut
--   find-is         the transaction that is found is the one with the dot
--   clock-is        the counts of the places are those of the history
use Rattle.std.proofs.Common.{◌≡◌, ℕ, ◌+◌, ◌≤◌, Bool, true, false, not, ◌&&◌, ◌||◌, cond, List, [], ◌∷◌, length, min, Option, Some, None, MatchOption, sym, ◌∙◌, ap, subst, arith, inl, inr}
use Rattle.std.specs.Prelude.{◌==◌, slice_get, slice_index_or, is_some}
use Rattle.std.specs.List.{list_any, count_by}
use Rattle.std.proofs.lemmas.Bool.{cases_Bool, false≢true, and_parts, and_from, or_left, or_right}
use Rattle.ipa_clock.specs.declared.cut.Cut.{Cut}
use Rattle.ipa_clock.specs.declared.dot.Dot.{Dot}
use Rattle.ipa_spec.specs.declared.specification.Specification.{Specification}
use Rattle.ipa_logic.specs.Facts.{has, IsRising, IsStateOf}
use Rattle.ipa_logic.specs.Touches.{has_rule, is_add_wins}
use Rattle.ipa_logic.specs.declared.facts.Fact.{Fact}
use Rattle.ipa_history.specs.Histories.{is_before, members_of, number_of, IsNamedIn, NoneNamedIn}
use Rattle.ipa_history.specs.HistoryLaws.{Order-part, count_cons}
use Rattle.ipa_history.specs.MemberLaws.{same_bool, found}
use Rattle.ipa_history.specs.EffectLaws as effects
use Rattle.ipa_history.specs.Values.{adds_fact, removes_fact, touches_fact, value_at}
use Rattle.ipa_history.specs.Ages.{age_at}
use Rattle.ipa_history.specs.declared.history.Tx.{Tx}
use Rattle.ipa_sets.specs.AtCuts.{entry_of, lasts, shown, facts_at, age_shown}
use Rattle.ipa_sets.specs.ByOrigins.{numbers_at}
use Rattle.ipa_sets.specs.Indexes.{IsIndexOf}
use Rattle.ipa_sets.specs.IndexLaws.{entry_named, entry_there, same_dots}
use Rattle.ipa_sets.specs.LastAtLaws.{lasts-are}
use Rattle.ipa_sets.specs.Lasts.{NonePasses, IsLastOn, last_of, value_by_lasts, adds_last, removes_last}
use Rattle.ipa_sets.specs.LastLaws.{list-last, value-lasts, age-lasts}
use Rattle.ipa_sets.specs.Listings.{has-listed, rising-listed}
use Rattle.ipa_sets.specs.OriginLaws.{cut_inside}
use Rattle.ipa_sets.specs.declared.index.Index.{Index}
use Rattle.ipa_sets.specs.declared.lasts.Last.{Last}

-- the rule tells nothing where no transaction touches the fact
untouched-rule : (w v start : Bool) (ls : List (Option Last)) → (list_any is_some ls ≡ true → w ≡ v) →
    value_by_lasts w start ls ≡ value_by_lasts v start ls
untouched-rule w v start ls same = elim (cases_Bool (list_any is_some ls)) [
  | inl some ↦ ap (λ (x : Bool). value_by_lasts x start ls) (same some)
  | inr none ↦ none_by w none ∙ sym (none_by v none)
]
  where
    none_by : (x : Bool) → list_any is_some ls ≡ false → value_by_lasts x start ls ≡ start
    none_by x none = ap (λ (b : Bool). cond b (cond x (list_any (adds_last ls) ls) (not (list_any
        (removes_last ls) ls))) start) none

module _ (s : Specification) (index : Index) (is : IsIndexOf s index) (base : List Fact) (c : Cut) where
  -- where there is a last effect, the rules are known
  rule-is : (f : Fact) → list_any is_some (lasts index c f) ≡ true →
      slice_index_or index.adds_win f.predicate false ≡ has_rule is_add_wins s f.predicate
  rule-is f some =
      let one = found is_some (lasts index c f) some in
      let are = lasts-are s index is c f in
      let place = one.member in
      by_entry place.place one.one place.at one.passes (are.each place.place)
    where
      by_entry : (o : ℕ) (x : Option Last) → slice_get (lasts index c f) o ≡ Some x → is_some x ≡ true
          → MatchOption (last_of (lasts index c f) o) (NonePasses (touches_fact s f) o (members_of index.entries c))
          (IsLastOn s f (members_of index.entries c) o)
          → slice_index_or index.adds_win f.predicate false ≡ has_rule is_add_wins s f.predicate
      by_entry o None at h m = absurd (false≢true h)
      by_entry o (Some l) at h m =
          let on = subst (λ (x : Option Last). MatchOption x (NonePasses (touches_fact s f) o
          (members_of index.entries c))
          (IsLastOn s f (members_of index.entries c) o)) (list-last (lasts index c f) o l at) m in
          let last = on.last in
          is.rules l.tx f.predicate (cut_inside index.entries c l.tx last.member)

  -- the value that is shown is that at the cut
  pub shown-value : (f : Fact) → shown index base c f ≡ value_at s base index.entries c f
  unfolding shown
  shown-value f = untouched-rule (slice_index_or index.adds_win f.predicate false)
      (has_rule is_add_wins s f.predicate) (has base f)
      (lasts index c f) (rule-is f)
      ∙ sym (value-lasts index.entries is.history s f (members_of index.entries c) (cut_inside index.entries c)
      (lasts index c f)
      (lasts-are s index is c f) base)

  -- a fact that is true at the cut is one of the base or of those that are known
  known-true : (f : Fact) → value_at s base index.entries c f ≡ true → (has index.known f || has base f) ≡ true
  known-true f h = elim (effects.true_from is_before (adds_fact s f) (removes_fact s f) (has base f)
      (has_rule is_add_wins s f.predicate)
      (members_of index.entries c) (Order-part index.entries is.history (members_of index.entries c)
      (cut_inside index.entries c)) h) [
        | inl start ↦ or_right (has index.known f) (has base f) start
        | inr added ↦ or_left (has index.known f) (has base f)
            (is.known added.one f (cut_inside index.entries c added.one added.member) added.passes)
      ]

  -- the true facts are the state at the cut
  pub facts_at-state : IsRising index.known → IsRising base →
      IsStateOf (value_at s base index.entries c) (facts_at index base c)
  unfolding facts_at
  facts_at-state known rising = record {
    rising = rising-listed (shown index base c) index.known base known rising;
    facts = λ f. has-listed (shown index base c) index.known base f
        ∙ same_bool ((has index.known f || has base f) && shown index base c f) (value_at s base index.entries c f)
        (λ h. let parts = and_parts (has index.known f || has base f) (shown index base c f) h in sym
        (shown-value f) ∙ parts.1)
        (λ h. and_from (has index.known f || has base f) (shown index base c f) (known-true f h) (shown-value f ∙ h));
  }

  -- and the ages are those at the cut
  pub age_shown-age : (f : Fact) → age_shown index c f ≡ age_at s index.entries c f
  unfolding age_shown
  age_shown-age f = sym (age-lasts index.entries is.history s f (members_of index.entries c)
      (cut_inside index.entries c)
      (lasts index c f) (lasts-are s index is c f))

  -- the transaction that is found is the one with the dot
  pub find-is : (d : Dot) (r : Option Tx) → r ≡ entry_of index d.origin d.number →
      MatchOption r (NoneNamedIn index.entries d) (IsNamedIn index.entries d)
  find-is d None e = record {
    none = λ t m named.
        let there = entry_there s index is t m in
        let here : entry_of index d.origin d.number ≡ Some t =
        subst (λ (x : Dot). entry_of index x.origin x.number ≡ Some t) named there in
        let both : None ≡ Some t = e ∙ here in
        absurd cc;
  }
  find-is d (Some t) e =
      let named = entry_named s index is d.origin d.number t (sym e) in
      record { member = named.0; named = same_dots t.dot d named.1 named.2 }

  -- the counts of the places are those of the history
  pub clock-is : (o : ℕ) → min (length (numbers_at index.places o)) 4294967295 ≡ number_of o index.entries
  clock-is o =
      let placed = is.placed in
      let sized = placed.sized o in
      let history = is.history in
      let few = history.few in
      let low = count_low (λ (t : Tx). t.dot.origin == o) index.entries in
      omega (arith, sized, few, low)
    where
      count_low : {X : Type 0} (p : X → Bool) (xs : List X) → count_by p xs ≤ length xs
      count_low p [] = omega arith
      count_low p (x ∷ xs) = by_flag (p x) (count_cons p x xs) (count_low p xs)
        where
          by_flag : (b : Bool) → count_by p (x ∷ xs) ≡ cond b 1 0 + count_by p xs → count_by p xs ≤ length xs →
              count_by p (x ∷ xs) ≤ length (x ∷ xs)
          by_flag true e rest = omega (arith, e, rest)
          by_flag false e rest = omega (arith, e, rest)

-- a fact is true where it may be and its value is shown so
pub has-facts_at : (index : Index) (base : List Fact) (c : Cut) (f : Fact) →
    has (facts_at index base c) f ≡ ((has index.known f || has base f) && shown index base c f)
unfolding facts_at
has-facts_at index base c f = has-listed (shown index base c) index.known base f

-- the true facts stand in order
pub rising-facts_at : (index : Index) (base : List Fact) (c : Cut) → IsRising index.known → IsRising base →
    IsRising (facts_at index base c)
unfolding facts_at
rising-facts_at index base c known rising = rising-listed (shown index base c) index.known base known rising
