-- A set that stands for a history is the state at its whole cut, with the ages of its true facts.
--
--   told-of          the truths that are kept are those by the rows
--   truth-value      the value that the set gives a fact is that of the history
--   facts-state      its true facts are the state
--   facts-age        the age that it gives a fact is that of the history
--   facts-same       it stands for the same where only more facts are known
--   facts-empty      a set without rows stands for the history without transactions
--   facts-push       one with a transaction put into its rows stands for the history with the transaction at its end
use Rattle.std.proofs.Common.{◌≡◌, ℕ, Bool, true, false, ◌&&◌, ◌||◌, List, [], ◌∷◌, ◌++◌, map, refl, sym, ◌∙◌, ap, subst, arith, Option, inl, inr}
use Rattle.std.specs.Prelude.{slice_index_or}
use Rattle.std.proofs.lemmas.Bool.{and_parts, and_from, or_left, or_right}
use Rattle.ipa_spec.specs.declared.specification.Specification.{Specification}
use Rattle.ipa_logic.specs.Facts.{has, IsRising, IsStateOf}
use Rattle.ipa_logic.specs.Touches.{has_rule, is_add_wins}
use Rattle.ipa_logic.specs.declared.facts.Fact.{Fact}
use Rattle.ipa_history.specs.Ages.{age_of}
use Rattle.ipa_history.specs.Histories.{is_before, IsHistory}
use Rattle.ipa_history.specs.EffectLaws.{true_from}
use Rattle.ipa_history.specs.HistoryLaws.{Order-part}
use Rattle.ipa_history.specs.MemberLaws.{member_none, same_bool}
use Rattle.ipa_history.specs.NextLaws.{IsMore-push}
use Rattle.ipa_history.specs.Values.{adds_fact, removes_fact, value_of}
use Rattle.ipa_history.specs.declared.history.Tx.{Tx}
use Rattle.ipa_sets.specs.FactSets.{lasts_on, truth_of, true_facts, IsFactsOf}
use Rattle.ipa_sets.specs.Fitting.{truth_in}
use Rattle.ipa_sets.specs.Keys.{has_key}
use Rattle.ipa_sets.specs.LastLaws.{value-lasts, age-lasts}
use Rattle.ipa_sets.specs.Lasts.{tx_at, IsRowOf, AreLastsOf, value_by_lasts, age_by_lasts}
use Rattle.ipa_sets.specs.Listings.{has-listed, rising-listed}
use Rattle.ipa_sets.specs.RowLaws.{lasts-rows, row-push, row-empty}
use Rattle.ipa_sets.specs.Rows.{no_row, row_in, lasts_in, put_in}
use Rattle.ipa_sets.specs.declared.facts.Facts.{Facts}
use Rattle.ipa_sets.specs.declared.keys.Key.{Key}

-- the truths that are kept are those by the rows
pub told-of : (facts : Facts) → facts.known.truths.items ≡ map (truth_of facts) facts.known.facts.items
unfolding truth_of
told-of facts = facts.told

module _ (s : Specification) (start : List Fact) (taken : List Tx) (facts : Facts)
    (is : IsFactsOf s start taken facts) where
  -- the last effects that the set has are those of the history
  lasts-of : (f : Fact) → AreLastsOf s f taken (lasts_on facts f)
  unfolding lasts_on lasts_in
  lasts-of f = lasts-rows taken is.history.origins s f facts.rows is.rows

  -- the value that the set gives a fact is that of the history
  pub truth-value : (f : Fact) → truth_of facts f ≡ value_of s start taken f
  unfolding truth_of truth_in lasts_on
  truth-value f = ap (λ (w : Bool). value_by_lasts w (has facts.base f) (lasts_on facts f)) (is.rules f.predicate)
      ∙ (ap (λ (b : List Fact). value_by_lasts (has_rule is_add_wins s f.predicate) (has b f) (lasts_on facts f))
      is.base
      ∙ sym (value-lasts taken is.history s f taken (λ u m. m) (lasts_on facts f) (lasts-of f) start))

  -- a fact with the value true is in the base, or known
  listed-true : (f : Fact) → value_of s start taken f ≡ true →
      (has facts.base f || has facts.known.facts.items f) ≡ true
  listed-true f h = elim (true_from is_before (adds_fact s f) (removes_fact s f) (has start f)
      (has_rule is_add_wins s f.predicate) taken (Order-part taken is.history taken (λ u m. m)) h) [
        | inl b ↦ or_left (has facts.base f) (has facts.known.facts.items f)
            (ap (λ (xs : List Fact). has xs f) is.base ∙ b)
        | inr a ↦ or_right (has facts.base f) (has facts.known.facts.items f) (is.known f a.one a.member a.passes)
      ]

  -- its true facts are the state
  pub facts-state : IsStateOf (value_of s start taken) (true_facts facts)
  facts-state = record {
    rising = rising-listed (truth_of facts) facts.base facts.known.facts.items
        (subst IsRising (sym is.base) is.rising) facts.known.rising;
    facts = λ f. has-listed (truth_of facts) facts.base facts.known.facts.items f
        ∙ (ap (λ (b : Bool). (has facts.base f || has facts.known.facts.items f) && b) (truth-value f)
        ∙ same_bool ((has facts.base f || has facts.known.facts.items f) && value_of s start taken f)
        (value_of s start taken f)
        (λ b. (and_parts (has facts.base f || has facts.known.facts.items f) (value_of s start taken f) b).1)
        (λ v. and_from (has facts.base f || has facts.known.facts.items f) (value_of s start taken f)
        (listed-true f v) v));
  }

  -- the age that it gives a fact is that of the history
  pub facts-age : (f : Fact) → age_by_lasts (lasts_on facts f) ≡ age_of s taken f
  facts-age f = sym (age-lasts taken is.history s f taken (λ u m. m) (lasts_on facts f) (lasts-of f))

  -- the set stands for the same where only more facts are known, and the same is in its rows
  pub facts-same : (new : Facts) → new.base ≡ facts.base → new.adds_win ≡ facts.adds_win
      → ((f : Fact) → has facts.known.facts.items f ≡ true → has new.known.facts.items f ≡ true)
      → ((k : Key) → row_in new.rows k ≡ row_in facts.rows k) → IsFactsOf s start taken new
  facts-same new base rules known rows = record {
    history = is.history;
    rising = is.rising;
    base = base ∙ is.base;
    rules = λ p. ap (λ (xs : List Bool). slice_index_or xs p false) rules ∙ is.rules p;
    known = λ f t m h. known f (is.known f t m h);
    rows = λ k. subst (λ (row : List (Option Tx)). IsRowOf (has_key s k) taken row) (sym (rows k)) (is.rows k);
  }

  -- it stands for the history with a transaction at its end where that is put into its rows
  pub facts-push : (new : Facts) (t : Tx) → IsHistory (taken ++ t ∷ []) → new.base ≡ facts.base →
      new.adds_win ≡ facts.adds_win
      → ((f : Fact) → has facts.known.facts.items f ≡ true → has new.known.facts.items f ≡ true)
      → ((f : Fact) → adds_fact s f t ≡ true → has new.known.facts.items f ≡ true)
      → ((k : Key) (o : ℕ) → tx_at (row_in new.rows k) o ≡ put_in (has_key s k t) t (row_in facts.rows k) o)
      → IsFactsOf s start (taken ++ t ∷ []) new
  facts-push new t history base rules known added rows = record {
    history = history;
    rising = is.rising;
    base = base ∙ is.base;
    rules = λ p. ap (λ (xs : List Bool). slice_index_or xs p false) rules ∙ is.rules p;
    known = λ f u m h. elim ((IsMore-push taken t).only u m) [
      | inl before ↦ known f (is.known f u before h)
      | inr same ↦ added f (ap (adds_fact s f) (sym same) ∙ h)
    ];
    rows = λ k. row-push taken t history (has_key s k) (row_in facts.rows k) (row_in new.rows k) (rows k) (is.rows k);
  }

-- a set without rows stands for the history without transactions
pub facts-empty : (s : Specification) (facts : Facts) → IsRising facts.base →
    ((p : ℕ) → slice_index_or facts.adds_win p false ≡ has_rule is_add_wins s p) →
    ((k : Key) → row_in facts.rows k ≡ no_row) → IsFactsOf s facts.base [] facts
facts-empty s facts rising rules rows = record {
  history = record {
    few = omega arith;
    origins = λ t m. absurd (member_none t m);
    numbers = λ k t e. absurd (member_none t (record { place = k; at = e }));
    own = λ t m. absurd (member_none t m);
    seen = λ k t d e n c. absurd (member_none t (record { place = k; at = e }));
  };
  rising = rising;
  base = refl;
  rules = rules;
  known = λ f t m h. absurd (member_none t m);
  rows = λ k. subst (λ (row : List (Option Tx)). IsRowOf (has_key s k) [] row) (sym (rows k)) (row-empty (has_key s k));
}
