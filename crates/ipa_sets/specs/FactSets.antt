-- Sets of facts that stand for a history.
--
--   lasts_on facts f      the last effect of each origin on a fact
--   truth_of facts f      the value that they give it
--   true_facts facts      the facts with the value true, in order
--   IsFactsOf s base taken facts   the set stands for the history `taken` over the base
--   HasRoom n facts       there is room for n more transactions
--   IsReadyFor s t facts  it knows each fact that the transaction adds, and has a row for each key of its effects
--
-- That its true facts and their ages are those of the history is shown in FactSetLaws.
use Rattle.std.specs.Prelude.{◌≡◌, ℕ, ◌*◌, ◌≤◌, Bool, true, false, List, Option, slice_index_or}
use Rattle.ipa_spec.specs.declared.specification.Specification.{Specification}
use Rattle.ipa_logic.specs.Facts.{has, IsRising}
use Rattle.ipa_logic.specs.Touches.{has_rule, is_add_wins}
use Rattle.ipa_logic.specs.declared.facts.Fact.{Fact}
use Rattle.ipa_history.specs.Histories.{IsMember, IsHistory}
use Rattle.ipa_history.specs.Values.{adds_fact}
use Rattle.ipa_history.specs.declared.history.Tx.{Tx}
use Rattle.ipa_sets.specs.Fitting.{truth_in}
use Rattle.ipa_sets.specs.Keys.{has_key}
use Rattle.ipa_sets.specs.Knowns.{HasPlaces}
use Rattle.ipa_sets.specs.Lasts.{IsRowOf}
use Rattle.ipa_sets.specs.Listings.{listed}
use Rattle.ipa_sets.specs.Rows.{spare, has_row, row_in, lasts_in}
use Rattle.ipa_sets.specs.declared.facts.Facts.{Facts}
use Rattle.ipa_sets.specs.declared.keys.Key.{Key}
use Rattle.ipa_sets.specs.declared.lasts.Last.{Last}

-- the last effect of each origin on a fact
unfoldable pub lasts_on : Facts → Fact → List (Option Last)
lasts_on facts f = lasts_in facts.rows f

-- the value that they give it
unfoldable pub truth_of : Facts → Fact → Bool
truth_of facts f = truth_in facts.adds_win facts.base facts.rows f

-- the facts with the value true, in order
abbrev pub true_facts : Facts → List Fact
true_facts facts = listed (truth_of facts) facts.base facts.known.facts.items

-- the set stands for the history `taken` over the base: it has the base and the rule of each predicate, it knows each
-- fact that is added, and its rows are those of the history
pub record IsFactsOf (s : Specification) (start : List Fact) (taken : List Tx) (facts : Facts) : Type 0 where
  pub history : IsHistory taken
  pub rising : IsRising start
  pub base : facts.base ≡ start
  pub rules : (p : ℕ) → slice_index_or facts.adds_win p false ≡ has_rule is_add_wins s p
  pub known : (f : Fact) (t : Tx) → IsMember taken t → adds_fact s f t ≡ true → has facts.known.facts.items f ≡ true
  pub rows : (k : Key) → IsRowOf (has_key s k) taken (row_in facts.rows k)

-- there is room for n more transactions: each has at most 12 effects, and for each of them a row is made, and filled
pub record HasRoom (n : ℕ) (facts : Facts) : Type 0 where
  pub known : HasPlaces (12 * n) facts.known
  pub rows : 24 * n ≤ spare facts.rows

-- it knows each fact that the transaction adds, and has a row for each key of its effects
pub record IsReadyFor (s : Specification) (t : Tx) (facts : Facts) : Type 0 where
  pub known : (f : Fact) → adds_fact s f t ≡ true → has facts.known.facts.items f ≡ true
  pub keys : (k : Key) → has_key s k t ≡ true → has_row facts.rows k ≡ true
