-- Lists of the facts that pass a test, in order.
--
--   together one other         the facts of two lists in order, in order
--   listed test one other      those of them that pass the test
--   has-together               a fact is in the two lists together where it is in one of them
--   rising-together            they stand in order
--   next-together              the next of them is the next that is in one of the lists
--   next-answered              what a view answers as the next fact is the next one
--   has-passing                a fact of a list is left where it passes
--   rising-passing             those that are left stand in order
--   has-listed                 a fact is listed where it is in one of the lists and passes
--   rising-listed              they stand in order
use Rattle.std.proofs.Common.{◌≡◌, ℕ, Bool, true, ◌&&◌, ◌||◌, List, filter, Option, sym, ◌∙◌, ap, subst}
use Rattle.std.proofs.Math.Bool.{and_comm}
use Rattle.std.proofs.lemmas.List.Kept.{IsStrictlySortedBy-filter}
use Rattle.std.proofs.lemmas.Map.Views.{any-filter_same}
use Rattle.std.specs.Ordering.{is_eq}
use Rattle.std.specs.Set.{sorted_merge}
use Rattle.std_collections.proofs.SortedSets.{sorted_merged, merge_is_union}
use Rattle.ipa_logic.specs.Facts.{fact_cmp, has, IsRising}
use Rattle.ipa_logic.specs.FactLaws.{fact_cmp_total, same_fact}
use Rattle.ipa_logic.specs.NextLaws.{next-same, next-found}
use Rattle.ipa_logic.specs.EitherLaws.{next-one}
use Rattle.ipa_logic.specs.Views.{next_fact, IsNextOf}
use Rattle.ipa_logic.specs.declared.facts.Fact.{Fact}

-- the facts of two lists in order, in order
abbrev pub together : List Fact → List Fact → List Fact
together one other = sorted_merge fact_cmp true one other

-- those of them that pass the test
abbrev pub listed : (Fact → Bool) → List Fact → List Fact → List Fact
listed test one other = filter test (together one other)

module _ (one other : List Fact) where
  -- a fact is in the two lists together where it is in one of them
  pub has-together : (f : Fact) → has (together one other) f ≡ (has one f || has other f)
  has-together f = merge_is_union fact_cmp_total one other f

  -- they stand in order
  pub rising-together : IsRising one → IsRising other → IsRising (together one other)
  rising-together r q = sorted_merged fact_cmp_total true one other r q

  -- the next of them is the next that is in one of the lists
  pub next-together : IsRising one → IsRising other → (p : ℕ) (after x : Option Fact) →
      IsNextOf (λ f. has one f || has other f) p after x → x ≡ next_fact (together one other) p after
  next-together r q p after x n = next-one p after (has (together one other)) x (next_fact (together one other) p after)
      (next-same p after (λ f. has one f || has other f) (has (together one other)) x (λ f l. sym (has-together f)) n)
      (next-found p after (together one other) (rising-together r q))

-- what a view answers as the next fact is the next one
pub next-answered : (s : List Fact) → IsRising s → (p : ℕ) (after x : Option Fact) → x ≡ next_fact s p after →
    IsNextOf (has s) p after x
next-answered s rises p after x e = subst (IsNextOf (has s) p after) (sym e) (next-found p after s rises)

-- a fact of a list is left where it passes
pub has-passing : (test : Fact → Bool) (s : List Fact) (f : Fact) → has (filter test s) f ≡ (has s f && test f)
has-passing test s f = any-filter_same (λ x. is_eq (fact_cmp f x)) test (test f)
    (λ k h. ap test (sym (same_fact f k h))) s
    ∙ and_comm (test f) (has s f)

-- those that are left stand in order
pub rising-passing : (test : Fact → Bool) (s : List Fact) → IsRising s → IsRising (filter test s)
rising-passing test s rises = IsStrictlySortedBy-filter fact_cmp test s rises

module _ (test : Fact → Bool) (one other : List Fact) where
  -- a fact is listed where it is in one of the lists and passes
  pub has-listed : (f : Fact) → has (listed test one other) f ≡ ((has one f || has other f) && test f)
  has-listed f = has-passing test (together one other) f
      ∙ ap (λ (b : Bool). b && test f) (has-together one other f)

  -- they stand in order
  pub rising-listed : IsRising one → IsRising other → IsRising (listed test one other)
  rising-listed r q = rising-passing test (together one other) (rising-together one other r q)
