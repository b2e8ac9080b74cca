-- Groups, counted along a walk.
use Rattle.std.proofs.Common.{◌≡◌, ℕ, ◌+◌, Bool, true, false, ◌&&◌, ◌==◌, List, length, filter, Option, Some, None, refl, sym, ◌∙◌, ap, arith}
use Rattle.std.proofs.lemmas.List.Kept.{IsStrictlySortedBy-filter}
use Rattle.ipa_spec.specs.declared.bounds.Bound.{Bound}
use Rattle.ipa_logic.specs.Facts.{fact_cmp, IsRising}
use Rattle.ipa_logic.specs.Views.{next_fact, is_left}
use Rattle.ipa_logic.specs.Groups.{is_in_group, group_of}
use Rattle.ipa_logic.specs.declared.facts.Fact.{Fact}
use Rattle.ipa_logic.specs.Walks.{facts_after}
use Rattle.ipa_logic.specs.FilterLaws.{filter-filter, filter-behind}
use Rattle.ipa_logic.specs.WalkLaws.{walk-some, filter-find_none}

-- a fact of a group is of the bound's predicate
of-predicate : (a b : Bool) → (a && b) ≡ true → (a && true) ≡ true
of-predicate true b h = refl
of-predicate false b h = h

-- a group is found among the facts of its predicate
pub group-walk : (b : Bound) (key : List ℕ) (s : List Fact) → filter (is_in_group b key) (facts_after s b.predicate None) ≡ group_of b key s
group-walk b key s = filter-filter (is_in_group b key) (λ f. (f.predicate == b.predicate) && true) (λ f h. of-predicate (f.predicate == b.predicate) _ h) s

module _ (b : Bound) (key : List ℕ) (s : List Fact) where
  -- before the first all facts of the group are left
  pub group-counted : length (group_of b key s) ≡ 0 + length (facts_after (group_of b key s) b.predicate None)
  group-counted =
      let whole : length (facts_after (group_of b key s) b.predicate None) ≡ length (group_of b key s) = ap length (filter-behind (is_in_group b key) (is_left b.predicate None) (λ f h. of-predicate (f.predicate == b.predicate) _ h) s) in
      omega arith

  -- each next one is one of those left
  pub member-counted : (last : Option Fact) (f : Fact) → IsRising s → Some f ≡ next_fact (group_of b key s) b.predicate last
      → length (facts_after (group_of b key s) b.predicate last) ≡ 1 + length (facts_after (group_of b key s) b.predicate (Some f))
  member-counted last f r e = ap length (walk-some (λ f. f.predicate == b.predicate) (group_of b key s) last f (IsStrictlySortedBy-filter fact_cmp (is_in_group b key) s r) (sym e)) ∙ omega arith

  -- where there is no next one, none is left
  pub members-counted : (last : Option Fact) → None ≡ next_fact (group_of b key s) b.predicate last → length (facts_after (group_of b key s) b.predicate last) ≡ 0
  members-counted last e = ap length (filter-find_none (is_left b.predicate last) (group_of b key s) (sym e))
