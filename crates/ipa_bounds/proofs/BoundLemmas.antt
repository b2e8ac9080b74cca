-- Bounds, gone through one after the other.
use Rattle.std.proofs.Common.{◌≡◌, ℕ, ◌+◌, ◌<◌, ◌≤◌, List, [], length, slice_get, Option, None, Some, refl, sym, ◌∙◌, ap, subst, arith, inl, inr, ◌↔◌, IsTrue}
use Rattle.std.proofs.lemmas.Bool.{cases_lt}
use Rattle.std.proofs.lemmas.Option.{slice_get_within}
use Rattle.std.specs.Bool.{MatchBool}
use Rattle.std.specs.Option.{MatchOption, is_some, is_none}
use Rattle.ipa_spec.specs.declared.bounds.Bound.{Bound}
use Rattle.ipa_logic.specs.Groups.{key_of, group_of, Within}
use Rattle.ipa_logic.specs.DueDrops.{IsWithin, IsFirstOver, IsLeastOver, IsPicked, IsDueDrop}
use Rattle.ipa_logic.specs.declared.facts.Age.{Age}
use Rattle.ipa_logic.specs.declared.facts.Fact.{Fact}
use Rattle.ipa_bounds.specs.Choices.{IsChosen, IsOverAt, IsWithinAt}

module _ (bounds : List Bound) (state : List Fact) where
  -- the bound of this number is over where one of its groups is
  pub over-at : (n : ℕ) (b : Bound) (least : Option Fact) → Some b ≡ slice_get bounds n → MatchOption least (IsWithin b state) (λ f. IsLeastOver b (key_of b f) state)
      → MatchBool (is_some least) (IsOverAt bounds state n) (IsWithinAt bounds state n)
  over-at n b None e h = record { within = λ c d. let both : Some b ≡ Some c = e ∙ d in let same : b ≡ c = cc in subst (λ (x : Bound). IsWithin x state) same h }
  over-at n b (Some f) e h = record { bound = b; declared = sym e; key = key_of b f; over = h.over }

  -- the bounds before this number are kept
  pub record WithinBelow (n : ℕ) : Type 0 where
    pub kept : (m : ℕ) (b : Bound) → m < n → slice_get bounds m ≡ Some b → IsWithin b state

  pub below-none : WithinBelow 0
  below-none = record { kept = λ m b l e. absurd (omega arith) }

  pub below-next : (n : ℕ) → WithinBelow n → IsWithinAt bounds state n → WithinBelow (n + 1)
  below-next n below here = record {
    kept = λ m b l e. elim (cases_lt m n) [
      | inl lt ↦ below.kept m b lt e
      | inr ge ↦ let same : m ≡ n = omega arith in here.within b (sym (ap (slice_get bounds) same) ∙ e)
    ];
  }

  pub below-over : (n : ℕ) → WithinBelow n → IsOverAt bounds state n → IsFirstOver bounds state n
  below-over n below here = record { bound = here.bound; declared = here.declared; key = here.key; over = here.over; earlier = below.kept }

  pub below-all : (n : ℕ) → length bounds ≤ n → WithinBelow n → Within bounds state
  below-all n all below = record { groups = λ m b key e. let l : m < length bounds = slice_get_within bounds m b e in (below.kept m b (omega arith) e).groups key }

  -- no first bound is over within the bounds
  pub within-is : (first : Option ℕ) → MatchOption first (Within bounds state) (IsFirstOver bounds state) → IsTrue (is_none first) ↔ Within bounds state
  within-is None h = (λ _. h, λ _. refl)
  within-is (Some n) h = (λ e. cc, λ w. absurd (let few : length (group_of h.bound h.key state) ≤ h.bound.most = w.groups n h.bound h.key h.declared in omega (arith, h.over)))

  -- the drop of the first bound that is over
  pub due-chosen : (ages : Fact → Age) (n : ℕ) (b : Bound) (f : Fact) → IsFirstOver bounds state n → Some b ≡ slice_get bounds n → IsChosen b state ages f → IsDueDrop bounds state ages n f
  due-chosen ages n b f first e chosen = record {
    bound = b;
    key = chosen.key;
    group = record { first = first; declared = sym e; least = chosen.group };
    removed = chosen.picked;
  }

  -- the first bound that is over is declared, and not kept
  pub first-declared : (n : ℕ) → IsFirstOver bounds state n → None ≡ slice_get bounds n → ⊥
  first-declared n first e = let both : None ≡ Some first.bound = e ∙ first.declared in cc

  pub first-not_within : (n : ℕ) (b : Bound) → IsFirstOver bounds state n → Some b ≡ slice_get bounds n → IsWithin b state → ⊥
  first-not_within n b first e within =
      let both : Some b ≡ Some first.bound = e ∙ first.declared in
      let same : b ≡ first.bound = cc in
      let few : length (group_of first.bound first.key state) ≤ first.bound.most = (subst (λ (x : Bound). IsWithin x state) same within).groups first.key in
      omega (arith, first.over)

-- the fact that the bound picks of the group of least key
pub chosen-picked : (b : Bound) (state : List Fact) (ages : Fact → Age) (least : Fact) (found : Option Fact) → IsLeastOver b (key_of b least) state
    → MatchOption found (group_of b (key_of b least) state ≡ []) (IsPicked b.pick ages (group_of b (key_of b least) state)) → MatchOption found (IsWithin b state) (IsChosen b state ages)
chosen-picked b state ages least None over h = absurd (let none : length (group_of b (key_of b least) state) ≡ 0 = ap length h in omega (arith, over.over))
chosen-picked b state ages least (Some f) over h = record { key = key_of b least; group = over; picked = h }
