-- The state after an action, from one within the bounds.
--
--   judged_after   the first bound that the action overfills there is the first that is exceeded
use Rattle.std.proofs.Common.{◌≡◌, ℕ, true, false, not, ◌&&◌, List, Option, None, Some, sym, ◌∙◌, inl, inr}
use Rattle.std.specs.Option.{MatchOption}
use Rattle.std.proofs.lemmas.Bool.{or_cases, and_parts, both_ways}
use Rattle.ipa_spec.specs.declared.specification.Specification.{Specification}
use Rattle.ipa_spec.specs.declared.operations.Action.{Action}
use Rattle.ipa_logic.specs.DueDrops.{IsFirstOver}
use Rattle.ipa_logic.specs.Facts.{has, IsRising}
use Rattle.ipa_logic.specs.Groups.{Within, key_of}
use Rattle.ipa_logic.specs.Touches.{adds, removes, IsAfter}
use Rattle.ipa_logic.specs.declared.facts.Fact.{Fact}
use Rattle.ipa_overfill.specs.Overfills.{Spares, IsFirstOverfilled}
use Rattle.ipa_overfill.specs.CalmLaws.{spared_bound, spared_within}

module _ (s : Specification) (action : Action) (args : List ℕ) (before after : List Fact) (rising : IsRising before)
    (within : Within s.bounds before) (is : IsAfter s action args before after) where
  -- a fact that is true only after it was added
  added : (f : Fact) → has after f ≡ true → has before f ≡ false → adds s action args f ≡ true
  added f now was = elim (or_cases (adds s action args f) (has before f && not (removes s action args f))
      (sym (is.facts f) ∙ now)) [
        | inl a ↦ a
        | inr b ↦ absurd (both_ways (has before f) was (and_parts (has before f) (not (removes s action args f)) b).0)
      ]

  -- the first bound that the action overfills there is the first that is exceeded
  pub judged_after : (r : Option ℕ) →
      MatchOption r (Spares s action args after) (IsFirstOverfilled s action args after) →
      MatchOption r (Within s.bounds after) (IsFirstOver s.bounds after)
  judged_after None spares = spared_within s before after rising is.rising within
      (λ f now was. record { action = action; args = args; adds_it = added f now was; spares = spares })
  judged_after (Some n) first = record {
    bound = first.bound;
    declared = first.declared;
    key = key_of first.bound first.overfills.fact;
    over = first.overfills.over;
    earlier = λ m b less declared. spared_bound b before after rising is.rising
        (record { groups = λ key. within.groups m b key declared })
        (λ f now was counted. (first.earlier m b less declared).each f (added f now was) counted);
  }
