use Rattle.std.proofs.Common.{◌∙◌, ◌||◌, ap, refl, sym, subst, Some}
use Rattle.std.specs.Ordering.{is_lt}
use Rattle.ipa_logic.specs.EitherLaws.{lesser-first, lesser-second}
use Rattle.ipa_logic.specs.Views.{IsNextOf}
use Rattle.ipa_sets.proofs.listing.sooner.Goals as goal

pub returns-then-is_lt : goal.returns-then-is_lt
returns-then-is_lt c t u p after = lesser-second p after t u c.args.first (Some c.args.second) c.in-Some.first c.args.second
    c.in-Some.is refl (sym (c.if-is_lt.ensures ∙ ap is_lt c.cmp.ensures))

pub returns-else-is_lt : goal.returns-else-is_lt
returns-else-is_lt c t u p after n m = subst (IsNextOf (λ f. t f || u f) p after) c.in-Some.is
    (lesser-first p after t u c.args.first (Some c.args.second) c.in-Some.first c.args.second
    c.in-Some.is refl (sym (c.if-is_lt.ensures ∙ ap is_lt c.cmp.ensures)) n m)
