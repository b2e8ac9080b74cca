use Rattle.std.proofs.Common.{sym, refl}
use Rattle.ipa_bounds.proofs.ChoiceLemmas.{better-new}
use Rattle.ipa_bounds.proofs.groups.better.Goals as goal

pub returns-then-leads_excess : goal.returns-then-leads_excess
returns-then-leads_excess g c = better-new _ _ _ _ (sym c.if-comes_before.ensures) (c.if-leads_excess.ensures.0 refl)
