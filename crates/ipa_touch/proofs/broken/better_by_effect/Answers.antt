use Rattle.ipa_touch.proofs.BestLemmas.{improves-found}
use Rattle.ipa_touch.proofs.broken.better_by_effect.Goals as goal

pub returns-in-Some : goal.returns-in-Some
returns-in-Some g c = improves-found _ _ _ _ c.in-Some.pins _ c.args.best c.first_pinned.result c.earlier.result c.in-Some.ensures c.first_pinned.ensures c.earlier.ensures
