use Rattle.ipa_logic.specs.Facts.{has}
use Rattle.ipa_logic.specs.Touches.{plain_application}
use Rattle.ipa_logic.specs.ClauseLaws.{KeepBelow}
use Rattle.ipa_touch.proofs.broken.first_broken.Given as goal

abbrev pub invariant-loop-number : goal.invariant-loop-number
invariant-loop-number g l = KeepBelow l.spec l.universe.sizes (plain_application l.spec l.fn.action l.args (has (g.V.View.facts l.view))) l.number
