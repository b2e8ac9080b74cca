use Rattle.std.proofs.Common.{sym, ◌∙◌}
use Rattle.ipa_spec.specs.Actions.{effects_of}
use Rattle.ipa_logic.specs.Facts.{has}
use Rattle.ipa_logic.specs.Touches.{some_takes}
use Rattle.ipa_logic.proofs.ApplicationLemmas.{taken-same, kept-same}
use Rattle.ipa_logic.proofs.application.keep_unless_removed.Goals as goal

pub returns-then-matches_remove : goal.returns-then-matches_remove
returns-then-matches_remove c f = taken-same (some_takes c.args.spec.now (effects_of c.args.spec.now c.args.action) c.args.args.now) c.args.fact.now f (has c.args.left.now f) (sym c.if-matches_remove.ensures)

pub returns : goal.returns
returns c f = c.in_ok-insert.ensures.facts f ∙ kept-same (some_takes c.args.spec.now (effects_of c.args.spec.now c.args.action) c.args.args.now) c.args.fact.now f (has c.args.left.now f) (sym c.if-matches_remove.ensures)
