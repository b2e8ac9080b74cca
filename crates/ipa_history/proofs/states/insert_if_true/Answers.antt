use Rattle.std.proofs.Common.{sym, ◌∙◌}
use Rattle.ipa_logic.specs.Facts.{has}
use Rattle.ipa_history.specs.Values.{value_of}
use Rattle.ipa_history.proofs.StateLemmas.{put-true, put-false}
use Rattle.ipa_history.proofs.states.insert_if_true.Goals as goal

pub returns-in_ok-insert-clause-facts : goal.returns-in_ok-insert-clause-facts
returns-in_ok-insert-clause-facts c f = c.in_ok-insert.ensures.facts f
    ∙ put-true (value_of c.args.spec.now c.args.base.now c.args.members.now) c.args.fact.now f (has c.args.state.now f)
    (sym c.if-value_of.ensures)

pub returns-else-value_of-clause-facts : goal.returns-else-value_of-clause-facts
returns-else-value_of-clause-facts c f = put-false (value_of c.args.spec.now c.args.base.now c.args.members.now) c.args.fact.now f (has c.args.state.now f) (sym c.if-value_of.ensures)
