use Rattle.std.proofs.Common.{sym, ◌∙◌}
use Rattle.ipa_logic.specs.Facts.{has}
use Rattle.ipa_sets.proofs.ListingLemmas.{put-passing, put-failing}
use Rattle.ipa_sets.proofs.listing.insert_if_passing.Goals as goal

pub returns-in_ok-insert-clause-facts : goal.returns-in_ok-insert-clause-facts
returns-in_ok-insert-clause-facts g c f = c.in_ok-insert.ensures.facts f
    ∙ put-passing (g.T.Test.passes c.args.test.now) c.args.fact.now f (has c.args.state.now f) (sym c.if-passes.ensures)

pub returns-else-passes-clause-facts : goal.returns-else-passes-clause-facts
returns-else-passes-clause-facts g c f =
    put-failing (g.T.Test.passes c.args.test.now) c.args.fact.now f (has c.args.state.now f) (sym c.if-passes.ensures)
