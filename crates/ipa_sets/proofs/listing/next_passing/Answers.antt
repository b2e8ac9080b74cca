use Rattle.std.proofs.Common.{sym}
use Rattle.ipa_logic.specs.FilterLaws.{find-among, find-nowhere}
use Rattle.ipa_logic.specs.Views.{is_left}
use Rattle.ipa_sets.specs.Listings.{rising-passing}
use Rattle.ipa_sets.proofs.listing.next_passing.Goals as goal

pub returns-then-passes-clause-value : goal.returns-then-passes-clause-value
returns-then-passes-clause-value g c =
    find-among (g.T.Test.passes c.args.test.now) (is_left c.args.predicate c.args.after) (g.V.View.facts c.args.view.now)
    _ c.loop-fact.invariant c.in-Some.fact _ c.in-Some.ensures.steps (sym c.if-passes.ensures)

pub returns-then-passes-clause-rising : goal.returns-then-passes-clause-rising
returns-then-passes-clause-rising g c = rising-passing (g.T.Test.passes c.args.test.now) (g.V.View.facts c.args.view.now)
    c.true_facts_after-fact-items.ensures.rising

pub returns-clause-value : goal.returns-clause-value
returns-clause-value g c =
    find-nowhere (g.T.Test.passes c.args.test.now) (is_left c.args.predicate c.args.after) (g.V.View.facts c.args.view.now)
    _ c.loop-fact.invariant c.in-None.ensures.steps.0

pub returns-clause-rising : goal.returns-clause-rising
returns-clause-rising g c = rising-passing (g.T.Test.passes c.args.test.now) (g.V.View.facts c.args.view.now)
    c.true_facts_after-fact-items.ensures.rising
