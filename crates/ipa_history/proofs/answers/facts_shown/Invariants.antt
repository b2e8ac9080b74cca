use Rattle.std.proofs.Common.{filter, length}
use Rattle.ipa_logic.specs.Walks.{facts_after}
use Rattle.ipa_history.specs.Answers.{is_shown}
use Rattle.ipa_history.proofs.ShownLemmas.{AreShown}
use Rattle.ipa_history.proofs.answers.facts_shown.Given as goal

abbrev pub invariant-loop-fact : goal.invariant-loop-fact
invariant-loop-fact g l =
    AreShown (is_shown l.predicate l.places) l.shown
    (facts_after (filter (is_shown l.predicate l.places) (g.V.View.facts l.view)) l.predicate l.last)
    (g.V.View.facts l.view)

abbrev pub decreases-loop-fact : goal.decreases-loop-fact
decreases-loop-fact g l =
    length (facts_after (filter (is_shown l.predicate l.places) (g.V.View.facts l.view)) l.predicate l.last)
