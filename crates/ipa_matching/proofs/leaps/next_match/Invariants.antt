use Rattle.std.proofs.Common.{◌≡◌, length, filter}
use Rattle.ipa_logic.specs.Views.{next_fact}
use Rattle.ipa_logic.specs.Walks.{facts_after}
use Rattle.ipa_matching.specs.Matches.{is_match}
use Rattle.ipa_matching.proofs.leaps.next_match.Given as goal

abbrev pub invariant-loop-fact : goal.invariant-loop-fact
invariant-loop-fact g l =
    next_fact (filter (is_match l.predicate l.places) (g.V.View.facts l.view)) l.predicate l.place
    ≡ next_fact (filter (is_match l.predicate l.places) (g.V.View.facts l.view)) l.predicate l.fn.after

abbrev pub decreases-loop-fact : goal.decreases-loop-fact
decreases-loop-fact g l = length (facts_after (g.V.View.facts l.view) l.predicate l.place)
