use Rattle.std.proofs.Common.{length}
use Rattle.ipa_logic.specs.Groups.{group_of}
use Rattle.ipa_bounds.specs.Picks.{pick_ages}
use Rattle.ipa_logic.specs.Walks.{facts_after}
use Rattle.ipa_bounds.proofs.PickLemmas.{Walked}
use Rattle.ipa_bounds.proofs.picks.youngest_of_group.Given as goal

abbrev pub invariant-loop-fact : goal.invariant-loop-fact
invariant-loop-fact g l = Walked (pick_ages l.bound.pick (g.V.AgedView.ages l.view)) (group_of l.bound l.key (g.V.View.facts l.view)) l.bound.predicate l.last l.best

abbrev pub decreases-loop-fact : goal.decreases-loop-fact
decreases-loop-fact g l = length (facts_after (group_of l.bound l.key (g.V.View.facts l.view)) l.bound.predicate l.last)
