use Rattle.std.proofs.Common.{◌≡◌, ◌+◌, ◌-◌, ◌≤◌, length}
use Rattle.ipa_logic.specs.Groups.{group_of}
use Rattle.ipa_logic.specs.Walks.{facts_after}
use Rattle.ipa_bounds.proofs.groups.exceeds.Given as goal

abbrev pub invariant-loop-fact : goal.invariant-loop-fact
invariant-loop-fact g l = record {
  counted : length (group_of l.bound l.key (g.V.View.facts l.view)) ≡ l.count + length (facts_after (group_of l.bound l.key (g.V.View.facts l.view)) l.bound.predicate l.last);
  few : l.count ≤ l.bound.most;
}

abbrev pub decreases-loop-fact : goal.decreases-loop-fact
decreases-loop-fact g l = l.bound.most - l.count
