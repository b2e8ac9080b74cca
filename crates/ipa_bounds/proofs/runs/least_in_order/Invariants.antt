use Rattle.std.proofs.Common.{◌≡◌, ◌++◌, ◌≤◌, None}
use Rattle.ipa_logic.specs.Walks.{facts_after}
use Rattle.ipa_bounds.specs.Runs.{IsRun}
use Rattle.ipa_bounds.proofs.runs.least_in_order.Given as goal

abbrev pub invariant-loop-fact : goal.invariant-loop-fact
invariant-loop-fact g l = record {
  few : l.run.count ≤ l.bound.most;
  run : IsRun l.bound l.yielded l.run.last l.run.count l.run.over;
  split : l.yielded ++ l.fact-iterator ≡ facts_after (g.V.View.facts l.view) l.bound.predicate None;
}
