use Rattle.std.proofs.Common.{refl, arith}
use Rattle.ipa_bounds.proofs.RunLemmas.{run-end, split-next, split-end}
use Rattle.ipa_bounds.proofs.runs.least_in_order.Goals as goal

pub loop-fact-init : goal.loop-fact-init
loop-fact-init g c = record { few = omega arith; run = (refl, refl); split = rw c.into_iter-fact-iterator.ensures.into_iter_gives c.true_facts-fact-items.ensures.all }

pub loop-fact-preserved : goal.loop-fact-preserved
loop-fact-preserved g c = record {
  few = c.in-Some-with_fact.ensures.few;
  run = c.in-Some-with_fact.ensures.run c.loop-fact.yielded c.loop-fact.invariant.run;
  split = split-next c.loop-fact.yielded _ _ _ c.in-Some.fact c.in-Some.ensures.steps c.loop-fact.invariant.split;
}

pub returns : goal.returns
returns g c = run-end c.args.bound.now (g.V.View.facts c.args.view.now) c.loop-fact.yielded c.loop-fact.run.last c.loop-fact.run.count c.loop-fact.run.over c.loop-fact.invariant.run
    (split-end c.loop-fact.yielded _ _ c.in-None.ensures.steps.0 c.loop-fact.invariant.split)
