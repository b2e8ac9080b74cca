use Rattle.ipa_bounds.proofs.ChoiceLemmas.{searched-start, searched-step, searched-end}
use Rattle.ipa_bounds.proofs.groups.least_by_key.Goals as goal

pub loop-fact-init : goal.loop-fact-init
loop-fact-init g c = searched-start _ _ _ (rw c.into_iter-fact-iterator.ensures.into_iter_gives c.true_facts-fact-items.ensures.all)

pub loop-fact-preserved : goal.loop-fact-preserved
loop-fact-preserved g c = searched-step _ _ _ _ c.in-Some.fact _ _ c.in-Some.ensures.steps c.loop-fact.invariant c.better-best.ensures

pub returns : goal.returns
returns g c = searched-end _ _ _ _ c.in-None.ensures.steps.0 c.loop-fact.invariant
