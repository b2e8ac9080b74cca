use Rattle.ipa_bounds.proofs.RunLemmas.{step-passed, step-over, step-within}
use Rattle.ipa_bounds.proofs.runs.with_fact.Goals as goal

pub returns-then-is_some-clause-run : goal.returns-then-is_some-clause-run
returns-then-is_some-clause-run c seen r = step-passed _ seen _ _ c.in_ok-count.count _ c.args.run.over _ c.if-is_some.ensures r c.in_ok-count.ensures.value

pub returns-then-count-bound-clause-run : goal.returns-then-count-bound-clause-run
returns-then-count-bound-clause-run c seen r = step-over _ seen _ _ c.in_ok-count.count _ c.args.run.over c.in_ok-count.count c.if-is_some.ensures r c.in_ok-count.ensures.value c.if-count-bound.true

pub returns-clause-run : goal.returns-clause-run
returns-clause-run c seen r = step-within _ seen _ _ c.in_ok-count.count _ c.args.run.over c.if-is_some.ensures r c.in_ok-count.ensures.value c.if-count-bound.false
