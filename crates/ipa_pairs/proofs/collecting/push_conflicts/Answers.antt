use Rattle.std.proofs.Common.{arith}
use Rattle.ipa_pairs.proofs.CollectSteps.{all_start, all_step, all_end}
use Rattle.ipa_pairs.proofs.collecting.push_conflicts.Goals as goal

pub loop-place-init : goal.loop-place-init
loop-place-init c = (all_start c.args.spec.now c.args.conflicts.now, c.requires.of)

pub loop-place-preserved : goal.loop-place-preserved
loop-place-preserved c = (
  all_step c.args.spec.now c.action_at.result c.loop-place.place _ _ _ c.action_at.ensures.declared c.action_at.ensures.place
      c.loop-place.invariant.0 c.in_ok-push_conflicts_of_left.ensures.extends,
  c.push_conflicts_of_left.ensures.of,
)

pub returns : goal.returns
returns c =
    record {
      of = c.loop-place.invariant.1;
      extends = all_end c.args.spec.now c.loop-place.place _ _
          (omega (arith, c.action_count-place-end.ensures, c.loop-place-test.false, c.loop-place.auto.place-end)) c.loop-place.invariant.0;
    }
