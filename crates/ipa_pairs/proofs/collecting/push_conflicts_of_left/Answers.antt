use Rattle.std.proofs.Common.{arith}
use Rattle.ipa_pairs.proofs.CollectSteps.{left_start, left_step, left_end}
use Rattle.ipa_pairs.proofs.collecting.push_conflicts_of_left.Goals as goal

pub loop-place-init : goal.loop-place-init
loop-place-init c = (left_start c.args.spec.now c.args.left c.args.conflicts.now, c.requires.of)

pub loop-place-preserved : goal.loop-place-preserved
loop-place-preserved c = (
  left_step c.args.spec.now c.args.left c.action_at.result c.loop-place.place _ _ _ c.action_at.ensures.declared c.action_at.ensures.place
      c.loop-place.invariant.0 c.in_ok-push_conflicts_of_pair.ensures.extends,
  c.push_conflicts_of_pair.ensures.of,
)

pub returns : goal.returns
returns c =
    record {
      of = c.loop-place.invariant.1;
      extends = left_end c.args.spec.now c.args.left c.loop-place.place _ _
          (omega (arith, c.action_count-place-end.ensures, c.loop-place-test.false, c.loop-place.auto.place-end)) c.loop-place.invariant.0;
    }
