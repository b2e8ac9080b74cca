use Rattle.std.proofs.Common.{arith}
use Rattle.ipa_pairs.proofs.CollectSteps.{pair_start, pair_step, pair_end}
use Rattle.ipa_pairs.proofs.collecting.push_conflicts_of_pair.Goals as goal

pub loop-number-init : goal.loop-number-init
loop-number-init c = (pair_start c.args.spec.now c.args.left c.args.right c.args.conflicts.now, c.requires.of)

pub loop-number-preserved : goal.loop-number-preserved
loop-number-preserved c = (
  pair_step c.args.spec.now c.args.left c.args.right c.loop-number.number _ _ _ c.loop-number.invariant.0 c.in_ok-push_conflict.ensures.extends,
  c.push_conflict.ensures.of,
)

pub returns : goal.returns
returns c =
    record {
      of = c.loop-number.invariant.1;
      extends = pair_end c.args.spec.now c.args.left c.args.right c.loop-number.number _ _
          (omega (arith, c.clause_count-number-end.ensures, c.loop-number-test.false, c.loop-number.auto.number-end)) c.loop-number.invariant.0;
    }
