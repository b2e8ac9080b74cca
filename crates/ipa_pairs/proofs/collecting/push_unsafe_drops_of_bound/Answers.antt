use Rattle.std.proofs.Common.{arith}
use Rattle.ipa_pairs.proofs.CollectSteps.{bound_start, bound_step, bound_end}
use Rattle.ipa_pairs.proofs.collecting.push_unsafe_drops_of_bound.Goals as goal

pub loop-number-init : goal.loop-number-init
loop-number-init c = (bound_start c.args.spec.now c.args.bound c.args.unsafe_drops.now, c.requires.of)

pub loop-number-preserved : goal.loop-number-preserved
loop-number-preserved c = (
  bound_step c.args.spec.now c.args.bound c.loop-number.number _ _ _ c.loop-number.invariant.0 c.in_ok-push_unsafe_drop.ensures.extends,
  c.push_unsafe_drop.ensures.of,
)

pub returns : goal.returns
returns c =
    record {
      of = c.loop-number.invariant.1;
      extends = bound_end c.args.spec.now c.args.bound c.loop-number.number _ _
          (omega (arith, c.clause_count-number-end.ensures, c.loop-number-test.false, c.loop-number.auto.number-end)) c.loop-number.invariant.0;
    }
