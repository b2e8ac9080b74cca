use Rattle.std.proofs.Common.{arith}
use Rattle.ipa_pairs.proofs.CollectSteps.{drops_start, drops_step, drops_end}
use Rattle.ipa_pairs.proofs.collecting.push_unsafe_drops.Goals as goal

pub loop-bound-init : goal.loop-bound-init
loop-bound-init c = (drops_start c.args.spec.now c.args.unsafe_drops.now, c.requires.of)

pub loop-bound-preserved : goal.loop-bound-preserved
loop-bound-preserved c = (
  drops_step c.args.spec.now c.loop-bound.bound _ _ _ c.loop-bound.invariant.0 c.in_ok-push_unsafe_drops_of_bound.ensures.extends,
  c.push_unsafe_drops_of_bound.ensures.of,
)

pub returns : goal.returns
returns c =
    record {
      of = c.loop-bound.invariant.1;
      extends = drops_end c.args.spec.now c.loop-bound.bound _ _
          (omega (arith, c.bound_count-bound-end.ensures, c.loop-bound-test.false, c.loop-bound.auto.bound-end)) c.loop-bound.invariant.0;
    }
