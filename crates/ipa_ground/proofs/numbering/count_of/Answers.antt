use Rattle.std.proofs.Common.{◌+◌, arith, sym, ap}
use Rattle.ipa_ground.specs.Places.{tuple_count}
use Rattle.ipa_ground.specs.PlaceLaws.{power-below}
use Rattle.ipa_ground.proofs.PlaceLemmas.{first_sizes-none, count-next, power-step}
use Rattle.ipa_ground.proofs.numbering.count_of.Goals as goal

pub loop-place-init : goal.loop-place-init
loop-place-init c = (sym (ap tuple_count (first_sizes-none c.args.universe.now.sizes c.args.predicate.now)), omega arith)

pub overflow_mul-count : goal.overflow_mul-count
overflow_mul-count c =
    omega (arith, power-step c.loop-place.place c.loop-place.count c.size_at-count.result c.loop-place.invariant.1 c.size_at-count.ensures.bound, power-below (c.loop-place.place + 1) (omega arith))

pub loop-place-preserved : goal.loop-place-preserved
loop-place-preserved c = (
  count-next c.args.universe.now.sizes c.args.predicate.now _ _ _ c.loop-place.invariant.0 c.size_at-count.ensures.value,
  power-step _ _ _ c.loop-place.invariant.1 c.size_at-count.ensures.bound,
)

pub returns-clause-bound : goal.returns-clause-bound
returns-clause-bound c = omega (arith, c.loop-place.invariant.1, power-below c.loop-place.place (omega arith))
