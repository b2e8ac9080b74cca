use Rattle.std.proofs.Common.{◌+◌, [], arith, sym, ap}
use Rattle.ipa_ground.specs.Places.{tuple_place}
use Rattle.ipa_ground.specs.PlaceLaws.{power-below}
use Rattle.ipa_ground.proofs.PlaceLemmas.{first_sizes-none, number-next, place-step}
use Rattle.ipa_ground.proofs.numbering.number_in.Goals as goal

pub loop-place-init : goal.loop-place-init
loop-place-init c = (sym (ap (λ sizes. tuple_place sizes []) (first_sizes-none c.args.universe.now.sizes c.args.predicate.now)), omega arith)

pub overflow_mul-number : goal.overflow_mul-number
overflow_mul-number c =
    omega (arith, place-step c.loop-place.place c.loop-place.number c.size_at.result 0 c.loop-place.invariant.1 c.size_at.ensures.bound (omega arith), power-below (c.loop-place.place + 1) (omega arith))

pub overflow_add-number : goal.overflow_add-number
overflow_add-number c =
    let below = c.requires.placed.elements c.loop-place.place (omega arith) in
    omega (arith, place-step c.loop-place.place c.loop-place.number c.size_at.result c.from.result c.loop-place.invariant.1 c.size_at.ensures.bound (omega (arith, c.size_at.ensures.value)), power-below (c.loop-place.place + 1) (omega arith))

pub loop-place-preserved : goal.loop-place-preserved
loop-place-preserved c =
    let below = c.requires.placed.elements c.loop-place.place (omega arith) in (
      number-next c.args.universe.now.sizes c.args.predicate.now c.args.fact.now.args _ _ _ _ c.loop-place.invariant.0 c.size_at.ensures.value (omega (arith, c.requires.placed.width)) c.from.ensures,
      place-step _ _ _ _ c.loop-place.invariant.1 c.size_at.ensures.bound (omega (arith, c.size_at.ensures.value)),
    )

pub returns-clause-bound : goal.returns-clause-bound
returns-clause-bound c = omega (arith, c.loop-place.invariant.1, power-below c.loop-place.place (omega arith))
