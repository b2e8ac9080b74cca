use Rattle.std.proofs.Common.{arith}
use Rattle.std.specs.List.{slice_index}
use Rattle.ipa_ground.proofs.CursorLemmas.{at-bound, at-set_class, at-set_limit}
use Rattle.ipa_ground.proofs.cursor.Cursor.restart.Goals as goal

pub overflow_cast-self-in-loop-place-3 : goal.overflow_cast-self-in-loop-place-3
overflow_cast-self-in-loop-place-3 c =
    let cursor = c.loop-place.invariant.cursor in
    let few = cursor.constants.most (slice_index c.loop-place.self.sorts c.loop-place.place) in
    omega (arith, at-bound _ _ _ _ _ c.loop-place.place (slice_index c.loop-place.self.sorts c.loop-place.place) (omega arith) c.loop-place.invariant.at)

pub open-requires-clause-at : goal.open-requires-clause-at
open-requires-clause-at c = at-set_limit _ _ _ _ _ _ _ _ (omega arith) (at-set_class _ _ _ _ _ _ _ _ (omega arith) c.loop-place.invariant.at)
