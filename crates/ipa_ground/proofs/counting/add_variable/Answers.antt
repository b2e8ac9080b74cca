use Rattle.std.proofs.Common.{arith}
use Rattle.ipa_ground.proofs.CountLemmas.{next-none, next-more, next-all, next-fits}
use Rattle.ipa_ground.proofs.counting.add_variable.Goals as goal

pub loop-used-init : goal.loop-used-init
loop-used-init c = next-none _ _ c.requires.row

pub overflow_mul-row : goal.overflow_mul-row
overflow_mul-row c = omega (arith, next-fits _ _ _ c.requires.few (omega arith) c.loop-used.invariant)

pub overflow_add-row-in-loop-used : goal.overflow_add-row-in-loop-used
overflow_add-row-in-loop-used c = omega (arith, next-fits _ _ _ c.requires.few (omega arith) c.loop-used.invariant)

pub loop-used-preserved : goal.loop-used-preserved
loop-used-preserved c = next-more _ _ _ (omega arith) c.loop-used.invariant

pub returns : goal.returns
returns c = next-all _ _ _ (omega arith) c.loop-used.invariant
