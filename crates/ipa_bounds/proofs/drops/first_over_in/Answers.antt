use Rattle.std.proofs.Common.{arith}
use Rattle.ipa_bounds.proofs.BoundLemmas.{below-next, below-all}
use Rattle.ipa_bounds.proofs.drops.first_over_in.Goals as goal

pub loop-number-preserved : goal.loop-number-preserved
loop-number-preserved g c = below-next _ _ _ c.loop-number.invariant c.if-is_over.ensures

pub returns : goal.returns
returns g c = below-all _ _ _ (omega (arith, c.bound_count-number-end.ensures)) c.loop-number.invariant
