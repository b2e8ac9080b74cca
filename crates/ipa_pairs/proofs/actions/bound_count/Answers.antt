use Rattle.std.proofs.Common.{length, ap, arith}
use Rattle.ipa_pairs.proofs.actions.bound_count.Goals as goal

pub overflow_cast-result : goal.overflow_cast-result
overflow_cast-result c =
    omega (arith, c.spec_is_fit.ensures.fit.bound_count, ap length c.bounds.ensures, c.len.ensures)
