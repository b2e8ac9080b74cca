use Rattle.std.proofs.Common.{length, ap, arith}
use Rattle.ipa_pairs.proofs.actions.action_count.Goals as goal

pub overflow_add-result : goal.overflow_add-result
overflow_add-result c =
    let fit = c.spec_is_fit.ensures.fit in
    omega (arith, fit.operation_count, fit.bound_count, ap length c.operations.ensures, ap length c.bounds.ensures, c.len.ensures, c.len-2.ensures)
