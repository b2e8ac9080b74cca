use Rattle.std.proofs.Common.{length, ap, arith}
use Rattle.ipa_pairs.proofs.actions.action_at.Goals as goal

pub overflow_cast-result : goal.overflow_cast-result
overflow_cast-result c =
    let fit = c.spec_is_fit.ensures.fit in
    omega (arith, fit.operation_count, ap length c.operations.ensures, c.len-operations.ensures, c.if-place-operations.true)

pub overflow_cast-result-else-place-operations : goal.overflow_cast-result-else-place-operations
overflow_cast-result-else-place-operations c =
    let fit = c.spec_is_fit.ensures.fit in
    omega (arith, fit.bound_count, ap length c.operations.ensures, c.len-operations.ensures, c.requires)
