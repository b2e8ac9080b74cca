use Rattle.std.proofs.Common.{◌≡◌, ◌≤◌, length, ap, ◌∙◌, arith}
use Rattle.ipa_bounds.proofs.drops.bound_count.Goals as goal

pub overflow_cast-result : goal.overflow_cast-result
overflow_cast-result c =
    let few : length c.args.spec.now.bounds ≤ 8 = c.spec_is_fit.ensures.fit.bound_count in
    let same : c.len.result ≡ length c.args.spec.now.bounds = c.len.ensures ∙ ap length c.bounds.ensures in
    omega arith
