use Rattle.std.proofs.Common.{length, arith, ap, ◌∙◌}
use Rattle.ipa_spec.specs.Constants.{constants_of}
use Rattle.ipa_pairs.proofs.constants.constant_count.Goals as goal

pub overflow_cast-result : goal.overflow_cast-result
overflow_cast-result c =
    omega (
      arith,
      c.count_of.ensures ∙ ap (λ cs. length (constants_of cs c.args.sort)) (c.as_slice.ensures ∙ c.constants.ensures),
      c.spec_is_fit.ensures.fit.constant_most c.args.sort,
    )
