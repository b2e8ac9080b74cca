use Rattle.std.proofs.Common.{◌≡◌, [], ◌∷◌, ap, ◌∙◌}
use Rattle.ipa_spec.specs.Limits.{first_there, first_limit, limits_passed}
use Rattle.ipa_spec.proofs.faults.limits.first_limit.Goals as goal

pub returns : goal.returns
unfolding first_limit
returns c =
    let same :
    (c.count_above.result ∷ c.count_above-2.result ∷ c.passed.result ∷ c.count_above-3.result ∷
    c.passed-2.result ∷ c.passed-3.result ∷ c.count_above-4.result ∷ c.passed-4.result ∷
    c.passed-5.result ∷ c.passed-6.result ∷ c.count_above-5.result ∷ c.passed-7.result ∷
    c.passed-8.result ∷ c.passed-9.result ∷ []) ≡ limits_passed c.args.parts.now = cc in
    c.first_there.ensures ∙ ap first_there same
