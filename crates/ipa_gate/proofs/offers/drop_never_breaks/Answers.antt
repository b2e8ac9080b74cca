use Rattle.std.proofs.Common.{subst, ◌∙◌}
use Rattle.ipa_spec.specs.Fits.{IsFit}
use Rattle.ipa_spec.specs.declared.specification.Specification.{Specification}
use Rattle.ipa_gate.proofs.VerdictLemmas.{unlawful_drop}
use Rattle.ipa_gate.proofs.offers.drop_never_breaks.Goals as goal

pub returns : goal.returns
returns c n broken action is =
    unlawful_drop c.args.setting.now
    (subst (λ (s : Specification). IsFit s) (c.spec.ensures.spec ∙ c.accepted.ensures.spec) c.spec_is_fit.ensures.fit)
    c.accepted.ensures.setting c.args.index.now.entries c.requires c.args.tx.now n broken action is
