use Rattle.std.proofs.Common.{◌≡◌, ◌∙◌, ap, subst}
use Rattle.ipa_spec.specs.Fits.{IsFit}
use Rattle.ipa_spec.specs.declared.specification.Specification.{Specification}
use Rattle.ipa_gate.specs.Settings.{SettingParts, IsSetting}
use Rattle.ipa_gate.proofs.VerdictLemmas.{closed_keeps}
use Rattle.ipa_gate.proofs.laws.law_log_keeps.Goals as goal

pub returns : goal.returns
returns c =
    let same : c.spec.result.now ≡ c.args.log.now.setting.spec = c.spec.ensures.spec
    ∙ (c.accepted.ensures.spec ∙ ap (λ (s : SettingParts). s.spec) c.setting.ensures) in
    closed_keeps c.args.log.now.setting (subst (λ (s : Specification). IsFit s) same c.spec_is_fit.ensures.fit)
    (subst (λ (s : SettingParts). IsSetting s) c.setting.ensures c.accepted.ensures.setting)
    c.args.log.now.entries c.entries-entries.ensures.log c.args.cut.now c.requires
