use Rattle.std.proofs.Common.{◌≡◌, ◌∙◌, ap, subst}
use Rattle.ipa_spec.specs.Fits.{IsFit}
use Rattle.ipa_spec.specs.declared.specification.Specification.{Specification}
use Rattle.ipa_lift.specs.FewDrops.{drops_are_few}
use Rattle.ipa_gate.specs.Settings.{SettingParts}
use Rattle.ipa_gate.proofs.laws.law_drops_are_few.Goals as goal

pub returns : goal.returns
returns c =
    let s = c.args.log.now.setting in
    let same : c.spec.result.now ≡ c.args.log.now.setting.spec = c.spec.ensures.spec
    ∙ (c.accepted.ensures.spec ∙ ap (λ (x : SettingParts). x.spec) c.setting.ensures) in
    drops_are_few s.spec (subst (λ (x : Specification). IsFit x) same c.spec_is_fit.ensures.fit) s.universe s.base
    c.args.log.now.entries c.entries-entries.ensures.log.legal c.args.origin
