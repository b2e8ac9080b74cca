use Rattle.std.proofs.Common.{sym, ◌∙◌, ap, subst}
use Rattle.ipa_history.specs.Values.{value_at}
use Rattle.ipa_history.specs.Ages.{age_at, IsDropAt}
use Rattle.ipa_lift.specs.CutLaws.{Agree-turned, value_at-agree, age_at-agree, IsDropAt-agree}
use Rattle.ipa_gate.specs.Settings.{SettingParts}
use Rattle.ipa_gate.proofs.laws.law_equal_cuts.Goals as goal

pub returns : goal.returns
returns c =
    let s = c.args.one.now.setting in
    let one = c.args.one.now.entries in
    let two = c.args.two.now.entries in
    let cut = c.args.cut.now in
    let same = c.requires.setting in
    record {
      values = λ f. value_at-agree s.spec s.base one two cut f c.requires.agree
          ∙ ap (λ (x : SettingParts). value_at x.spec x.base two cut f) same;
      ages = λ f. age_at-agree s.spec one two cut f c.requires.agree
          ∙ ap (λ (x : SettingParts). age_at x.spec two cut f) same;
      drops = λ n f. (
        λ d. subst (λ (x : SettingParts). IsDropAt x.spec x.base two cut n f) same
            (IsDropAt-agree s.spec s.base one two cut n f c.requires.agree d),
        λ d. IsDropAt-agree s.spec s.base two one cut n f (Agree-turned one two cut c.requires.agree)
            (subst (λ (x : SettingParts). IsDropAt x.spec x.base two cut n f) (sym same) d),
      );
    }
