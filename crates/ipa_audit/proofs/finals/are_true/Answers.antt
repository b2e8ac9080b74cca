use Rattle.std.proofs.Common.{sym, ◌∙◌, ap}
use Rattle.std.specs.List.{list_all}
use Rattle.ipa_logic.specs.Facts.{has}
use Rattle.ipa_audit.proofs.FinalLemmas.{all_true, true_all}
use Rattle.ipa_audit.proofs.finals.are_true.Goals as goal

pub returns : goal.returns
returns g c =
    let s = g.V.View.facts c.args.view.now in
    let same = c.as_slice.ensures.value ∙ c.in_ok-facts.ensures in (
      λ h. all_true s c.args.state.now (ap (list_all (has s)) (sym same) ∙ (sym c.hold_all.ensures ∙ h)),
      λ all. c.hold_all.ensures ∙ (ap (list_all (has s)) same ∙ true_all s c.args.state.now all),
    )
