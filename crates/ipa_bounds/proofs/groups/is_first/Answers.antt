use Rattle.std.proofs.Common.{sym, ◌∙◌, ap}
use Rattle.std.specs.Ordering.{is_eq}
use Rattle.ipa_bounds.proofs.ChoiceLemmas.{first-same}
use Rattle.ipa_bounds.proofs.groups.is_first.Goals as goal

pub returns-in-Some : goal.returns-in-Some
returns-in-Some g c =
    let same = first-same _ c.in-Some.first c.args.fact.now c.in-Some.ensures.value in
    let test = c.is_eq.ensures ∙ ap is_eq c.cmp.ensures in
    (λ h. same.0 (sym test ∙ h), λ h. test ∙ same.1 h)
