use Rattle.std.proofs.Common.{MatchOption, List, subst}
use Rattle.ipa_logic.specs.Groups.{Within}
use Rattle.ipa_logic.specs.DueDrops.{IsFirstOver}
use Rattle.ipa_logic.specs.AppliedLaws.{IsAfter-one, IsAfter-applied}
use Rattle.ipa_logic.specs.declared.facts.Fact.{Fact}
use Rattle.ipa_overfill.proofs.AfterLemmas.{judged_after}
use Rattle.ipa_overfill.proofs.after.first_over_after.Goals as goal

pub returns : goal.returns
returns g c after is =
    let s = c.args.spec.now in
    let before = g.V.View.facts c.args.view.now in
    subst (λ (t : List Fact). MatchOption c.first_overfilled.result (Within s.bounds t) (IsFirstOver s.bounds t))
    (IsAfter-one s c.args.action c.args.args.now before after is)
    (judged_after s c.args.action c.args.args.now before _ c.requires.rising c.requires.within
    (IsAfter-applied s c.args.action c.args.args.now before) c.first_overfilled.result c.first_overfilled.ensures)
