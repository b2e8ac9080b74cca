use Rattle.std.proofs.Common.{MatchOption, List, subst}
use Rattle.ipa_logic.specs.Groups.{Within}
use Rattle.ipa_logic.specs.DueDrops.{IsFirstOver}
use Rattle.ipa_logic.specs.declared.facts.Fact.{Fact}
use Rattle.ipa_logic.specs.AppliedLaws.{IsAfter-one, IsAfter-applied}
use Rattle.ipa_bounds.proofs.over.first_over.Goals as goal

pub returns-clause-first : goal.returns-clause-first
returns-clause-first g c after is =
    subst (λ (t : List Fact). MatchOption c.first_over_in.result (Within c.args.spec.now.bounds t) (IsFirstOver c.args.spec.now.bounds t))
    (IsAfter-one c.args.spec.now c.args.action c.args.args.now (g.V.View.facts c.args.view.now) after is) c.first_over_in.ensures

pub returns-clause-after : goal.returns-clause-after
returns-clause-after g c = (_, IsAfter-applied c.args.spec.now c.args.action c.args.args.now (g.V.View.facts c.args.view.now))
