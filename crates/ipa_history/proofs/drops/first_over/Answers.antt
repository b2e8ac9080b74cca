use Rattle.std.proofs.Common.{List, subst, ◌∙◌}
use Rattle.std.specs.Prelude.{MatchOption}
use Rattle.ipa_logic.specs.Groups.{Within}
use Rattle.ipa_logic.specs.DueDrops.{IsFirstOver}
use Rattle.ipa_logic.specs.declared.facts.Fact.{Fact}
use Rattle.ipa_history.proofs.DropLemmas.{first_over_found}
use Rattle.ipa_history.proofs.drops.first_over.Goals as goal

pub returns : goal.returns
returns c =
    let bounds = c.args.spec.now.bounds in
    let first = c.first_over_among.result in
    subst (λ (facts : List Fact). MatchOption first (Within bounds facts) (IsFirstOver bounds facts))
    (c.as_slice.ensures.value ∙ c.in_ok-facts.ensures) (first_over_found bounds c.as_slice.result.now first c.first_over_among.ensures)
