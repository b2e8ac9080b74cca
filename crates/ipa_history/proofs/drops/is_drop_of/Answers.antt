use Rattle.std.proofs.Common.{List, subst, ◌∙◌}
use Rattle.std.specs.Prelude.{◌↔◌, IsTrue}
use Rattle.ipa_logic.specs.declared.facts.Fact.{Fact}
use Rattle.ipa_history.specs.Legality.{IsDropOf}
use Rattle.ipa_history.proofs.drops.is_drop_of.Goals as goal

pub returns : goal.returns
returns c =
    subst (λ (facts : List Fact). IsTrue c.is_drop_among.result ↔ IsDropOf c.args.spec.now c.args.number c.args.members.now c.args.tx.now facts)
    (c.as_slice.ensures.value ∙ c.in_ok-facts.ensures) c.is_drop_among.ensures
