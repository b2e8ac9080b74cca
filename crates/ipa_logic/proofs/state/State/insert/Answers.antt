use Rattle.std.proofs.Common.{◌||◌, List, ◌∙◌, ap}
use Rattle.std.specs.Ordering.{is_eq}
use Rattle.ipa_logic.specs.Facts.{has, fact_cmp}
use Rattle.ipa_logic.specs.declared.facts.Fact.{Fact}
use Rattle.ipa_logic.proofs.TestsLemmas.{cond-true}
use Rattle.ipa_logic.proofs.state.State.insert.Goals as goal

pub returns-clause-facts : goal.returns-clause-facts
returns-clause-facts c f = c.in_ok-added.ensures.updates.0 f ∙ (cond-true (is_eq (fact_cmp c.args.fact f)) (has c.self.inside.facts.keys f) ∙ ap (λ (s : List Fact). is_eq (fact_cmp c.args.fact f) || has s f) c.self.view_is)
