use Rattle.std.proofs.Common.{not, ◌&&◌, List, ◌∙◌, ap}
use Rattle.std.specs.Ordering.{is_eq}
use Rattle.ipa_logic.specs.Facts.{has, fact_cmp}
use Rattle.ipa_logic.specs.declared.facts.Fact.{Fact}
use Rattle.ipa_logic.proofs.TestsLemmas.{cond-false}
use Rattle.ipa_logic.proofs.state.State.remove.Goals as goal

pub returns-clause-facts : goal.returns-clause-facts
returns-clause-facts c f = c.remove.ensures.updates.0 f ∙ (cond-false (is_eq (fact_cmp c.args.fact.now f)) (has c.self.inside.facts.keys f) ∙ ap (λ (s : List Fact). not (is_eq (fact_cmp c.args.fact.now f)) && has s f) c.self.view_is)
