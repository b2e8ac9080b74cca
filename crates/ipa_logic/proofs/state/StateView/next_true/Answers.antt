use Rattle.std.proofs.Common.{◌∙◌, ap, List, filter}
use Rattle.std.specs.BTreeMap.Range.{range_contains}
use Rattle.ipa_logic.specs.Facts.{fact_cmp}
use Rattle.ipa_logic.specs.declared.facts.Fact.{Fact}
use Rattle.ipa_logic.proofs.RangeLemmas.{next-in_range}
use Rattle.ipa_logic.proofs.state.StateView.next_true.Goals as goal

pub returns-clause-value : goal.returns-clause-value
returns-clause-value c = c.first_above.ensures
    ∙ next-in_range c.args.predicate c.args.after c.start_of.result c.end_of.result c.args.self.now c.range.result c.start_of.ensures c.end_of.ensures
    (c.range.ensures.between tt ∙ ap (λ (s : List Fact). filter (range_contains fact_cmp c.start_of.result c.end_of.result) s) c.self.view_is)
