use Rattle.std.proofs.Common.{sym, ◌∙◌}
use Rattle.std.proofs.lemmas.List.{take_more}
use Rattle.ipa_pairs.specs.Examples.{with_fact}
use Rattle.ipa_pairs.proofs.GatherLemmas.{with_each-more}
use Rattle.ipa_pairs.proofs.hiding.hidden_facts.Goals as goal

pub loop-literal-preserved : goal.loop-literal-preserved
loop-literal-preserved c =
    c.in_ok-add_once.ensures ∙ ((λ i. with_fact (c.loop-literal.invariant i) (c.hidden_fact.ensures i))
    ∙ sym (with_each-more _ c.args.literals.now c.loop-literal.literal-index _ (take_more c.args.literals.now c.loop-literal.literal-index _ c.loop-literal-test.true)))
