use Rattle.ipa_sets.proofs.FillLemmas.{rules-all}
use Rattle.ipa_sets.proofs.facts.adds_win.Goals as goal

pub returns : goal.returns
returns c = rules-all c.args.spec.now c.spec_is_fit.ensures.fit.predicate_count c.loop-number.adds_win c.loop-number.number
    c.loop-number-test.false c.loop-number.invariant
