use Rattle.std.proofs.Common.{◌++◌, List, arith, sym, ap, ◌∙◌}
use Rattle.ipa_logic.specs.declared.facts.Fact.{Fact}
use Rattle.ipa_models.proofs.ListingLemmas.{facts_with-none, below-none, below-next, below-all}
use Rattle.ipa_models.proofs.enumeration.+push_facts.Goals as goal

pub returns-then-at-predicate : goal.returns-then-at-predicate
returns-then-at-predicate t c =
    c.in_ok-push.ensures.ok ∙ ap (λ (fs : List Fact). c.args.facts.now ++ fs) (sym (facts_with-none c.args.fact c.args.predicate.now c.args.universe.now.sizes c.args.at (omega arith)))

pub loop-element-init : goal.loop-element-init
loop-element-init t c = below-none _ _ _ _

pub loop-element-preserved : goal.loop-element-preserved
loop-element-preserved t c = below-next c.args.facts.now c.loop-element.facts c.push_facts.new.facts c.args.fact c.args.at c.loop-element.element _ c.loop-element.invariant c.in_ok-push_facts.ensures

pub returns : goal.returns
returns t c =
    below-all c.args.facts.now c.loop-element.facts c.args.fact c.args.predicate.now c.args.universe.now.sizes c.args.at c.loop-element.element (omega arith) (omega (arith, c.size_of-element-end.ensures)) c.loop-element.invariant
