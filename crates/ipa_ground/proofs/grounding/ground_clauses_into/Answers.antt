use Rattle.std.proofs.Common.{◌≡◌, length, arith, ap, ◌∙◌}
use Rattle.ipa_logic.specs.ClauseLaws.{clause_at}
use Rattle.ipa_ground.specs.InstanceLaws.{ClauseFits-declared}
use Rattle.ipa_ground.proofs.InstanceLemmas.{fills-clause, keeps-next, keeps-all}
use Rattle.ipa_ground.proofs.grounding.ground_clauses_into.Goals as goal

pub ground_values-requires-clause-declared : goal.ground_values-requires-clause-declared
ground_values-requires-clause-declared c = record {
  place = c.loop-clause.clause-index;
  there = clause_at _ _ _ _ (c.as_slice-clause-items.ensures ∙ c.clauses.ensures) c.loop-clause-test.true c.clause-item.is;
}

pub ground_values-requires-clause-fits : goal.ground_values-requires-clause-fits
ground_values-requires-clause-fits c = ClauseFits-declared c.args.spec.now c.loop-clause.clause-index c.clause-item.result c.spec_is_fit.ensures.fit
    (clause_at _ _ _ _ (c.as_slice-clause-items.ensures ∙ c.clauses.ensures) c.loop-clause-test.true c.clause-item.is)

pub ground_values-requires-clause-over : goal.ground_values-requires-clause-over
ground_values-requires-clause-over c = fills-clause c.args.spec.now c.args.universe.now.sizes c.loop-clause.clause-index c.clause-item.result c.spec_is_fit.ensures.fit
    (clause_at _ _ _ _ (c.as_slice-clause-items.ensures ∙ c.clauses.ensures) c.loop-clause-test.true c.clause-item.is)

pub loop-clause-preserved : goal.loop-clause-preserved
loop-clause-preserved c =
    let here = clause_at _ _ _ _ (c.as_slice-clause-items.ensures ∙ c.clauses.ensures) c.loop-clause-test.true c.clause-item.is in
    keeps-next _ _ _ _ _ _ _ _ here (c.spec_is_fit.ensures.fit.variable_count _ _ here) c.loop-clause.invariant c.in_ok-ground_values.ensures.narrows c.in_ok-ground_values.ensures.ok

pub returns-clause-ok : goal.returns-clause-ok
returns-clause-ok c = keeps-all _ _ _ _ _ _ (let same : length c.as_slice-clause-items.result.now ≡ length c.args.spec.now.clauses = ap length (c.as_slice-clause-items.ensures ∙ c.clauses.ensures) in omega arith) c.loop-clause.invariant
