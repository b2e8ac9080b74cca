use Rattle.std.proofs.Common.{◌≡◌, ◌≤◌, length, arith, ◌∙◌, ap}
use Rattle.ipa_logic.specs.ClauseLaws.{clause_at, keep-all}
use Rattle.ipa_logic.proofs.ClausesLemmas.{keep-passed, first-failed}
use Rattle.ipa_logic.proofs.keeping.keeps.Goals as goal

pub first_broken_values-requires-clause-short : goal.first_broken_values-requires-clause-short
first_broken_values-requires-clause-short c = c.spec_is_fit.ensures.fit.variable_count _ _ (clause_at _ _ _ _ (c.as_slice-clause-items.ensures ∙ c.clauses.ensures) (omega arith) c.clause-item.is)

pub overflow_cast-result : goal.overflow_cast-result
overflow_cast-result c =
    let few : length c.args.spec.now.clauses ≤ 32 = c.spec_is_fit.ensures.fit.clause_count in
    let same : length c.as_slice-clause-items.result.now ≡ length c.args.spec.now.clauses = ap length (c.as_slice-clause-items.ensures ∙ c.clauses.ensures) in
    omega arith

pub returns-in-Some : goal.returns-in-Some
returns-in-Some c = first-failed _ _ _ _ _ _ _ (clause_at _ _ _ _ (c.as_slice-clause-items.ensures ∙ c.clauses.ensures) (omega arith) c.clause-item.is) c.loop-number.invariant c.in-Some.ensures

pub loop-number-preserved : goal.loop-number-preserved
loop-number-preserved c = keep-passed _ _ _ _ _ _ (clause_at _ _ _ _ (c.as_slice-clause-items.ensures ∙ c.clauses.ensures) (omega arith) c.clause-item.is) c.loop-number.invariant c.in_default.ensures

pub returns : goal.returns
returns c = keep-all _ _ _ _ (let same : length c.as_slice-clause-items.result.now ≡ length c.args.spec.now.clauses = ap length (c.as_slice-clause-items.ensures ∙ c.clauses.ensures) in omega arith) c.loop-number.invariant
