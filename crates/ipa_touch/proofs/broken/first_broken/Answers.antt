use Rattle.std.proofs.Common.{◌≡◌, ◌≤◌, length, ap, arith, ◌∙◌}
use Rattle.ipa_logic.specs.ClauseLaws.{clause_at, keep-next, keep-first, keep-all}
use Rattle.ipa_touch.proofs.broken.first_broken.Goals as goal

pub first_broken_values-requires-clause-short : goal.first_broken_values-requires-clause-short
first_broken_values-requires-clause-short g c = c.spec_is_fit.ensures.fit.variable_count _ _
    (clause_at _ _ _ _ (c.as_slice-clause-items.ensures ∙ c.clauses.ensures) (omega arith) c.clause-item.is)

pub first_broken_values-requires-clause-kept : goal.first_broken_values-requires-clause-kept
first_broken_values-requires-clause-kept g c = c.requires.clauses _ _
    (clause_at _ _ _ _ (c.as_slice-clause-items.ensures ∙ c.clauses.ensures) (omega arith) c.clause-item.is)

pub overflow_cast-result : goal.overflow_cast-result
overflow_cast-result g c =
    let few : length c.args.spec.now.clauses ≤ 32 = c.spec_is_fit.ensures.fit.clause_count in
    let same : length c.as_slice-clause-items.result.now ≡ length c.args.spec.now.clauses = ap length (c.as_slice-clause-items.ensures ∙ c.clauses.ensures) in
    omega arith

pub returns-in-Some : goal.returns-in-Some
returns-in-Some g c = keep-first _ _ _ _ _ _
    (clause_at _ _ _ _ (c.as_slice-clause-items.ensures ∙ c.clauses.ensures) (omega arith) c.clause-item.is) c.loop-number.invariant c.in-Some.ensures.over c.in-Some.ensures.fails c.in-Some.ensures.earlier

pub loop-number-preserved : goal.loop-number-preserved
loop-number-preserved g c = keep-next _ _ _ _ _
    (clause_at _ _ _ _ (c.as_slice-clause-items.ensures ∙ c.clauses.ensures) (omega arith) c.clause-item.is) c.loop-number.invariant c.in_default.ensures

pub returns : goal.returns
returns g c = keep-all _ _ _ _ (let same : length c.as_slice-clause-items.result.now ≡ length c.args.spec.now.clauses = ap length (c.as_slice-clause-items.ensures ∙ c.clauses.ensures) in omega arith) c.loop-number.invariant
