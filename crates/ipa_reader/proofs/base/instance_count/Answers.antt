use Rattle.std.proofs.Common.{◌≡◌, ◌<◌, length, Some, refl, ap, subst, ◌∙◌, arith}
use Rattle.std.specs.List.{slice_get}
use Rattle.std.proofs.lemmas.Option.{slice_get_read}
use Rattle.ipa_reader.proofs.base.instance_count.Goals as goal

pub value_count-total-requires-clause-short : goal.value_count-total-requires-clause-short
value_count-total-requires-clause-short c =
    let fit = c.spec_is_fit.ensures.fit in
    let within : c.loop-clause.clause-index < length c.as_slice-clause-items.result.now = omega arith in
    let at = slice_get_read c.as_slice-clause-items.result.now (length c.as_slice-clause-items.result.now) c.loop-clause.clause-index c.clause-item.result refl within c.clause-item.is in
    let here = subst (λ xs. slice_get xs c.loop-clause.clause-index ≡ Some c.clause-item.result) (c.as_slice-clause-items.ensures ∙ c.clauses.ensures) at in
    omega (arith, fit.variable_count c.loop-clause.clause-index c.clause-item.result here, ap length c.as_slice.ensures)

pub overflow_add-total : goal.overflow_add-total
overflow_add-total c =
    let fit = c.spec_is_fit.ensures.fit in
    let all = ap length (c.as_slice-clause-items.ensures ∙ c.clauses.ensures) in
    omega (arith, fit.clause_count, all, c.loop-clause.invariant.within, c.value_count-total.ensures.within)
