use Rattle.std.proofs.Common.{◌≡◌, ◌<◌, length, Some, refl, subst, arith}
use Rattle.std.specs.List.{slice_get}
use Rattle.std.proofs.lemmas.Option.{slice_get_read}
use Rattle.ipa_names.proofs.numbering.clauses_of.Goals as goal

pub clause_of-requires-clause-variables : goal.clause_of-requires-clause-variables
clause_of-requires-clause-variables c =
    let within : c.loop-clause.clause-index < length c.as_slice-clause-items.result.now = omega arith in
    let at = slice_get_read c.as_slice-clause-items.result.now (length c.as_slice-clause-items.result.now) c.loop-clause.clause-index c.clause-item.result refl within c.clause-item.is in
    (c.requires.clauses.each.at c.loop-clause.clause-index c.clause-item.result (subst (λ xs. slice_get xs c.loop-clause.clause-index ≡ Some c.clause-item.result) c.as_slice-clause-items.ensures at)).variable_count
