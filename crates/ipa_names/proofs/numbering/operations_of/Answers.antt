use Rattle.std.proofs.Common.{◌≡◌, ◌<◌, length, Some, refl, subst, arith}
use Rattle.std.specs.List.{slice_get}
use Rattle.std.proofs.lemmas.Option.{slice_get_read}
use Rattle.ipa_names.proofs.numbering.operations_of.Goals as goal

pub operation_of-requires-clause-parameters : goal.operation_of-requires-clause-parameters
operation_of-requires-clause-parameters c =
    let within : c.loop-operation.operation-index < length c.as_slice-operation-items.result.now = omega arith in
    let at = slice_get_read c.as_slice-operation-items.result.now (length c.as_slice-operation-items.result.now) c.loop-operation.operation-index c.operation-item.result refl within c.operation-item.is in
    (c.requires.operations.each.at c.loop-operation.operation-index c.operation-item.result (subst (λ xs. slice_get xs c.loop-operation.operation-index ≡ Some c.operation-item.result) c.as_slice-operation-items.ensures at)).parameter_count
