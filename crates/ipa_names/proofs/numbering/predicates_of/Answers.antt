use Rattle.std.proofs.Common.{◌≡◌, ◌<◌, length, Some, refl, subst, arith}
use Rattle.std.specs.List.{slice_get}
use Rattle.std.proofs.lemmas.Option.{slice_get_read}
use Rattle.ipa_names.proofs.numbering.predicates_of.Goals as goal

pub predicate_of-requires-clause-places : goal.predicate_of-requires-clause-places
predicate_of-requires-clause-places c =
    let within : c.loop-predicate.predicate-index < length c.as_slice-predicate-items.result.now = omega arith in
    let at = slice_get_read c.as_slice-predicate-items.result.now (length c.as_slice-predicate-items.result.now) c.loop-predicate.predicate-index c.predicate-item.result refl within c.predicate-item.is in
    (c.requires.predicates.each.at c.loop-predicate.predicate-index c.predicate-item.result (subst (λ xs. slice_get xs c.loop-predicate.predicate-index ≡ Some c.predicate-item.result) c.as_slice-predicate-items.ensures at)).places
