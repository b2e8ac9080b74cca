use Rattle.std.proofs.Common.{◌≡◌, ◌<◌, length, Some, refl, subst, arith}
use Rattle.std.specs.List.{slice_get}
use Rattle.std.proofs.lemmas.Option.{slice_get_read}
use Rattle.ipa_names.specs.Meaning.{bound_of}
use Rattle.ipa_names.specs.ListLaws.{mapped_more}
use Rattle.ipa_names.proofs.bounding.bounds_of.Goals as goal

pub bound_of-requires-clause-variables : goal.bound_of-requires-clause-variables
bound_of-requires-clause-variables c =
    let within : c.loop-bound.bound-index < length c.as_slice-bound-items.result.now = omega arith in
    let at = slice_get_read c.as_slice-bound-items.result.now (length c.as_slice-bound-items.result.now) c.loop-bound.bound-index c.bound-item.result refl within c.bound-item.is in
    (c.requires.bounds.each.at c.loop-bound.bound-index c.bound-item.result (subst (λ xs. slice_get xs c.loop-bound.bound-index ≡ Some c.bound-item.result) c.as_slice-bound-items.ensures at)).variable_count

pub bound_of-requires-clause-size : goal.bound_of-requires-clause-size
bound_of-requires-clause-size c =
    let within : c.loop-bound.bound-index < length c.as_slice-bound-items.result.now = omega arith in
    let at = slice_get_read c.as_slice-bound-items.result.now (length c.as_slice-bound-items.result.now) c.loop-bound.bound-index c.bound-item.result refl within c.bound-item.is in
    (c.requires.bounds.each.at c.loop-bound.bound-index c.bound-item.result (subst (λ xs. slice_get xs c.loop-bound.bound-index ≡ Some c.bound-item.result) c.as_slice-bound-items.ensures at)).size

pub loop-bound-preserved : goal.loop-bound-preserved
loop-bound-preserved c =
    let within : c.loop-bound.bound-index < length c.as_slice-bound-items.result.now = omega arith in
    mapped_more (bound_of c.args.declared.now) c.as_slice-bound-items.result.now c.loop-bound.bound-index c.bound-item.result c.loop-bound.all c.push.new.self c.in_ok-bound_of.field-0 within c.bound-item.is c.loop-bound.invariant c.in_ok-bound_of.ensures c.in_ok-push.ensures.ok
