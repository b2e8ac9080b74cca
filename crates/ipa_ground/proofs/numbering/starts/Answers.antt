use Rattle.std.proofs.Common.{length, slice_get, arith, ap, refl, sym, ◌∙◌}
use Rattle.std.proofs.lemmas.Option.{slice_get_read}
use Rattle.ipa_ground.proofs.PlaceLemmas.{starts-none, starts-more}
use Rattle.ipa_ground.proofs.numbering.starts.Goals as goal

pub loop-number-init : goal.loop-number-init
loop-number-init c = starts-none c.as_slice-predicate-items.result.now c.args.universe.now.sizes

pub bounds-starts-number : goal.bounds-starts-number
bounds-starts-number c =
    let few = c.spec_is_fit.ensures.fit.predicate_count in
    let same = ap length (c.as_slice-predicate-items.ensures ∙ c.predicates.ensures) in omega arith

pub count_of-requires-clause-short : goal.count_of-requires-clause-short
count_of-requires-clause-short c =
    c.spec_is_fit.ensures.fit.arities c.loop-number.number c.predicate-item.result
    (ap (λ ps. slice_get ps c.loop-number.number) (sym (c.as_slice-predicate-items.ensures ∙ c.predicates.ensures))
    ∙ slice_get_read c.as_slice-predicate-items.result.now (length c.as_slice-predicate-items.result.now) c.loop-number.number c.predicate-item.result refl (omega arith) c.predicate-item.is)

pub overflow_add-starts : goal.overflow_add-starts
overflow_add-starts c =
    let few = c.spec_is_fit.ensures.fit.predicate_count in
    let same = ap length (c.as_slice-predicate-items.ensures ∙ c.predicates.ensures) in
    omega (arith, c.loop-number.invariant.bound c.loop-number.number (omega arith), c.count_of.ensures.bound)

pub bounds-starts-number-in-loop-number : goal.bounds-starts-number-in-loop-number
bounds-starts-number-in-loop-number c =
    let few = c.spec_is_fit.ensures.fit.predicate_count in
    let same = ap length (c.as_slice-predicate-items.ensures ∙ c.predicates.ensures) in omega arith

pub loop-number-preserved : goal.loop-number-preserved
loop-number-preserved c =
    let few = c.spec_is_fit.ensures.fit.predicate_count in
    let same = ap length (c.as_slice-predicate-items.ensures ∙ c.predicates.ensures) in
    starts-more _ _ _ _ _ c.predicate-item.result (omega arith) c.loop-number-test.true c.predicate-item.is c.count_of.ensures.value c.count_of.ensures.bound c.loop-number.invariant
