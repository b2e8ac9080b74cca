use Rattle.std.proofs.Common.{length, slice_get, arith, ap, refl, sym, ◌∙◌}
use Rattle.std.proofs.lemmas.Option.{slice_get_read}
use Rattle.ipa_models.proofs.ListingLemmas.{predicates-next}
use Rattle.ipa_models.proofs.enumeration.facts_over.Goals as goal

pub overflow_cast-first : goal.overflow_cast-first
overflow_cast-first c =
    let few = c.spec_is_fit.ensures.fit.predicate_count in
    let same = ap length (c.as_slice-predicate-items.ensures ∙ c.predicates.ensures) in omega arith

pub push_facts-requires-clause-short : goal.push_facts-requires-clause-short
push_facts-requires-clause-short c =
    c.spec_is_fit.ensures.fit.arities c.loop-number.number c.predicate-item.result
    (ap (λ ps. slice_get ps c.loop-number.number) (sym (c.as_slice-predicate-items.ensures ∙ c.predicates.ensures))
    ∙ slice_get_read c.as_slice-predicate-items.result.now (length c.as_slice-predicate-items.result.now) c.loop-number.number c.predicate-item.result refl (omega arith) c.predicate-item.is)

pub loop-number-preserved : goal.loop-number-preserved
loop-number-preserved c = predicates-next _ _ _ c.predicate-item.result _ _ c.loop-number-test.true c.predicate-item.is c.loop-number.invariant c.in_ok-push_facts.ensures
