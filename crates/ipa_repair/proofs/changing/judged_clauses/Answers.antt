use Rattle.std.proofs.Common.{◌≡◌, ◌<◌, Some, length, refl, ap, subst, ◌∙◌, arith}
use Rattle.std.specs.List.{slice_get, list_all}
use Rattle.std.proofs.lemmas.Option.{slice_get_within, slice_get_read}
use Rattle.std.proofs.lemmas.List.{length-set}
use Rattle.ipa_spec.specs.declared.clauses.Clause.{Clause}
use Rattle.ipa_pairs.specs.Told.{told_more}
use Rattle.ipa_repair.specs.Unchanged.{same_judgement}
use Rattle.ipa_repair.proofs.changing.judged_clauses.Goals as goal

pub loop-place-preserved : goal.loop-place-preserved
loop-place-preserved c =
    let clauses = c.as_slice-clause-items.ensures ∙ c.clauses.ensures in
    let there : slice_get c.as_slice-clause-items.result.now c.loop-place.place ≡ Some c.clause-item.result =
    slice_get_read c.as_slice-clause-items.result.now (length c.as_slice-clause-items.result.now) c.loop-place.place c.clause-item.result refl c.loop-place-test.true c.clause-item.is in
    let within : c.loop-place.place < length c.loop-place.judged =
    omega (arith, c.loop-place.invariant.0, c.loop-place-test.true, ap length clauses, c.spec_is_fit.ensures.fit.clause_count) in (
      length-set c.loop-place.judged c.loop-place.place c.is_judged_same.result ∙ c.loop-place.invariant.0,
      told_more c.args.spec.now.clauses (λ (x : Clause). list_all (same_judgement c.args.spec.now c.args.next.now) x.literals) c.loop-place.judged c.loop-place.place
          c.clause-item.result c.is_judged_same.result within
          (subst (λ cs. slice_get cs c.loop-place.place ≡ Some c.clause-item.result) clauses there) c.is_judged_same.ensures c.loop-place.invariant.1,
    )

pub returns : goal.returns
returns c = record {
  each = λ k x e. c.loop-place.invariant.1 k x
      (omega (arith, slice_get_within c.args.spec.now.clauses k x e, c.loop-place-test.false, ap length c.as_slice-clause-items.ensures, ap length c.clauses.ensures)) e;
}
