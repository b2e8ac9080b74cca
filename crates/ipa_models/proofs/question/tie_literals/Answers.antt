use Rattle.std.proofs.Common.{◌≤◌, length, arith, ap}
use Rattle.std.proofs.lemmas.List.{get_or_default}
use Rattle.std.proofs.lemmas.Result.{on_ok_weaker}
use Rattle.ipa_ground.specs.InstanceLaws.{FactFits-read}
use Rattle.ipa_models.proofs.QuestionLemmas.{tied-more, tied-few, tied-end}
use Rattle.ipa_models.proofs.question.tie_literals.Goals as goal

pub tie_literal-requires-clause-fact : goal.tie_literal-requires-clause-fact
tie_literal-requires-clause-fact c =
    FactFits-read _ _ _ c.args.clause.now c.loop-literal.literal-index _ c.as_slice-literal-items.result.now c.requires.numbered.sizes c.requires.fits c.requires.over c.as_slice-literal-items.ensures c.loop-literal-test.true
    (get_or_default _ _ _ _ c.loop-literal-test.true)

pub tie_literal-requires-clause-few : goal.tie_literal-requires-clause-few
tie_literal-requires-clause-few c =
    let few : c.loop-literal.count ≤ c.loop-literal.literal-index = tied-few _ _ _ c.as_slice-literal-items.result.now _ _ _ _ (omega arith) c.loop-literal.invariant in
    let same = ap length c.as_slice-literal-items.ensures in
    omega (arith, c.requires.fits.literal_count)

pub loop-literal-preserved : goal.loop-literal-preserved
loop-literal-preserved c = tied-more _ _ _ _ _ _ _ _ _ _ _ c.loop-literal-test.true (get_or_default _ _ _ _ c.loop-literal-test.true) c.loop-literal.invariant c.in_ok-count.ensures

pub deny_from-requires-clause-few : goal.deny_from-requires-clause-few
deny_from-requires-clause-few c =
    let few : c.loop-literal.count ≤ c.loop-literal.literal-index = tied-few _ _ _ c.as_slice-literal-items.result.now _ _ _ _ (omega arith) c.loop-literal.invariant in
    let same = ap length c.as_slice-literal-items.ensures in
    omega (arith, c.requires.fits.literal_count)

pub returns : goal.returns
returns c = on_ok_weaker c.deny_from.result
    (λ denied. tied-end _ _ _ c.as_slice-literal-items.result.now c.args.clause.now.literals c.loop-literal.literal-index _ _ _ _ c.as_slice-literal-items.ensures (omega arith) c.requires.fits.literal_count c.loop-literal.invariant denied)
    c.deny_from.ensures
