use Rattle.std.proofs.Common.{arith}
use Rattle.ipa_models.proofs.ListingLemmas.{numbered}
use Rattle.ipa_models.proofs.QuestionLemmas.{grounded}
use Rattle.ipa_models.proofs.models.Models.new.Goals as goal

pub overflow_add-fact_count : goal.overflow_add-fact_count
overflow_add-fact_count c =
    let all = numbered c.args.spec.now c.args.universe.sizes c.spec_is_fit.ensures.fit c.requires.universe c.requires.small in
    omega (arith, all.room, c.fact_count.ensures)

pub invariant_of-result : goal.invariant_of-result
invariant_of-result c =
    grounded _ _ _ _ _ _ (numbered c.args.spec.now c.args.universe.sizes c.spec_is_fit.ensures.fit c.requires.universe c.requires.small) c.in_ok-facts.ensures c.fact_count.ensures c.new-formula.ensures c.in_ok-ground_clauses_into.ensures.ok
