use Rattle.std.proofs.lemmas.Option.{MatchOption-at_none}
use Rattle.ipa_repair.specs.Greedy.{Lessens}
use Rattle.ipa_repair.specs.Stepping.{IsLessened}
use Rattle.ipa_repair.specs.declared.candidates.Offer.{Offer}
use Rattle.ipa_repair.proofs.GreedyLemmas.{earlier_more, all_earlier}
use Rattle.ipa_repair.proofs.greedy.first_lessening.Goals as goal

pub loop-place-preserved : goal.loop-place-preserved
loop-place-preserved c =
    earlier_more (λ (o : Offer). Lessens c.args.spec.now o.parts → ⊥) c.args.offers.now c.loop-place.place c.index-offers-place.result
    c.loop-place.invariant c.index-offers-place.is
    (MatchOption-at_none (Lessens c.args.spec.now c.index-offers-place.result.parts → ⊥) (IsLessened c.args.spec.now c.args.pairs.now c.index-offers-place.result)
    c.in_default.is c.in_ok-lessened.ensures)

pub returns : goal.returns
returns c = all_earlier (λ (o : Offer). Lessens c.args.spec.now o.parts → ⊥) c.args.offers.now c.loop-place.place c.loop-place-test.false c.loop-place.invariant
