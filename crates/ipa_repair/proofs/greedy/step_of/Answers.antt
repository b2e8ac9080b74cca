use Rattle.std.specs.List.{All}
use Rattle.std.proofs.lemmas.Option.{MatchOption-at_some}
use Rattle.std.proofs.lemmas.List.Elements.{All-same}
use Rattle.ipa_spec.specs.Limits.{IsFaultless}
use Rattle.ipa_repair.specs.Applying.{applied}
use Rattle.ipa_repair.specs.Greedy.{Lessens}
use Rattle.ipa_repair.specs.Stepping.{IsFirstLessened}
use Rattle.ipa_repair.specs.declared.candidates.Offer.{Offer}
use Rattle.ipa_repair.proofs.GreedyLemmas.{offers-faultless, taken_from}
use Rattle.ipa_repair.proofs.greedy.step_of.Goals as goal

pub first_lessening-requires-clause-faultless : goal.first_lessening-requires-clause-faultless
first_lessening-requires-clause-faultless c =
    All-same (λ (o : Offer). IsFaultless (applied c.args.spec.now o.parts)) c.as_slice.result.now c.in_ok-offers.offers c.as_slice.ensures
    (offers-faultless c.args.spec.now c.args.pair.left c.args.pair.right c.in_ok-offers.offers c.in_ok-offers.ensures)

pub returns-in-Some : goal.returns-in-Some
returns-in-Some c =
    taken_from c.args.spec.now c.args.pairs.now c.args.pair c.in_ok-offers.offers c.as_slice.result.now c.in-Some.applied c.as_slice.ensures c.in_ok-offers.ensures
    (MatchOption-at_some (All (λ (o : Offer). Lessens c.args.spec.now o.parts → ⊥) c.as_slice.result.now)
    (IsFirstLessened c.args.spec.now c.args.pairs.now c.as_slice.result.now) c.in-Some.applied c.in-Some.is c.in_ok-first_lessening.ensures)
