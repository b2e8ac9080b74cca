use Rattle.std.proofs.Common.{[]}
use Rattle.ipa_logic.specs.Facts.{has}
use Rattle.ipa_sets.proofs.ListingLemmas.{passing-more}
use Rattle.ipa_sets.proofs.listing.insert_passing.Goals as goal

pub loop-fact-preserved : goal.loop-fact-preserved
loop-fact-preserved g c = record {
  rising = c.insert_if_passing.ensures.rising;
  facts = λ f. passing-more (g.T.Test.passes c.args.test.now) c.args.facts.now c.loop-fact.fact-index
      (record { predicate = 0; args = [] }) f (has c.insert_if_passing.new.state f) (has c.loop-fact.state f)
      (has c.args.state.now f) c.loop-fact-test.true (c.in_ok-insert_if_passing.ensures.facts f) (c.loop-fact.invariant.facts f);
}
