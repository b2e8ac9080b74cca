use Rattle.std.proofs.Common.{[], ◌∙◌}
use Rattle.ipa_logic.specs.Facts.{has}
use Rattle.ipa_history.specs.Values.{value_of}
use Rattle.ipa_history.proofs.StateLemmas.{put-more, IsStateOf-from_candidates}
use Rattle.ipa_history.proofs.states.state_of.Goals as goal

pub loop-fact-preserved : goal.loop-fact-preserved
loop-fact-preserved c = record {
  rising = c.insert_if_true.ensures.rising;
  facts = λ f. put-more (value_of c.args.spec.now c.args.base.now c.args.members.now) c.deref-fact-items.result.now c.loop-fact.fact-index
      (record { predicate = 0; args = [] }) f (has c.insert_if_true.new.state f)
      (has c.loop-fact.state f) c.loop-fact-test.true (c.in_ok-insert_if_true.ensures.facts f)
      (c.loop-fact.invariant.facts f);
}

pub returns : goal.returns
returns c = IsStateOf-from_candidates c.args.spec.now c.args.base.now c.args.members.now c.in_ok-candidates.candidates c.deref-fact-items.result.now c.loop-fact.state c.loop-fact.fact-index c.requires
    c.in_ok-candidates.ensures (c.deref-fact-items.ensures.value
    ∙ c.in_ok-facts.ensures) c.loop-fact-test.false c.loop-fact.invariant.facts c.loop-fact.invariant.rising
