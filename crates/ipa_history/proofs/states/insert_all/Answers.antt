use Rattle.std.proofs.Common.{[]}
use Rattle.ipa_history.proofs.StateLemmas.{put-all}
use Rattle.ipa_history.proofs.states.insert_all.Goals as goal

pub loop-fact-preserved : goal.loop-fact-preserved
loop-fact-preserved c f = put-all c.args.facts.now c.loop-fact.fact-index (record { predicate = 0; args = [] }) f _ _ _
    c.loop-fact-test.true (c.in_ok-insert.ensures.facts f) (c.loop-fact.invariant f)
