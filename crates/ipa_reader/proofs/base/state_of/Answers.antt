use Rattle.std.proofs.Common.{[], arith}
use Rattle.ipa_reader.proofs.CountLemmas.{state_more}
use Rattle.ipa_reader.proofs.base.state_of.Goals as goal

pub loop-fact-preserved : goal.loop-fact-preserved
loop-fact-preserved c =
    state_more c.args.facts.now c.loop-fact.fact-index (record { predicate = 0; args = [] }) c.loop-fact.state c.insert.new.self
    (omega arith) c.loop-fact.invariant c.in_ok-_changed.ensures.rising c.in_ok-_changed.ensures.facts
