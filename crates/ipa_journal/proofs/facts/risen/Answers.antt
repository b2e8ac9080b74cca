use Rattle.std.proofs.Common.{[], sym}
use Rattle.ipa_journal.proofs.FactLemmas.{fact_more}
use Rattle.ipa_journal.proofs.facts.risen.Goals as goal

pub loop-fact-preserved : goal.loop-fact-preserved
loop-fact-preserved c =
    let i = c.loop-fact.fact-index in
    let before = c.loop-fact.invariant in
    let more = fact_more c.args.facts.now i (record { predicate = 0; args = [] }) c.loop-fact.last c.loop-fact.state c.insert.new.self c.loop-fact-test.true (sym c.if-not-is_past.ensures) before.state before.below before.rising before.left c.in_ok-insert.ensures.rising c.in_ok-insert.ensures.facts in
    record { state = more.state; below = more.below; rising = more.rising; left = more.left }
