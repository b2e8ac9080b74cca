use Rattle.std.proofs.Common.{sym, ◌∙◌}
use Rattle.std.proofs.lemmas.Bool.{false≢true}
use Rattle.ipa_audit.proofs.OrderLemmas.{answered_more, answered_all, has_fewer}
use Rattle.ipa_audit.proofs.missing.are_all_answered.Goals as goal

pub loop-session-preserved : goal.loop-session-preserved
loop-session-preserved c = answered_more c.args.sessions.now c.args.outs.now c.loop-session.session
    c.index-sessions-session.result c.loop-session-test.true c.index-sessions-session.is
    (c.has_all.ensures.0 c.if-not-has_all.false) c.loop-session.invariant

pub returns-then-not-has_all : goal.returns-then-not-has_all
returns-then-not-has_all c = has_fewer c.args.sessions.now c.args.outs.now c.loop-session.session
    c.index-sessions-session.result c.loop-session-test.true c.index-sessions-session.is
    (λ enough. false≢true (sym c.if-not-has_all.true ∙ c.has_all.ensures.1 enough))

pub returns : goal.returns
returns c = answered_all c.args.sessions.now c.args.outs.now c.loop-session.session c.loop-session-test.false c.loop-session.invariant
