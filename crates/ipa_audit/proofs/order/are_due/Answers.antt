use Rattle.std.proofs.Common.{below_more, sym, ◌∙◌}
use Rattle.std.proofs.lemmas.Bool.{false≢true}
use Rattle.ipa_audit.proofs.OrderLemmas.{due_at, at_due}
use Rattle.ipa_audit.proofs.order.are_due.Goals as goal

pub loop-session-preserved : goal.loop-session-preserved
loop-session-preserved c =
    below_more _ _ c.loop-session.invariant
    (due_at c.args.sessions.now c.args.counts.now c.args.out.now c.loop-session.session c.index-sessions-session.result
    c.loop-session-test.true c.index-sessions-session.is (c.is_due_at.ensures.0 c.if-not-is_due_at.false))

pub returns-then-not-is_due_at : goal.returns-then-not-is_due_at
returns-then-not-is_due_at c = (
  λ x. absurd (false≢true x),
  λ all. sym c.if-not-is_due_at.true ∙ c.is_due_at.ensures.1
      (at_due c.args.sessions.now c.args.counts.now c.args.out.now c.loop-session.session c.index-sessions-session.result
      c.loop-session-test.true c.index-sessions-session.is (all c.loop-session.session c.loop-session-test.true)),
)
