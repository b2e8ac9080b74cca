use Rattle.std.proofs.Common.{◌≡◌, true, refl}
use Rattle.ipa_audit.proofs.OrderLemmas.{next_by, by_next}
use Rattle.ipa_audit.proofs.order.is_next.Goals as goal

pub returns-then-is_session : goal.returns-then-is_session
returns-then-is_session c = (
  λ x. next_by c.args.sessions.now c.args.counts.now c.args.out.now (c.if-is_session.ensures.0 refl) (c.are_due.ensures.0 x),
  λ next. let parts = by_next c.args.sessions.now c.args.counts.now c.args.out.now next in c.are_due.ensures.1 parts.1,
)

pub returns-else-is_session : goal.returns-else-is_session
returns-else-is_session c = (
  λ x. absurd (let no : c.is_session.result ≡ true = x in cc),
  λ next. let parts = by_next c.args.sessions.now c.args.counts.now c.args.out.now next in c.is_session.ensures.1 parts.0,
)
