use Rattle.std.proofs.Common.{sym, ◌∙◌, ap}
use Rattle.ipa_work.specs.Workloads.{session}
use Rattle.ipa_work.proofs.CountLemmas.{sessions-none, sessions-more}
use Rattle.ipa_work.proofs.workload.Workload.sessions.Goals as goal

pub loop-place-init : goal.loop-place-init
loop-place-init c = sym (sessions-none c.args.number c.args.self.now)

pub loop-place-preserved : goal.loop-place-preserved
loop-place-preserved c =
    c.in_ok-session.ensures ∙ (ap (session c.args.number c.loop-place.place) c.loop-place.invariant
    ∙ sym (sessions-more c.loop-place.place c.args.number c.args.self.now))
