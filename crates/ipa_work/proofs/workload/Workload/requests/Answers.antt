use Rattle.std.proofs.Common.{sym, ◌∙◌, ap}
use Rattle.ipa_work.specs.Workloads.{request}
use Rattle.ipa_work.proofs.CountLemmas.{requests-none, requests-more}
use Rattle.ipa_work.proofs.workload.Workload.requests.Goals as goal

pub loop-init : goal.loop-init
loop-init c = sym (requests-none c.args.number c.args.self.now)

pub loop-preserved : goal.loop-preserved
loop-preserved c =
    c.in_ok-request.ensures ∙ (ap (request c.args.number) c.loop.invariant
    ∙ sym (requests-more c.loop.counter c.args.number c.args.self.now))
