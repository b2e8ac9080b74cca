use Rattle.std.proofs.Common.{◌≡◌}
use Rattle.ipa_work.specs.Workloads.{first_sessions}
use Rattle.ipa_work.proofs.workload.Workload.sessions.Given as goal

abbrev pub invariant-loop-place : goal.invariant-loop-place
invariant-loop-place l = l.self ≡ first_sessions l.place l.number l.fn.self
