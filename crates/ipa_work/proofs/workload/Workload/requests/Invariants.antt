use Rattle.std.proofs.Common.{◌≡◌}
use Rattle.ipa_work.specs.Workloads.{requests}
use Rattle.ipa_work.proofs.workload.Workload.requests.Given as goal

abbrev pub invariant-loop : goal.invariant-loop
invariant-loop l = l.self ≡ requests l.counter l.number l.fn.self
