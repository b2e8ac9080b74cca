use Rattle.std.proofs.Common.{◌≡◌, ◌++◌}
use Rattle.std.specs.Fmt.{decimal}
use Rattle.ipa_work.specs.Workloads.{each_to}
use Rattle.ipa_work.proofs.workload.names.Given as goal

abbrev pub invariant-loop-k : goal.invariant-loop-k
invariant-loop-k l = l.page ≡ l.fn.page ++ each_to l.k (λ k. l.letter ++ decimal k)
