use Rattle.std.proofs.Common.{arith}
use Rattle.ipa_work.proofs.workload.Workload.request_of.Goals as goal

pub returns-else-kind-eq7 : goal.returns-else-kind-eq7
returns-else-kind-eq7 c = grind arith
