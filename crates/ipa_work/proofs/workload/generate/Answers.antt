use Rattle.std.proofs.Common.{rules}
use Rattle.ipa_work.proofs.ShortWorkloads.{short-of}
use Rattle.ipa_work.proofs.workload.generate.Goals as goal

pub returns-clause-short : goal.returns-clause-short
returns-clause-short c = short-of (λ bytes. bytes.items) c.args.number c.to_vec.result (search rules)
