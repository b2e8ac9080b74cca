use Rattle.ipa_world.specs.ReadLaws.{cut-keeps, read-calm}
use Rattle.ipa_world.proofs.laws.law_reads_keep.Goals as goal

pub returns-clause-cuts : goal.returns-clause-cuts
returns-clause-cuts c = cut-keeps

pub returns-clause-reads : goal.returns-clause-reads
returns-clause-reads c = read-calm
