use Rattle.ipa_repair.proofs.OneRepairLemmas.{one_offers, one_step, one_repaired}
use Rattle.ipa_repair.proofs.laws.one_repair.Goals as goal

pub returns : goal.returns
returns c = record { offers = one_offers; step = one_step; repair = one_repaired c.one_analysis.ensures.analysis }
