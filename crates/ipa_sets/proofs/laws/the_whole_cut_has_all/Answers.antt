use Rattle.ipa_sets.specs.WholeCutLaws.{value-clock, age-clock}
use Rattle.ipa_sets.proofs.laws.the_whole_cut_has_all.Goals as goal

pub returns-clause-values : goal.returns-clause-values
returns-clause-values c s base h cut f is clock = value-clock h is cut clock s base f

pub returns-clause-ages : goal.returns-clause-ages
returns-clause-ages c s h cut f is clock = age-clock h is cut clock s f
