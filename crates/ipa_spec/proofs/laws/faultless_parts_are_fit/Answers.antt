use Rattle.ipa_spec.specs.FaultlessFits.{IsFit-from_faultless}
use Rattle.ipa_spec.proofs.laws.faultless_parts_are_fit.Goals as goal

pub returns : goal.returns
returns c s faultless = IsFit-from_faultless s faultless
