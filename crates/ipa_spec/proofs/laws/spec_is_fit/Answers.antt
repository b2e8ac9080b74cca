use Rattle.ipa_spec.specs.FaultlessFits.{IsFit-from_faultless}
use Rattle.ipa_spec.proofs.laws.spec_is_fit.Goals as goal

pub returns-clause-fit : goal.returns-clause-fit
returns-clause-fit c = IsFit-from_faultless c.args.spec.now c.faultless_parts-parts.ensures.faultless
