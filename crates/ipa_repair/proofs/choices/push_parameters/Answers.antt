use Rattle.ipa_repair.proofs.Growing.{counted-start, counted-more}
use Rattle.ipa_repair.specs.Candidates.{parameter_if}
use Rattle.ipa_repair.proofs.choices.push_parameters.Goals as goal

pub loop-number-init : goal.loop-number-init
loop-number-init c = counted-start (parameter_if c.args.params.now c.args.sort) c.args.args.now

pub loop-number-preserved : goal.loop-number-preserved
loop-number-preserved c = counted-more (parameter_if c.args.params.now c.args.sort) _ _ _ c.loop-number.number c.loop-number.invariant c.in_ok-push_parameter.ensures
