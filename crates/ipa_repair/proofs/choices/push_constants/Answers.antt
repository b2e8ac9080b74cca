use Rattle.ipa_repair.proofs.Growing.{counted-start, counted-more}
use Rattle.ipa_repair.specs.Candidates.{constant_if}
use Rattle.ipa_repair.proofs.choices.push_constants.Goals as goal

pub loop-number-init : goal.loop-number-init
loop-number-init c = counted-start (constant_if c.args.spec.now c.args.params.now c.args.sort) c.args.args.now

pub loop-number-preserved : goal.loop-number-preserved
loop-number-preserved c = counted-more (constant_if c.args.spec.now c.args.params.now c.args.sort) _ _ _ c.loop-number.number c.loop-number.invariant c.in_ok-push_constant.ensures
