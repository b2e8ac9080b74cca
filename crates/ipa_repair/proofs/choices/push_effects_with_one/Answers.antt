use Rattle.ipa_repair.proofs.Growing.{grown-more}
use Rattle.ipa_repair.specs.Candidates.{effects_with_two}
use Rattle.ipa_repair.proofs.choices.push_effects_with_one.Goals as goal

pub loop-second-preserved : goal.loop-second-preserved
loop-second-preserved c = grown-more (effects_with_two c.args.number c.args.add c.args.thirds.now c.args.first) _ _ _ _ _ _ c.loop-second-test.true c.loop-second.invariant c.in_ok-push_effects_with_two.ensures
