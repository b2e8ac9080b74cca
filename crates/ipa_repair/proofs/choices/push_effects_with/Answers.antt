use Rattle.ipa_repair.proofs.Growing.{grown-more}
use Rattle.ipa_repair.specs.Candidates.{effects_with_one}
use Rattle.ipa_repair.proofs.choices.push_effects_with.Goals as goal

pub loop-first-preserved : goal.loop-first-preserved
loop-first-preserved c = grown-more (effects_with_one c.args.number c.args.add c.args.seconds.now c.args.thirds.now) _ _ _ _ _ _ c.loop-first-test.true c.loop-first.invariant c.in_ok-push_effects_with_one.ensures
