use Rattle.ipa_repair.proofs.Growing.{grown-more}
use Rattle.ipa_repair.specs.Candidates.{candidate_if}
use Rattle.ipa_repair.proofs.listing.push_effect_candidates.Goals as goal

pub loop-effect-preserved : goal.loop-effect-preserved
loop-effect-preserved c = grown-more (candidate_if c.args.number c.args.operation.now) _ _ _ _ _ _ c.loop-effect-test.true c.loop-effect.invariant c.in_ok-push_candidate.ensures
