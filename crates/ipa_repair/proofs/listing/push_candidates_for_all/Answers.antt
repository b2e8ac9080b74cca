use Rattle.ipa_repair.proofs.Growing.{grown-more}
use Rattle.ipa_repair.specs.Candidates.{effect_candidates}
use Rattle.ipa_repair.proofs.listing.push_candidates_for_all.Goals as goal

pub loop-literal-preserved : goal.loop-literal-preserved
loop-literal-preserved c = grown-more (effect_candidates c.args.spec.now c.args.number c.args.operation.now) _ _ _ _ _ _ c.loop-literal-test.true c.loop-literal.invariant c.in_ok-push_effect_candidates.ensures
