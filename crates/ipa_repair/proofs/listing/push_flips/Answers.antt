use Rattle.ipa_repair.proofs.Growing.{grown-more}
use Rattle.ipa_repair.specs.Candidates.{flip_of}
use Rattle.ipa_repair.proofs.listing.push_flips.Goals as goal

pub loop-literal-preserved : goal.loop-literal-preserved
loop-literal-preserved c = grown-more flip_of _ _ _ _ _ _ c.loop-literal-test.true c.loop-literal.invariant c.in_ok-push_flip.ensures
