use Rattle.ipa_repair.specs.Greedy.{PairConflicts, pair_if}
use Rattle.ipa_repair.proofs.ChosenLemmas.{gains-start, gains-more}
use Rattle.ipa_repair.proofs.pairs.push_pairs_from.Goals as goal

pub loop-second-init : goal.loop-second-init
loop-second-init c = gains-start (PairConflicts c.args.spec.now) (pair_if c.args.spec.now c.args.first) c.args.pairs.now

pub loop-second-preserved : goal.loop-second-preserved
loop-second-preserved c = gains-more (PairConflicts c.args.spec.now) (pair_if c.args.spec.now c.args.first) c.loop-second.second _ _ _ c.loop-second.invariant c.in_ok-push_pair_if.ensures
