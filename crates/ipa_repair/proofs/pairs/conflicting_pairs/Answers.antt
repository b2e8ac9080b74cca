use Rattle.std.proofs.Common.{List, [], sym, subst}
use Rattle.std.specs.List.{flat_map}
use Rattle.ipa_ground.specs.Enumeration.{numbers}
use Rattle.ipa_repair.specs.Chosen.{Gains}
use Rattle.ipa_repair.specs.Greedy.{PairConflicts, pairs_from}
use Rattle.ipa_repair.specs.declared.pairs.Pair.{Pair}
use Rattle.ipa_repair.proofs.ChosenLemmas.{gains-start, gains-more}
use Rattle.ipa_repair.proofs.pairs.conflicting_pairs.Goals as goal

pub loop-first-init : goal.loop-first-init
loop-first-init c =
    subst (λ (xs : List Pair). Gains (PairConflicts c.args.spec.now) (flat_map (pairs_from c.args.spec.now) (numbers 0)) [] xs) (sym c.new-pairs.ensures)
    (gains-start (PairConflicts c.args.spec.now) (pairs_from c.args.spec.now) [])

pub loop-first-preserved : goal.loop-first-preserved
loop-first-preserved c = gains-more (PairConflicts c.args.spec.now) (pairs_from c.args.spec.now) c.loop-first.first [] _ _ c.loop-first.invariant c.in_ok-push_pairs_from.ensures
