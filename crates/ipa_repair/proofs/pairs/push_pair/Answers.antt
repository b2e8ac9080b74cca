use Rattle.std.proofs.lemmas.Result.{on_ok_weaker}
use Rattle.ipa_repair.specs.Greedy.{PairConflicts, pair}
use Rattle.ipa_repair.proofs.ChosenLemmas.{gains-taken, gains-passed}
use Rattle.ipa_repair.proofs.pairs.push_pair.Goals as goal

pub returns-then-not-pair_conflicts : goal.returns-then-not-pair_conflicts
returns-then-not-pair_conflicts c = gains-passed (PairConflicts c.args.spec.now) (pair c.args.left c.args.right) c.args.pairs.now c.if-not-pair_conflicts.ensures

pub returns : goal.returns
returns c =
    on_ok_weaker c.push.result
    (λ grown. gains-taken (PairConflicts c.args.spec.now) (pair c.args.left c.args.right) c.args.pairs.now c.push.new.self c.if-not-pair_conflicts.ensures grown)
    c.push.ensures.ok
