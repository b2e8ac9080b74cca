use Rattle.std.proofs.Common.{sym, subst, List}
use Rattle.ipa_repair.specs.Chosen.{Gains}
use Rattle.ipa_repair.specs.Greedy.{PairConflicts}
use Rattle.ipa_repair.specs.declared.pairs.Pair.{Pair}
use Rattle.ipa_repair.proofs.ChosenLemmas.{gains-nothing}
use Rattle.ipa_repair.proofs.ClearLemmas.{no_pair}
use Rattle.ipa_repair.proofs.pairs.push_pair_if.Goals as goal

pub returns-then-first-second : goal.returns-then-first-second
returns-then-first-second c =
    subst (λ (xs : List Pair). Gains (PairConflicts c.args.spec.now) xs c.args.pairs.now c.args.pairs.now)
    (sym (no_pair c.args.spec.now c.args.first c.args.second c.if-first-second.true)) (gains-nothing (PairConflicts c.args.spec.now) c.args.pairs.now)
