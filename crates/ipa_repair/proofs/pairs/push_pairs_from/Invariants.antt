use Rattle.std.specs.List.{flat_map}
use Rattle.ipa_ground.specs.Enumeration.{numbers}
use Rattle.ipa_repair.specs.Chosen.{Gains}
use Rattle.ipa_repair.specs.Greedy.{PairConflicts, pair_if}
use Rattle.ipa_repair.proofs.pairs.push_pairs_from.Given as goal

abbrev pub invariant-loop-second : goal.invariant-loop-second
invariant-loop-second l = Gains (PairConflicts l.spec) (flat_map (pair_if l.spec l.first) (numbers l.second)) l.initial.pairs l.pairs
