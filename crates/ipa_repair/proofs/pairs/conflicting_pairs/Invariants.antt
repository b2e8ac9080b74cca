use Rattle.std.proofs.Common.{[]}
use Rattle.std.specs.List.{flat_map}
use Rattle.ipa_ground.specs.Enumeration.{numbers}
use Rattle.ipa_repair.specs.Chosen.{Gains}
use Rattle.ipa_repair.specs.Greedy.{PairConflicts, pairs_from}
use Rattle.ipa_repair.proofs.pairs.conflicting_pairs.Given as goal

abbrev pub invariant-loop-first : goal.invariant-loop-first
invariant-loop-first l = Gains (PairConflicts l.spec) (flat_map (pairs_from l.spec) (numbers l.first)) [] l.pairs
