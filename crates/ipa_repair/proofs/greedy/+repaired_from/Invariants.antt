use Rattle.std.proofs.Common.{length}
use Rattle.ipa_repair.proofs.greedy.+repaired_from.Given as goal

abbrev pub decreases-repaired_from : goal.decreases-repaired_from
decreases-repaired_from g l = length l.pairs
