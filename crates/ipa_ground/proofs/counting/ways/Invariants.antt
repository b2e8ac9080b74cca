use Rattle.ipa_ground.specs.PatternCounts.{AreWays}
use Rattle.ipa_ground.proofs.counting.ways.Given as goal

abbrev pub invariant-loop-count : goal.invariant-loop-count
invariant-loop-count l = AreWays l.row l.count
