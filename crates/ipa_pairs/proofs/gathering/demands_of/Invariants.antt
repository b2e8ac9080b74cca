use Rattle.std.proofs.Common.{take}
use Rattle.ipa_pairs.specs.Asked.{IsGathered}
use Rattle.ipa_pairs.proofs.gathering.demands_of.Given as goal

-- the demands are those of what is asked so far
abbrev pub invariant-loop-asked : goal.invariant-loop-asked
invariant-loop-asked l = IsGathered (take l.asked-index l.asks) l.demands
