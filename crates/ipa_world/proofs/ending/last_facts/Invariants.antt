use Rattle.std.proofs.Common.{take}
use Rattle.ipa_sets.specs.FactSets.{IsFactsOf}
use Rattle.ipa_world.proofs.ending.last_facts.Given as goal

abbrev pub invariant-loop-tx : goal.invariant-loop-tx
invariant-loop-tx l = IsFactsOf l.spec l.setting.base (take l.tx-index l.entries) l.facts
