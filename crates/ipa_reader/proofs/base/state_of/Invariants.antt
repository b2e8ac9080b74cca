use Rattle.std.proofs.Common.{take}
use Rattle.ipa_logic.specs.Facts.{has, IsStateOf}
use Rattle.ipa_reader.proofs.base.state_of.Given as goal

abbrev pub invariant-loop-fact : goal.invariant-loop-fact
invariant-loop-fact l = IsStateOf (has (take l.fact-index l.facts)) l.state
