use Rattle.std.proofs.Common.{◌≡◌, ◌||◌, take}
use Rattle.ipa_logic.specs.Facts.{has}
use Rattle.ipa_logic.specs.declared.facts.Fact.{Fact}
use Rattle.ipa_history.proofs.states.insert_all.Given as goal

abbrev pub invariant-loop-fact : goal.invariant-loop-fact
invariant-loop-fact l = (f : Fact) → has l.state f ≡ (has (take l.fact-index l.facts) f || has l.fn.state f)
