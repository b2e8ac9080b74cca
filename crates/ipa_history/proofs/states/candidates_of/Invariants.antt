use Rattle.std.proofs.Common.{◌≡◌, ◌||◌, take}
use Rattle.std.specs.List.{list_any}
use Rattle.ipa_logic.specs.Facts.{has}
use Rattle.ipa_logic.specs.declared.facts.Fact.{Fact}
use Rattle.ipa_history.specs.Values.{adds_fact}
use Rattle.ipa_history.proofs.states.candidates_of.Given as goal

abbrev pub invariant-loop-tx : goal.invariant-loop-tx
invariant-loop-tx l = (f : Fact) → has l.all f ≡ (list_any (adds_fact l.spec f)
    (take l.tx-index l.members) || has l.base f)
