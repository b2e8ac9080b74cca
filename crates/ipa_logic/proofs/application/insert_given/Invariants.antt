use Rattle.std.proofs.Common.{◌≡◌, ◌||◌, take}
use Rattle.ipa_logic.specs.Facts.{has}
use Rattle.ipa_logic.specs.Touches.{some_gives}
use Rattle.ipa_logic.specs.declared.facts.Fact.{Fact}
use Rattle.ipa_logic.proofs.application.insert_given.Given as goal

abbrev pub invariant-loop-effect : goal.invariant-loop-effect
invariant-loop-effect l = (f : Fact) → has l.state f ≡ (some_gives l.spec (take l.effect-index l.effects) l.args f || has l.fn.state f)
