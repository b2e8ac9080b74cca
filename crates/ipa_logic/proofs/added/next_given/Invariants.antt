use Rattle.std.proofs.Common.{take}
use Rattle.ipa_logic.specs.Touches.{some_gives}
use Rattle.ipa_logic.specs.Views.{IsNextOf}
use Rattle.ipa_logic.proofs.added.next_given.Given as goal

abbrev pub invariant-loop-effect : goal.invariant-loop-effect
invariant-loop-effect l = IsNextOf (some_gives l.spec (take l.effect-index l.effects) l.args) l.predicate l.after l.least
