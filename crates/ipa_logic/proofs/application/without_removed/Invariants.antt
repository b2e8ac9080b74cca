use Rattle.std.proofs.Common.{◌≡◌, ◌&&◌, not, map}
use Rattle.ipa_spec.specs.Actions.{effects_of}
use Rattle.ipa_logic.specs.Facts.{has}
use Rattle.ipa_logic.specs.Touches.{some_takes}
use Rattle.ipa_logic.specs.declared.facts.Fact.{Fact}
use Rattle.ipa_logic.proofs.application.without_removed.Given as goal

abbrev pub invariant-loop-fact : goal.invariant-loop-fact
invariant-loop-fact l = (f : Fact) → has l.left f ≡ (has (map (λ x. x.now) l.yielded) f && not (some_takes l.spec (effects_of l.spec l.action) l.args f))
