use Rattle.std.proofs.Common.{take}
use Rattle.std.specs.List.{list_any}
use Rattle.ipa_spec.specs.Actions.{effects_of}
use Rattle.ipa_sets.specs.Fitting.{fits, TellsAnew}
use Rattle.ipa_sets.specs.Keys.{key_of}
use Rattle.ipa_sets.proofs.truths.tell_concerned.Given as goal

abbrev pub invariant-loop-place : goal.invariant-loop-place
invariant-loop-place g l = TellsAnew (g.T.Test.passes l.test) l.facts
    (λ f. list_any (λ e. fits (key_of l.spec l.tx.args e).pattern f) (take l.place (effects_of l.spec l.tx.action))) l.fn.truths l.truths
