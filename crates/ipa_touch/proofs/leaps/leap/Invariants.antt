use Rattle.std.proofs.Common.{take}
use Rattle.std.specs.List.{list_any}
use Rattle.ipa_logic.specs.Truth.{literal_true}
use Rattle.ipa_touch.specs.Turns.{holds_after}
use Rattle.ipa_touch.specs.Leaps.{Leaps}
use Rattle.ipa_touch.proofs.leaps.leap.Given as goal

abbrev pub invariant-loop-literal : goal.invariant-loop-literal
invariant-loop-literal g l = Leaps (λ v. list_any (literal_true l.step.spec.now (holds_after l.step.spec.now l.step.action l.step.args.now (g.V.View.facts l.step.view.now)) v) (take l.literal-index l.literal-items)) l.at l.values l.fn.from l.next
