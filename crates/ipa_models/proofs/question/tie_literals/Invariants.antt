use Rattle.std.proofs.Common.{take}
use Rattle.ipa_models.specs.Questions.{IsTied}
use Rattle.ipa_models.proofs.question.tie_literals.Given as goal

abbrev pub invariant-loop-literal : goal.invariant-loop-literal
invariant-loop-literal l = IsTied l.spec l.universe.sizes l.values (take l.literal-index l.literal-items) l.count l.initial.formula l.formula
