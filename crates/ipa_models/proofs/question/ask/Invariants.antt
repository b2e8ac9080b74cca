use Rattle.std.proofs.Common.{take}
use Rattle.ipa_models.specs.Models.{AsDemanded}
use Rattle.ipa_models.specs.Questions.{state_of, Adds}
use Rattle.ipa_models.proofs.question.ask.Given as goal

abbrev pub invariant-loop-demand : goal.invariant-loop-demand
invariant-loop-demand l = Adds (λ a. AsDemanded (state_of l.spec l.universe.sizes a) (take l.demand-index l.demands)) l.initial.formula l.formula
