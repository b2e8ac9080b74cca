use Rattle.std.proofs.Common.{◌+◌, false, List, [], get_or, take, arith, sym, subst}
use Rattle.std.proofs.lemmas.List.{get_or_default, take_all}
use Rattle.ipa_sat.specs.Formula.{Formula}
use Rattle.ipa_models.specs.Models.{AsDemanded}
use Rattle.ipa_models.specs.Questions.{state_of, Adds}
use Rattle.ipa_models.specs.declared.demands.Demand.{Demand}
use Rattle.ipa_models.proofs.QuestionLemmas.{demanded-next}
use Rattle.ipa_models.proofs.question.ask.Goals as goal

-- the demand that is read
abbrev nothing : Demand
nothing = record { fact = record { predicate = 0; args = [] }; holds = false }

pub loop-demand-preserved : goal.loop-demand-preserved
loop-demand-preserved c =
    subst (λ (g : Formula). Adds (λ a. AsDemanded (state_of c.args.spec.now c.args.universe.now.sizes a) (take (c.loop-demand.demand-index + 1) c.args.demands.now)) c.args.formula.now g) (sym c.in_ok-add_clause.ensures.ok)
    (demanded-next c.args.spec.now c.args.universe.now.sizes c.args.demands.now c.loop-demand.demand-index (get_or c.args.demands.now c.loop-demand.demand-index nothing) c.literal_for.result c.args.formula.now c.loop-demand.formula
    c.loop-demand-test.true (get_or_default _ _ _ _ c.loop-demand-test.true) c.literal_for.ensures c.loop-demand.invariant)

pub returns : goal.returns
returns c =
    subst (λ (ds : List Demand). Adds (λ a. AsDemanded (state_of c.args.spec.now c.args.universe.now.sizes a) ds) c.args.formula.now c.loop-demand.formula)
    (take_all c.loop-demand.demand-index c.args.demands.now (omega arith)) c.loop-demand.invariant
