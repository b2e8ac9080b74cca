use Rattle.std.proofs.Common.{List, Bool, IfSome, IfNone, sym, subst}
use Rattle.ipa_sat.specs.Formula.{IsLeast, IsUnsatisfiable}
use Rattle.ipa_logic.specs.Facts.{IsRising}
use Rattle.ipa_ground.specs.FactsLaws.{IsRising-facts_over}
use Rattle.ipa_models.specs.Answers.{StandsFor}
use Rattle.ipa_models.proofs.QuestionLemmas.{short-predicates}
use Rattle.ipa_models.proofs.FirstLemmas.{none-found, first-found}
use Rattle.ipa_models.proofs.models.Models.first.Goals as goal

pub returns-in-None : goal.returns-in-None
returns-in-None c =
    none-found _ _ _ c.args.clause.now c.args.demands.now c.in_ok-question.question c.requires.declared c.in_ok-question.ensures
    (subst (λ o. IfNone o (IsUnsatisfiable c.in_ok-question.question)) c.in-None.is c.in_ok-least.ensures.none)

pub state_of-requires-clause-rising : goal.state_of-requires-clause-rising
state_of-requires-clause-rising c = subst IsRising (sym c.facts.ensures) (IsRising-facts_over _ _ (short-predicates _ _ c.in_ok-question.ensures.numbered))

pub returns : goal.returns
returns c =
    first-found _ _ _ c.args.clause.now c.args.demands.now c.in_ok-question.question c.facts.result.now c.in-Some.assignment.items _ c.requires.declared c.in_ok-question.ensures
    (subst (λ o. IfSome o (λ a. IsLeast c.in_ok-question.question a.items)) c.in-Some.is c.in_ok-least.ensures.found)
    c.facts.ensures
    (subst (λ (a : List Bool). StandsFor c.facts.result.now a c.in_ok-state_of-in-Some.field-0) c.as_slice.ensures.value c.in_ok-state_of-in-Some.ensures)
