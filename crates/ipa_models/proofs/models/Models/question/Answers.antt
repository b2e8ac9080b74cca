use Rattle.std.proofs.Common.{sym, subst}
use Rattle.ipa_sat.specs.Formula.{Formula}
use Rattle.ipa_ground.specs.Enumeration.{IsListed}
use Rattle.ipa_ground.specs.InstanceLaws.{ClauseFits-declared}
use Rattle.ipa_models.specs.Models.{Setting, AreFacts}
use Rattle.ipa_models.specs.Questions.{IsGrounded, IsQuestion}
use Rattle.ipa_models.proofs.QuestionLemmas.{question}
use Rattle.ipa_models.proofs.models.Models.question.Goals as goal

pub tie_literals-requires-clause-fits : goal.tie_literals-requires-clause-fits
tie_literals-requires-clause-fits c =
    let listed : IsListed c.self.inside.spec.now.clauses c.args.clause.now = subst (λ (x : Setting). IsListed x.spec.clauses c.args.clause.now) (sym c.self.view_is) c.requires.declared in
    ClauseFits-declared _ listed.place c.args.clause.now c.self.invariant.numbered.fit listed.there

pub ask-requires-clause-facts : goal.ask-requires-clause-facts
ask-requires-clause-facts c = subst (λ (x : Setting). AreFacts x.spec x.universe c.args.demands.now) (sym c.self.view_is) c.requires.facts

pub returns : goal.returns
returns c =
    subst (λ (x : Setting). IsQuestion x.spec x.universe c.args.values.now c.args.clause.now.literals c.args.demands.now c.ask.new.formula) c.self.view_is
    (question _ _ _ c.args.values.now c.args.clause.now.literals c.args.demands.now _ _ _
    (subst (λ (f : Formula). IsGrounded c.self.inside.spec.now c.self.inside.universe.sizes c.self.inside.facts f) (sym c.in_ok-formula.ensures) c.self.invariant)
    c.in_ok-tie_literals.ensures c.in_ok-ask.ensures)
