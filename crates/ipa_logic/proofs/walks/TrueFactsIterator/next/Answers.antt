use Rattle.std.proofs.Common.{length, ap, sym, ◌∙◌, arith}
use Rattle.ipa_logic.specs.WalkLaws.{walk-next}
use Rattle.ipa_logic.proofs.walks.TrueFactsIterator.next.Goals as goal

pub returns-in-Some-clause-steps : goal.returns-in-Some-clause-steps
returns-in-Some-clause-steps g c = sym c.self.view_is
    ∙ walk-next (g.V.View.facts c.self.inside.view.now) c.self.inside.predicate c.self.inside.next c.next_true-self-inside.result c.in-Some.fact
    c.next_true-self-inside.ensures.rising c.in-Some.is c.next_true-self-inside.ensures.value

pub returns-in-Some-clause-goes : goal.returns-in-Some-clause-goes
returns-in-Some-clause-goes g c =
    let step = sym c.self.view_is
    ∙ walk-next (g.V.View.facts c.self.inside.view.now) c.self.inside.predicate c.self.inside.next c.next_true-self-inside.result c.in-Some.fact
    c.next_true-self-inside.ensures.rising c.in-Some.is c.next_true-self-inside.ensures.value in
    record { on = λ _. (tt, tt, omega (arith, ap length step)); keeps = tt; rests = λ _. tt }
