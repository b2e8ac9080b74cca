use Rattle.std.proofs.Common.{◌≡◌, false, [], ◌∷◌, sym, ap, subst, ◌∙◌}
use Rattle.std.proofs.lemmas.Result.{on_ok_weaker}
use Rattle.ipa_sat.specs.Formula.{Formula, value, literal_true}
use Rattle.ipa_ground.specs.FormulaLaws.{with_clause}
use Rattle.ipa_models.specs.Questions.{Adds}
use Rattle.ipa_models.proofs.QuestionLemmas.{lit_of, ties}
use Rattle.ipa_models.proofs.question.tie.Goals as goal

pub returns : goal.returns
returns c = on_ok_weaker c.add_clause-2.result
    (λ added. subst (λ (g : Formula). Adds (λ a. value a c.args.var ≡ literal_true a c.args.lit) c.args.formula.now g)
    (sym (added ∙ ap (λ (g : Formula). with_clause g (lit_of c.args.var false ∷ c.args.lit ∷ [])) c.in_ok-add_clause.ensures.ok))
    (ties c.args.formula.now c.args.var c.args.lit))
    c.add_clause-2.ensures.ok
