use Rattle.std.proofs.Common.{◌+◌, arith, sym, subst}
use Rattle.ipa_sat.specs.Formula.{Formula}
use Rattle.ipa_models.specs.Questions.{Adds}
use Rattle.ipa_models.proofs.QuestionLemmas.{AreDenied, denied-none, denied-next, denied-all}
use Rattle.ipa_models.proofs.question.deny_from.Goals as goal

pub loop-var-init : goal.loop-var-init
loop-var-init c = (denied-none _ _, omega arith, omega arith)

pub loop-var-preserved : goal.loop-var-preserved
loop-var-preserved c = (
  subst (λ (g : Formula). Adds (AreDenied c.args.count (c.loop-var.var + 1)) c.args.formula.now g) (sym c.in_ok-add_clause.ensures.ok)
      (denied-next c.args.formula.now c.loop-var.formula c.args.count c.loop-var.var c.loop-var.invariant.1 c.loop-var.invariant.0),
  omega (arith, c.loop-var.invariant.1),
  omega arith,
)

pub returns : goal.returns
returns c = denied-all _ _ _ _ (omega (arith, c.loop-var.invariant.2)) c.loop-var.invariant.0
