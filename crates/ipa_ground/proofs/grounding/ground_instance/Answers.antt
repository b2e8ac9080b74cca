use Rattle.std.proofs.Common.{ap, subst, sym, ◌∙◌}
use Rattle.std.proofs.lemmas.Result.{on_ok_weaker}
use Rattle.ipa_sat.specs.Formula.{Formula}
use Rattle.ipa_ground.specs.FormulaLaws.{with_clause}
use Rattle.ipa_ground.specs.Grounding.{Narrows}
use Rattle.ipa_ground.specs.GroundingSteps.{GroundsInstance}
use Rattle.ipa_ground.proofs.FormulaLemmas.{on_either, narrows-same, narrows-instance, instance-added, instance-always}
use Rattle.ipa_ground.proofs.grounding.ground_instance.Goals as goal

pub returns-in-None-clause-ok : goal.returns-in-None-clause-ok
returns-in-None-clause-ok c = instance-always _ _ _ _ _ _ c.in-None.ensures

pub returns-in-Some-clause-narrows : goal.returns-in-Some-clause-narrows
returns-in-Some-clause-narrows c =
    on_either c.add_clause.result _ _ _ c.add_clause.ensures.ok c.add_clause.ensures.err
    (λ added. subst (λ (f : Formula). Narrows c.args.grounder.now.spec.now c.args.grounder.now.universe.now.sizes c.args.grounder.now.first c.args.cnf.now f)
    (sym (added ∙ ap (with_clause c.args.cnf.now) c.as_slice.ensures))
    (narrows-instance _ _ _ c.args.cnf.now c.args.clause.now c.args.values.now c.in-Some.lits c.requires.declared c.requires.over c.in-Some.ensures))
    (λ kept. subst (λ (f : Formula). Narrows c.args.grounder.now.spec.now c.args.grounder.now.universe.now.sizes c.args.grounder.now.first c.args.cnf.now f) (sym kept) (narrows-same _ _ _ c.args.cnf.now))

pub returns-in-Some-clause-ok : goal.returns-in-Some-clause-ok
returns-in-Some-clause-ok c =
    on_ok_weaker c.add_clause.result
    (λ added. subst (GroundsInstance c.args.grounder.now.spec.now c.args.grounder.now.universe.now.sizes c.args.grounder.now.first c.args.clause.now c.args.values.now)
    (sym (added ∙ ap (with_clause c.args.cnf.now) c.as_slice.ensures))
    (instance-added _ _ _ c.args.cnf.now c.args.clause.now c.args.values.now c.in-Some.lits c.in-Some.ensures))
    c.add_clause.ensures.ok
