use Rattle.std.proofs.Common.{◌+◌, ◌≤◌, List, length, take, arith, subst, sym, ◌∙◌}
use Rattle.std.proofs.lemmas.List.{get_or_default, length_push}
use Rattle.ipa_sat.specs.declared.cnf.Lit.{Lit}
use Rattle.ipa_ground.specs.GroundingSteps.{AreGround, IsAlwaysTrue}
use Rattle.ipa_ground.specs.InstanceLaws.{FactFits-read}
use Rattle.ipa_ground.proofs.GroundLemmas.{ground-true, ground-false, ground-depends, ground-opposite}
use Rattle.ipa_ground.proofs.grounding.ground_literals.Goals as goal
use Rattle.ipa_ground.proofs.grounding.ground_literals.Goals.{in-False, in-Depends+else-has_opposite}

pub ground_literal-requires-clause-fact : goal.ground_literal-requires-clause-fact
ground_literal-requires-clause-fact c =
    FactFits-read _ _ _ c.args.clause.now c.loop-literal.literal-index _ c.as_slice-literal-items.result.now c.requires.ready.sizes c.requires.fits c.requires.over c.as_slice-literal-items.ensures c.loop-literal-test.true
    (get_or_default _ _ _ _ c.loop-literal-test.true)

pub returns-in-True : goal.returns-in-True
returns-in-True c =
    subst (IsAlwaysTrue c.args.grounder.now.spec.now c.args.grounder.now.universe.now.sizes c.args.grounder.now.first c.args.values.now) c.as_slice-literal-items.ensures
    (ground-true _ _ _ _ c.as_slice-literal-items.result.now c.loop-literal.literal-index _ c.loop-literal-test.true (get_or_default _ _ _ _ c.loop-literal-test.true) c.in-True.ensures)

pub returns-then-has_opposite : goal.returns-then-has_opposite
returns-then-has_opposite c =
    subst (IsAlwaysTrue c.args.grounder.now.spec.now c.args.grounder.now.universe.now.sizes c.args.grounder.now.first c.args.values.now) c.as_slice-literal-items.ensures
    (ground-opposite _ _ _ _ c.as_slice-literal-items.result.now c.loop-literal.literal-index _ c.loop-literal.lits c.in-Depends.lit c.loop-literal-test.true (get_or_default _ _ _ _ c.loop-literal-test.true) c.in-Depends.ensures c.loop-literal.invariant.0 (c.has_opposite.ensures.0 c.if-has_opposite.true))

pub loop-literal-preserved : goal.loop-literal-preserved
loop-literal-preserved c =
    let so_far : List Lit → Type 0 = λ lits. AreGround c.args.grounder.now.spec.now c.args.grounder.now.universe.now.sizes c.args.grounder.now.first c.args.values.now
    (take (c.loop-literal.literal-index + 1) c.as_slice-literal-items.result.now) lits × (length lits ≤ c.loop-literal.literal-index + 1) in
    elim c.match-ground_literal.branch [
      | in-False w ↦ subst so_far (sym w.lits-is) (
        ground-false _ _ _ _ _ _ _ c.loop-literal.lits c.loop-literal-test.true (get_or_default _ _ _ _ c.loop-literal-test.true) w.in-False.ensures c.loop-literal.invariant.0,
        omega (arith, c.loop-literal.invariant.1),
      )
      | in-Depends+else-has_opposite w ↦ subst so_far (sym (w.lits-is ∙ w.push.ensures)) (
        ground-depends _ _ _ _ _ _ _ c.loop-literal.lits w.in-Depends.lit c.loop-literal-test.true (get_or_default _ _ _ _ c.loop-literal-test.true) w.in-Depends.ensures c.loop-literal.invariant.0,
        omega (arith, c.loop-literal.invariant.1, length_push c.loop-literal.lits w.in-Depends.lit),
      )
    ]
