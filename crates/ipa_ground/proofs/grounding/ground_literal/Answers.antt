use Rattle.std.proofs.Common.{sym, subst}
use Rattle.ipa_spec.specs.declared.clauses.Literal.{Literal}
use Rattle.ipa_ground.specs.GroundingSteps.{IsGroundLiteral}
use Rattle.ipa_ground.proofs.GroundLemmas.{ready-short, ground-holds, ground-fails}
use Rattle.ipa_ground.proofs.grounding.ground_literal.Goals as goal

pub returns-in-Holds : goal.returns-in-Holds
returns-in-Holds c =
    subst (λ (l : Literal). IsGroundLiteral c.args.grounder.now.spec.now c.args.grounder.now.universe.now.sizes c.args.grounder.now.first c.args.values.now l c.ground_atom.result) (sym c.in-Holds.is)
    (ground-holds _ _ _ _ _ _ (ready-short _ _ _ _ _ c.requires.ready) c.ground_atom.ensures)

pub returns-in-Fails : goal.returns-in-Fails
returns-in-Fails c =
    subst (λ (l : Literal). IsGroundLiteral c.args.grounder.now.spec.now c.args.grounder.now.universe.now.sizes c.args.grounder.now.first c.args.values.now l c.ground_atom-in-Fails.result) (sym c.in-Fails.is)
    (ground-fails _ _ _ _ _ _ (ready-short _ _ _ _ _ c.requires.ready) c.ground_atom-in-Fails.ensures)
