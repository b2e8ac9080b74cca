use Rattle.std.proofs.Common.{◌≤◌, length, take}
use Rattle.ipa_ground.specs.GroundingSteps.{AreGround}
use Rattle.ipa_ground.proofs.grounding.ground_literals.Given as goal

abbrev pub invariant-loop-literal : goal.invariant-loop-literal
invariant-loop-literal l =
    AreGround l.grounder.spec.now l.grounder.universe.now.sizes l.grounder.first l.values (take l.literal-index l.literal-items) l.lits × (length l.lits ≤ l.literal-index)
