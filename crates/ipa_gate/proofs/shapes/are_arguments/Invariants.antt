use Rattle.std.proofs.Common.{ℕ, ◌<◌}
use Rattle.ipa_gate.specs.Shapes.{IsArgumentAt}
use Rattle.ipa_gate.proofs.shapes.are_arguments.Given as goal

abbrev pub invariant-loop-place : goal.invariant-loop-place
invariant-loop-place l = (k : ℕ) → k < l.place → IsArgumentAt l.spec l.universe.sizes l.action l.args k
