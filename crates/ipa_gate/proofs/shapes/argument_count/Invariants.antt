use Rattle.std.proofs.Common.{◌≤◌, length}
use Rattle.ipa_spec.specs.Actions.{sorts_of}
use Rattle.ipa_gate.proofs.shapes.argument_count.Given as goal

abbrev pub invariant-loop-place : goal.invariant-loop-place
invariant-loop-place l = l.place ≤ length (sorts_of l.spec l.action)
