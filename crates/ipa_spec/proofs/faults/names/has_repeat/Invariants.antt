use Rattle.std.proofs.Common.{◌≡◌, length}
use Rattle.ipa_spec.specs.Faults.{has_repeat}
use Rattle.ipa_spec.proofs.faults.names.has_repeat.Given as goal

-- no item before the rest has the name of a later one
abbrev pub invariant-loop-rest : goal.invariant-loop-rest
invariant-loop-rest g l =
    has_repeat g.T.Named.name_of l.fn.items ≡ has_repeat g.T.Named.name_of l.rest

abbrev pub decreases-loop-rest : goal.decreases-loop-rest
decreases-loop-rest g l = length l.rest
