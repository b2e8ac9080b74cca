use Rattle.std.proofs.Common.{◌≡◌, take}
use Rattle.std.specs.Prelude.{map}
use Rattle.ipa_names.specs.Meaning.{operation_of}
use Rattle.ipa_names.proofs.numbering.operations_of.Given as goal

abbrev pub invariant-loop-operation : goal.invariant-loop-operation
invariant-loop-operation l = l.all ≡ map (operation_of l.declared) (take l.operation-index l.operation-items)
