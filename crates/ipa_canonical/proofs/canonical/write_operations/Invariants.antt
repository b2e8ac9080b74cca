use Rattle.std.proofs.Common.{◌≡◌, ◌++◌, take}
use Rattle.std.specs.List.{flat_map}
use Rattle.ipa_forms.specs.Layout.{text_of}
use Rattle.ipa_canonical.specs.Canonical.{operation_forms}
use Rattle.ipa_canonical.proofs.canonical.write_operations.Given as goal

abbrev pub invariant-loop-operation : goal.invariant-loop-operation
invariant-loop-operation l = l.page ≡ l.initial.page ++ flat_map (λ x. flat_map text_of (operation_forms l.spec x)) (take l.operation-index l.operations)
