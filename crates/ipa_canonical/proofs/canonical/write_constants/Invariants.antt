use Rattle.std.proofs.Common.{◌≡◌, ◌++◌, take}
use Rattle.std.specs.List.{flat_map}
use Rattle.ipa_forms.specs.Layout.{text_of}
use Rattle.ipa_canonical.specs.Canonical.{const_form}
use Rattle.ipa_canonical.proofs.canonical.write_constants.Given as goal

abbrev pub invariant-loop-constant : goal.invariant-loop-constant
invariant-loop-constant l = l.page ≡ l.initial.page ++ flat_map (λ x. text_of (const_form l.sorts x)) (take l.constant-index l.constants)
