use Rattle.std.proofs.Common.{◌≡◌, ◌++◌, take}
use Rattle.std.specs.List.{flat_map}
use Rattle.ipa_forms.specs.Layout.{text_of}
use Rattle.ipa_canonical.specs.Canonical.{bound_forms}
use Rattle.ipa_canonical.proofs.canonical.write_bounds.Given as goal

abbrev pub invariant-loop-bound : goal.invariant-loop-bound
invariant-loop-bound l = l.page ≡ l.initial.page ++ flat_map (λ x. flat_map text_of (bound_forms l.spec x)) (take l.bound-index l.bounds)
