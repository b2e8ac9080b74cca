use Rattle.std.proofs.Common.{◌≡◌, ◌++◌, take}
use Rattle.std.specs.List.{flat_map}
use Rattle.ipa_forms.specs.Layout.{text_of}
use Rattle.ipa_forms.specs.declared.forms.Form.TheVariants.{Sort}
use Rattle.ipa_canonical.proofs.canonical.write_sorts.Given as goal

abbrev pub invariant-loop-name : goal.invariant-loop-name
invariant-loop-name l = l.page ≡ l.initial.page ++ flat_map (λ x. text_of (Sort x)) (take l.name-index l.sorts)
