use Rattle.std.proofs.Common.{◌≡◌, ◌++◌, codes, take}
use Rattle.std.specs.List.{flat_map}
use Rattle.ipa_forms.specs.Layout.{name_text}
use Rattle.ipa_forms.proofs.printing.write_names.Given as goal

-- the names so far are printed
abbrev pub invariant-loop-name : goal.invariant-loop-name
invariant-loop-name l = l.page ≡ l.initial.page ++ flat_map (λ n. codes " " ++ name_text n) (take l.name-index l.name-items)
