use Rattle.std.proofs.Common.{◌≡◌, ◌++◌, take}
use Rattle.std.specs.List.{flat_map}
use Rattle.ipa_forms.specs.Layout.{text_of}
use Rattle.ipa_canonical.specs.Canonical.{pred_form}
use Rattle.ipa_canonical.proofs.canonical.write_predicates.Given as goal

abbrev pub invariant-loop-predicate : goal.invariant-loop-predicate
invariant-loop-predicate l = l.page ≡ l.initial.page ++ flat_map (λ x. text_of (pred_form l.sorts x)) (take l.predicate-index l.predicates)
