use Rattle.std.proofs.Common.{◌≡◌, ◌++◌, take}
use Rattle.std.specs.List.{flat_map}
use Rattle.ipa_forms.specs.Layout.{text_of}
use Rattle.ipa_canonical.specs.Canonical.{need_form}
use Rattle.ipa_canonical.proofs.canonical.write_needs.Given as goal

abbrev pub invariant-loop-need : goal.invariant-loop-need
invariant-loop-need l = l.page ≡ l.initial.page ++ flat_map (λ x. text_of (need_form l.spec l.own l.vars x)) (take l.need-index l.needs)
