use Rattle.std.proofs.Common.{◌≡◌, ◌++◌, take}
use Rattle.std.specs.List.{flat_map}
use Rattle.ipa_forms.specs.Layout.{text_of}
use Rattle.ipa_canonical.specs.Canonical.{effect_form}
use Rattle.ipa_canonical.proofs.canonical.write_effects.Given as goal

abbrev pub invariant-loop-effect : goal.invariant-loop-effect
invariant-loop-effect l = l.page ≡ l.initial.page ++ flat_map (λ x. text_of (effect_form l.spec l.own l.vars x)) (take l.effect-index l.effects)
