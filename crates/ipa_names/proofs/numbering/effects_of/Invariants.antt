use Rattle.std.proofs.Common.{◌≡◌, take}
use Rattle.std.specs.Prelude.{map}
use Rattle.ipa_names.specs.Meaning.{effect_of}
use Rattle.ipa_names.proofs.numbering.effects_of.Given as goal

abbrev pub invariant-loop-effect : goal.invariant-loop-effect
invariant-loop-effect l = l.all ≡ map (effect_of l.declared l.scope) (take l.effect-index l.effects)
