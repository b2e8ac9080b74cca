use Rattle.std.proofs.Common.{◌≡◌, take}
use Rattle.std.specs.Prelude.{map}
use Rattle.ipa_canonical.specs.Canonical.{literal_form}
use Rattle.ipa_canonical.proofs.parts.literal_forms.Given as goal

abbrev pub invariant-loop-literal : goal.invariant-loop-literal
invariant-loop-literal l = l.all ≡ map (literal_form l.spec l.own l.vars) (take l.literal-index l.literals)
