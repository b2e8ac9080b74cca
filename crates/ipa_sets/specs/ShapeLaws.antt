-- That each remove among the known keys has its shape is one fact.
use Rattle.std.specs.Prelude.{Bool}
use Rattle.std.proofs.Props.{props}
use Rattle.ipa_sets.specs.Shapes.{AreMet}
use Rattle.ipa_sets.specs.declared.keys.Key.{Key}
use Rattle.ipa_sets.specs.declared.shapes.Shapes.{Shapes}

pub AreMet-prop : (known : Key → Bool) (shapes : Shapes) → IsProp (AreMet known shapes)
AreMet-prop known shapes = hlevel props
