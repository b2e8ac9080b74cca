use Rattle.std.proofs.Common.{◌≡◌, take}
use Rattle.std.specs.Prelude.{map}
use Rattle.ipa_names.specs.Meaning.{bound_of}
use Rattle.ipa_names.proofs.bounding.bounds_of.Given as goal

abbrev pub invariant-loop-bound : goal.invariant-loop-bound
invariant-loop-bound l = l.all ≡ map (bound_of l.declared) (take l.bound-index l.bound-items)
