use Rattle.std.proofs.Common.{◌≡◌, drop}
use Rattle.std.specs.List.{slice_get}
use Rattle.ipa_spec.specs.Constants.{constants_of}
use Rattle.ipa_report.proofs.elements.constant_behind.Given as goal

abbrev pub invariant-loop-constant : goal.invariant-loop-constant
invariant-loop-constant l = slice_get (constants_of (drop l.constant-index l.constants) l.sort) l.left ≡ slice_get (constants_of l.constants l.sort) l.number
