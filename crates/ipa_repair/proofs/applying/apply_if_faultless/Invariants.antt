use Rattle.std.proofs.Common.{◌≡◌, take}
use Rattle.ipa_repair.specs.Applying.{applied}
use Rattle.ipa_repair.proofs.applying.apply_if_faultless.Given as goal

abbrev pub invariant-loop-part : goal.invariant-loop-part
invariant-loop-part l = record l.spec { operations = l.operations.items; predicates = l.predicates.items } ≡ applied l.spec (take l.part-index l.parts)
