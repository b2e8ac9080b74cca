use Rattle.std.proofs.Common.{◌≡◌, take}
use Rattle.std.specs.Prelude.{map}
use Rattle.ipa_names.specs.Meaning.{predicate_of}
use Rattle.ipa_names.proofs.numbering.predicates_of.Given as goal

abbrev pub invariant-loop-predicate : goal.invariant-loop-predicate
invariant-loop-predicate l = l.all ≡ map (predicate_of l.declared) (take l.predicate-index l.predicate-items)
