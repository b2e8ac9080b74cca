use Rattle.std.proofs.Common.{◌≡◌, take}
use Rattle.ipa_ground.specs.Enumeration.{facts_over}
use Rattle.ipa_models.proofs.enumeration.facts_over.Given as goal

abbrev pub invariant-loop-number : goal.invariant-loop-number
invariant-loop-number l = l.facts ≡ facts_over (take l.number l.predicate-items) l.universe.sizes
