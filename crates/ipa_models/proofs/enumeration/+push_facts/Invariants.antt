use Rattle.std.proofs.Common.{◌≡◌, ◌+◌, ◌-◌, ◌++◌, drop}
use Rattle.ipa_ground.specs.Enumeration.{place_sizes}
use Rattle.ipa_models.specs.Listing.{facts_below}
use Rattle.ipa_models.proofs.enumeration.+push_facts.Given as goal

abbrev pub decreases-push_facts : goal.decreases-push_facts
decreases-push_facts l = l.predicate.now.arity - l.at

abbrev pub invariant-loop-element : goal.invariant-loop-element
invariant-loop-element l = l.facts ≡ l.initial.facts ++ facts_below l.fact l.at l.element (drop (l.at + 1) (place_sizes l.predicate l.universe.sizes))
