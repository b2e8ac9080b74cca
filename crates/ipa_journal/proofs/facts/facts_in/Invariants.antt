use Rattle.std.proofs.Common.{◌≡◌, length}
use Rattle.ipa_journal.specs.Meaning.{facts_in}
use Rattle.ipa_journal.proofs.FactLemmas.{before}
use Rattle.ipa_journal.proofs.facts.facts_in.Given as goal

-- the facts so far stand before those of the parts that are left
abbrev pub invariant-facts : goal.invariant-facts
invariant-facts l = facts_in l.spec l.elements l.parts ≡ before l.facts.items (facts_in l.spec l.elements l.rest)

abbrev pub decreases-facts : goal.decreases-facts
decreases-facts l = length l.rest
