use Rattle.std.proofs.Common.{◌≡◌, find}
use Rattle.ipa_logic.specs.Walks.{facts_after}
use Rattle.ipa_sets.proofs.listing.next_passing.Given as goal

abbrev pub invariant-loop-fact : goal.invariant-loop-fact
invariant-loop-fact g l =
    find (g.T.Test.passes l.test) l.fact-iterator
    ≡ find (g.T.Test.passes l.test) (facts_after (g.V.View.facts l.view) l.predicate l.fn.after)
