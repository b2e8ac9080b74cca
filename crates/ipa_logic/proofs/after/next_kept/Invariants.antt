use Rattle.std.proofs.Common.{◌≡◌, not, find}
use Rattle.ipa_logic.specs.Touches.{removes}
use Rattle.ipa_logic.specs.Walks.{facts_after}
use Rattle.ipa_logic.proofs.after.next_kept.Given as goal

abbrev pub invariant-loop-fact : goal.invariant-loop-fact
invariant-loop-fact g l =
    find (λ f. not (removes l.spec l.action l.args f)) l.fact-iterator
    ≡ find (λ f. not (removes l.spec l.action l.args f)) (facts_after (g.V.View.facts l.view) l.predicate l.fn.after)
