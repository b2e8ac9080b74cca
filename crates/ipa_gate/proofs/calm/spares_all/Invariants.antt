use Rattle.std.proofs.Common.{ℕ, ◌<◌}
use Rattle.ipa_clock.specs.Cut.{count_of}
use Rattle.ipa_gate.specs.Calms.{OriginSpares}
use Rattle.ipa_gate.proofs.calm.spares_all.Given as goal

abbrev pub invariant-loop-origin : goal.invariant-loop-origin
invariant-loop-origin g l = (o : ℕ) → o < l.origin →
    OriginSpares l.spec l.index.entries (g.V.View.facts l.view) o (count_of l.low o) (count_of l.high o)
