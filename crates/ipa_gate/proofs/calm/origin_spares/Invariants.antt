use Rattle.ipa_gate.specs.Calms.{OriginSpares}
use Rattle.ipa_gate.proofs.calm.origin_spares.Given as goal

abbrev pub invariant-loop-before : goal.invariant-loop-before
invariant-loop-before g l =
    OriginSpares l.spec l.index.entries (g.V.View.facts l.view) l.origin l.from l.before
