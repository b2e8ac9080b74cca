use Rattle.std.proofs.Common.{refl}
use Rattle.ipa_gate.proofs.CalmLemmas.{origin_next}
use Rattle.ipa_gate.proofs.calm.origin_spares.Goals as goal

pub loop-before-preserved : goal.loop-before-preserved
loop-before-preserved g c =
    origin_next c.args.spec.now c.args.index.now.entries (g.V.View.facts c.args.view.now) c.args.origin c.args.from
    c.loop-before.before _ refl refl c.loop-before.invariant
    (c.member_spares.ensures.0 c.if-not-member_spares.false)
