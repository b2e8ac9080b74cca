use Rattle.ipa_gate.proofs.CalmLemmas.{calm_between}
use Rattle.ipa_gate.proofs.calm.is_known_calm.Goals as goal

pub returns-then-is_near : goal.returns-then-is_near
returns-then-is_near g c h =
    calm_between c.args.spec.now c.args.universe.now.sizes c.args.base.now c.args.index.now.entries c.args.cut.now
    c.requires.at c.in-Some.low (g.V.View.facts c.args.view.now) c.in-Some.ensures c.requires.state
    (c.spares_all.ensures.0 h)
