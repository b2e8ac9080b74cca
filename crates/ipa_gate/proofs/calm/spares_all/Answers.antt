use Rattle.std.proofs.Common.{below_more, refl, arith}
use Rattle.ipa_gate.proofs.CalmLemmas.{all_from}
use Rattle.ipa_gate.proofs.calm.spares_all.Goals as goal

pub loop-origin-preserved : goal.loop-origin-preserved
loop-origin-preserved g c =
    below_more _ _ c.loop-origin.invariant (c.origin_spares.ensures.0 c.if-not-origin_spares.false)

pub returns : goal.returns
returns g c = (
  λ _. all_from c.args.spec.now c.args.index.now.entries (g.V.View.facts c.args.view.now) c.requires.history
      c.args.low.now c.args.high.now (λ o low. c.loop-origin.invariant o (omega (arith, low))),
  λ _. refl,
)
