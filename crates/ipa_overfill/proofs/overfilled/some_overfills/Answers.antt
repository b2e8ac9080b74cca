use Rattle.std.proofs.Common.{sym, ◌∙◌}
use Rattle.std.proofs.lemmas.Bool.{false≢true}
use Rattle.ipa_overfill.proofs.OverfillLemmas.{none_start, none_next, none_end, some_here}
use Rattle.ipa_overfill.proofs.overfilled.some_overfills.Goals as goal

pub loop-effect-init : goal.loop-effect-init
loop-effect-init g c = none_start _ _ _ _ _

pub loop-effect-preserved : goal.loop-effect-preserved
loop-effect-preserved g c = none_next _ _ _ _ _ _ _ c.loop-effect-test.true c.loop-effect.invariant
    (λ over. false≢true (sym c.if-overfills_by.false ∙ c.overfills_by.ensures.1 over))

pub returns-then-overfills_by : goal.returns-then-overfills_by
returns-then-overfills_by g c = some_here _ _ _ _ _ _ _ c.loop-effect-test.true
    (c.overfills_by.ensures.0 c.if-overfills_by.true)

pub returns : goal.returns
returns g c = none_end _ _ _ _ _ _ c.loop-effect-test.false c.loop-effect.invariant
