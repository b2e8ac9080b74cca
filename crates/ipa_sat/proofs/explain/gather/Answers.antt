-- One more literal has come.
use Rattle.std.proofs.Common.{false}
use Rattle.std.proofs.lemmas.List.{take_more}
use Rattle.ipa_sat.proofs.Explained.{Gathers-trans}
use Rattle.ipa_sat.proofs.explain.gather.Goals as goal

pub loop-lit-preserved : goal.loop-lit-preserved
loop-lit-preserved c =
    rw (take_more c.args.from.now c.loop-lit.lit-index (record { var = 0; positive = false }) c.loop-lit-test.true)
    (Gathers-trans _ _ c.args.but _ _ _ c.loop-lit.invariant c.in_ok-gather_one.ensures)
