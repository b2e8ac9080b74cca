use Rattle.ipa_gate.proofs.CutLemmas.{lasts_enough}
use Rattle.ipa_gate.proofs.cuts.open_member.Goals as goal

pub returns-then-lasts_are_below : goal.returns-then-lasts_are_below
returns-then-lasts_are_below c =
    lasts_enough c.args.index.now.entries c.requires.indexed.history c.args.cut.now c.requires.within
    (c.lasts_are_below.ensures.0 c.if-lasts_are_below.true)
