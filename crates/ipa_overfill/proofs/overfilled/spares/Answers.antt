use Rattle.ipa_overfill.proofs.OverfillLemmas.{spares_is}
use Rattle.ipa_overfill.proofs.overfilled.spares.Goals as goal

pub returns : goal.returns
returns g c =
    spares_is c.args.spec.now c.args.action c.args.args.now (g.V.View.facts c.args.view.now) c.is_none.result
    c.first_overfilled.result c.is_none.ensures c.first_overfilled.ensures
