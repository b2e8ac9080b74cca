use Rattle.std.proofs.Common.{◌≡◌, subst}
use Rattle.ipa_history.specs.declared.reasons.Reason.TheVariants.{Clause as Breaks}
use Rattle.ipa_gate.specs.Offers.{IsOfferFault}
use Rattle.ipa_gate.specs.declared.answers.OfferFault.{OfferFault}
use Rattle.ipa_gate.specs.declared.answers.OfferFault.TheVariants.{Illegal}
use Rattle.ipa_gate.proofs.log.Log.test.Goals as goal

pub returns-in-Err-clause-drops : goal.returns-in-Err-clause-drops
returns-in-Err-clause-drops c n broken action e =
    let same : c.in-Err.fault ≡ Illegal (Breaks broken) = cc in
    c.drop_never_breaks.ensures n broken action
    (subst (λ (f : OfferFault). IsOfferFault c.self.inside.setting c.self.inside.index.entries c.args.tx.now f) same
    c.in-Err.ensures.refused)
