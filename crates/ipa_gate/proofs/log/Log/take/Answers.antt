use Rattle.std.proofs.Common.{◌≡◌, refl, subst}
use Rattle.ipa_history.specs.declared.reasons.Reason.TheVariants.{Clause as Breaks}
use Rattle.ipa_gate.specs.Offers.{IsAdmitted, IsTakenAs, IsOfferFault}
use Rattle.ipa_gate.specs.declared.answers.Taken.{Taken}
use Rattle.ipa_gate.specs.declared.answers.OfferFault.{OfferFault}
use Rattle.ipa_gate.specs.declared.answers.OfferFault.TheVariants.{Illegal}
use Rattle.ipa_gate.proofs.log.Log.take.Goals as goal

pub returns-in-Err-clause-drops : goal.returns-in-Err-clause-drops
returns-in-Err-clause-drops c n broken action e =
    let same : c.in-Err.fault ≡ Illegal (Breaks broken) = cc in
    c.drop_never_breaks.ensures n broken action
    (subst (λ (f : OfferFault). IsOfferFault c.self.inside.setting c.self.inside.index.entries c.args.tx f) same
    c.in-Err.ensures.refused)

-- what the log is ready for is no entry where it is new, and there is room for it
pub put-requires-clause-ready : goal.put-requires-clause-ready
put-requires-clause-ready c =
    let s = c.self.inside.setting in
    let h = c.self.inside.index.entries in
    let admitted : IsAdmitted s h c.args.tx =
    subst (λ (t : Taken). IsTakenAs s h c.args.tx t) c.in-Ok-New.field-0-is c.in-Ok-New.ensures.taken in
    c.self.invariant.readied c.args.tx (c.is_ready-was_ready.ensures.0 c.if-was_ready.true)
    (λ m. admitted.next.fresh.unnamed.none c.args.tx m refl)
