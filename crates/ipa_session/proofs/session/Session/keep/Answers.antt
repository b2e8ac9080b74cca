use Rattle.std.proofs.Common.{◌≤◌, refl, subst, arith}
use Rattle.std.proofs.lemmas.Bool.{false≢true}
use Rattle.ipa_session.specs.Sessions.{SessionParts}
use Rattle.ipa_session.proofs.session.Session.keep.Goals as goal

pub returns-in_err-reserve-clause-spare : goal.returns-in_err-reserve-clause-spare
returns-in_err-reserve-clause-spare c some = absurd (false≢true (c.in_err-reserve.ensures.ready some).0)

pub returns-clause-spare : goal.returns-clause-spare
returns-clause-spare c some =
    let few : c.args.self.now.spare ≤ 1 = subst (λ (p : SessionParts). p.spare ≤ 1) c.self.view_is c.self.invariant.few in
    let none = c.keep_within.ensures.spare in
    (refl, omega (arith, some, few, none))
