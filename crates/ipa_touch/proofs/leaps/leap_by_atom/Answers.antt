use Rattle.std.proofs.Common.{◌≤◌, arith}
use Rattle.ipa_logic.specs.Facts.{has}
use Rattle.ipa_logic.specs.Truth.{value_at}
use Rattle.ipa_touch.proofs.LeapLemmas.{leaps-atom}
use Rattle.ipa_touch.proofs.leaps.leap_by_atom.Goals as goal

pub returns-in-Some : goal.returns-in-Some
returns-in-Some g c =
    let step = c.args.step.now in
    leaps-atom step.spec.now step.args.now c.args.from c.least_arg.result (λ k. let few = c.past_constants.ensures.past k in omega (arith, c.if-from-past_constants.false)) c.least_arg.ensures.all
    step.action (has (g.V.View.facts step.view.now)) c.args.atom.now c.args.at c.in-Some.place c.args.values.now c.in-Some.ensures c.least_arg.ensures.on
    (λ v s ge h.
    let held : c.later.result ≤ value_at v c.args.at = c.later.ensures.least (value_at v c.args.at) ge (c.least_known-known.ensures v s ge h) in
    omega (arith, c.least_arg.ensures.within))

pub least_known-known-requires-clause-some : goal.least_known-known-requires-clause-some
least_known-known-requires-clause-some g c = omega (arith, c.past_constants.ensures.some, c.if-from-past_constants.false)

pub least_arg-requires-clause-some : goal.least_arg-requires-clause-some
least_arg-requires-clause-some g c = omega (arith, c.past_constants.ensures.some, c.if-from-past_constants.false)
