-- The denial of a literal is taken, or was before.
use Rattle.ipa_sat.proofs.Checked.{DeniesMore-taken, DeniesMore-known}
use Rattle.ipa_sat.proofs.check.deny.Goals as goal

pub returns-in_ok-push-in-None-clause-denied : goal.returns-in_ok-push-in-None-clause-denied
returns-in_ok-push-in-None-clause-denied c = DeniesMore-taken c.args.trail.now c.push.new.self c.args.lit 0 (rw c.opposite.ensures at c.in_ok-push-in-None.ensures.ok)

pub returns-in-Some-clause-denied : goal.returns-in-Some-clause-denied
returns-in-Some-clause-denied c = DeniesMore-known c.args.trail.now c.args.lit c.in-Some.sign c.in-Some.ensures
