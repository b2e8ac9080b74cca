-- The first open variable is denied.
use Rattle.ipa_sat.proofs.Turning.{GoesOn-deny}
use Rattle.ipa_sat.proofs.search.decide.Goals as goal

pub returns-in_ok-deny-in-Some : goal.returns-in_ok-deny-in-Some
returns-in_ok-deny-in-Some c = rw c.in_ok-deny-in-Some.ensures
    (GoesOn-deny c.args.cnf.now c.args.trail.now c.args.at c.in-Some.var c.requires c.len-steps.ensures.new (rw c.vars.ensures at c.in-Some.ensures.first))
