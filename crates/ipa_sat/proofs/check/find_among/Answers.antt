-- All clauses of the range were looked at.
use Rattle.ipa_sat.proofs.Checked.{RestBetween-less}
use Rattle.ipa_sat.proofs.check.find_among.Goals as goal

pub returns : goal.returns
returns c = RestBetween-less c.args.cnf.now.clauses c.args.trail.now.steps c.args.from c.loop-place.place c.args.to c.loop-place-test.false c.loop-place.invariant
