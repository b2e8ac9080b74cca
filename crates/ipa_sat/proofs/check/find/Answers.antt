-- Nothing was found from the place on, so what is found before it is all.
use Rattle.ipa_sat.proofs.Checked.{Finds-after}
use Rattle.ipa_sat.proofs.check.find.Goals as goal

pub returns-in-Rests : goal.returns-in-Rests
returns-in-Rests c = Finds-after c.args.cnf.now.clauses c.args.trail.now.vars c.args.trail.now.steps c.args.from c.len-count.result c.min.result c.find_among-in-Rests.result
    c.len-count.ensures.length c.min.ensures c.in-Rests.ensures c.find_among-in-Rests.ensures
