-- The clauses by which the formula has grown are the steps.
use Rattle.ipa_sat.proofs.Grown.{IsShown-steps}
use Rattle.ipa_sat.proofs.answer.solve_shown.Goals as goal

pub returns : goal.returns
returns c = IsShown-steps c.args.cnf.now c.new-grown.result c.search_anew.new.cnf c.in_ok-steps_from-in-None.field-0 c.len.result c.new-grown.ensures
    (rw c.in-None.is at c.in_ok-values.ensures.none) c.len.ensures.length c.in_ok-steps_from-in-None.ensures.range c.in_ok-steps_from-in-None.ensures.clauses
