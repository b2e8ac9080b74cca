-- The first false clause is a given one, or a learned one behind them.
use Rattle.std.proofs.Common.{arith}
use Rattle.std.proofs.lemmas.Option.{slice_get_within}
use Rattle.ipa_sat.proofs.Growth.{IsFalseAt-front, IsFalseAt-back}
use Rattle.ipa_sat.proofs.growing.Growing.first_false.Goals as goal

pub overflow_add-result : goal.overflow_add-result
overflow_add-result c =
    let l = c.self.inside.learned in
    let e = c.in-Some-learned.ensures.some in
    let h = slice_get_within l.clauses c.in-Some-learned.place e.clause e.at in
    omega (arith, c.len-given.ensures.small, c.len-count.ensures.small, c.len-count.ensures.length, h)

pub returns-in-Some-clause-some : goal.returns-in-Some-clause-some
returns-in-Some-clause-some c =
    rw (← c.self.view_is) (IsFalseAt-front c.self.inside.given.now c.self.inside.learned.clauses c.args.values.now c.in-Some.place c.in-Some.ensures.some)

pub returns-in-Some-learned-clause-some : goal.returns-in-Some-learned-clause-some
returns-in-Some-learned-clause-some c =
    rw (← c.self.view_is) (IsFalseAt-back c.self.inside.given.now c.self.inside.learned c.args.values.now c.len-given.result c.in-Some-learned.place
    c.len-given.ensures.length c.in-Some-learned.ensures.some)
