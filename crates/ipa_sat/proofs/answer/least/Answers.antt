-- The clauses by which the formula has grown show that nothing satisfies it.
use Rattle.std.proofs.lemmas.Result.{IfOk-weaker}
use Rattle.ipa_sat.proofs.Grown.{IfNone-refuted}
use Rattle.ipa_sat.proofs.answer.least.Goals as goal

pub returns-clause-none : goal.returns-clause-none
returns-clause-none c = IfOk-weaker _ _ _
    (λ answer r. IfNone-refuted c.args.cnf.now c.new-grown.result c.search_anew.new.cnf c.new-grown.ensures answer r) c.search_anew.ensures.none
