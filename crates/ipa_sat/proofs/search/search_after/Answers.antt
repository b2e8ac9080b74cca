-- What holds of the formula that has learned a clause holds of the formula.
use Rattle.std.proofs.Common.{Vec, Global, Bool}
use Rattle.std.proofs.lemmas.Result.{IfOk-weaker}
use Rattle.ipa_sat.proofs.Grown.{IfSome-grown, IfNone-grown, IsRefutedBy-same}
use Rattle.ipa_sat.proofs.search.search_after.Goals as goal

pub returns-then-branch-clause-found : goal.returns-then-branch-clause-found
returns-then-branch-clause-found c = IfOk-weaker _ _ _
    (λ answer h. IfSome-grown c.args.cnf.now c.learn.new.cnf (rw c.if-branch.true at c.in_ok-learn.ensures.learned).grows answer (λ (a : Vec Bool Global). a.items) h) c.search.ensures.found

pub returns-then-branch-clause-none : goal.returns-then-branch-clause-none
returns-then-branch-clause-none c = IfOk-weaker _ _ _
    (λ answer h. IfNone-grown c.args.cnf.now c.learn.new.cnf c.search.new.cnf (rw c.if-branch.true at c.in_ok-learn.ensures.learned).grows answer h) c.search.ensures.none

pub returns-else-branch-clause-none : goal.returns-else-branch-clause-none
returns-else-branch-clause-none c = IsRefutedBy-same c.args.cnf.now c.learn.new.cnf (rw c.if-branch.false at c.in_ok-learn.ensures.same) (rw c.if-branch.false at c.in_ok-learn.ensures.refuted)
