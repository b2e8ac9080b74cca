-- Propagation from the denial tells, and a clash tells at once.
use Rattle.std.proofs.Common.{refl}
use Rattle.std.proofs.lemmas.Result.{IfOk-weaker}
use Rattle.ipa_sat.proofs.Checked.{follows_denied, follows_clash}
use Rattle.ipa_sat.proofs.check.follows.Goals as goal

pub returns-then-branch : goal.returns-then-branch
returns-then-branch c = IfOk-weaker _ _ _
    (λ shown r. follows_denied c.args.cnf.now.clauses c.deny_all.new.trail.steps c.args.clause.now shown (rw c.if-branch.true at c.in_ok-deny_all.ensures.taken) r) c.leads_to_empty.ensures

pub returns : goal.returns
returns c = (λ h. follows_clash c.args.cnf.now.clauses c.args.clause.now (rw c.if-branch.false at c.in_ok-deny_all.ensures.clash), λ h. refl)
