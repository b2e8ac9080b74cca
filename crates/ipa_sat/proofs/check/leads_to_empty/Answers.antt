-- The steps spread until a clause is false or all are at rest.
use Rattle.std.proofs.Common.{refl}
use Rattle.std.proofs.lemmas.Bool.{false≢true}
use Rattle.ipa_sat.proofs.Checked.{Refutes-empty, Refutes-rests, Spreads-takes, fewer_open}
use Rattle.ipa_sat.proofs.Refuting.{Refutes-more}
use Rattle.ipa_sat.proofs.check.leads_to_empty.Goals as goal

pub returns-in-Empty : goal.returns-in-Empty
returns-in-Empty c = (λ yes. c.turns.invariant.back (Refutes-empty c.args.cnf.now.clauses c.turns.trail.steps c.in-Empty.ensures), λ r. refl)

pub returns-in-Rests : goal.returns-in-Rests
returns-in-Rests c = (
  λ no. absurd (false≢true no),
  λ r. absurd (Refutes-rests c.args.cnf.now.clauses c.turns.trail.vars c.turns.trail.steps c.len-steps.ensures.new c.in-Rests.ensures
      (Refutes-more c.args.cnf.now.clauses _ _ r (record { all = c.turns.invariant.on }))),
)

pub turns-smaller : goal.turns-smaller
turns-smaller c = let h = c.in-Takes.ensures in fewer_open c.turns.trail c.push.new.self c.in-Takes.lit c.in-Takes.place c.len-steps.ensures.new h.holds.in_range h.holds.unknown c.in_ok-push-in-Takes.ensures.ok

pub turns-preserved : goal.turns-preserved
turns-preserved c = Spreads-takes c.args.cnf.now.clauses c.turns.trail.vars c.args.trail.now c.turns.trail c.push.new.self c.in-Takes.lit c.in-Takes.place c.turns.invariant c.in-Takes.ensures c.in_ok-push-in-Takes.ensures.ok
