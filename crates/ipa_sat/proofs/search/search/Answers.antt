-- Each turn goes on with what the formula has grown to.
use Rattle.ipa_sat.proofs.Grown.{IsLeast-back, IsRefutedBy-trans}
use Rattle.ipa_sat.proofs.Turning.{IsUnderWay-start, IsUnderWay-next}
use Rattle.ipa_sat.proofs.search.search.Goals as goal

pub turns-init : goal.turns-init
turns-init c = IsUnderWay-start c.args.cnf.now c.args.trail.now c.requires

pub returns-in-Found-clause-found : goal.returns-in-Found-clause-found
returns-in-Found-clause-found c = IsLeast-back c.args.cnf.now c.turns.cnf c.in-Found.values.items c.turns.invariant.grows (rw c.in-Found.is at c.in_ok-values.ensures)

pub returns-in-Impossible-clause-none : goal.returns-in-Impossible-clause-none
returns-in-Impossible-clause-none c = IsRefutedBy-trans c.args.cnf.now c.turns.cnf c.turn_once.new.cnf c.turns.invariant.grows (rw c.in-Impossible.is at c.in_ok-values.ensures)

pub turns-preserved : goal.turns-preserved
turns-preserved c = IsUnderWay-next c.args.cnf.now c.turns.cnf c.turn_once.new.cnf c.turns.trail c.turn_once.new.trail c.turns.at c.in-Next.next c.turns.invariant (rw c.in-Next.is at c.in_ok-values.ensures)
