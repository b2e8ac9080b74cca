-- The resolvent is gathered from both clauses.
use Rattle.ipa_sat.proofs.Explained.{Resolves-gathered}
use Rattle.ipa_sat.proofs.explain.resolve.Goals as goal

pub returns : goal.returns
returns c = Resolves-gathered c.args.clause.now c.args.reason.now c.args.lit c.in_ok-new.new.items c.gather.new.into.items
    (rw c.opposite.ensures at c.in_ok-new.ensures) c.in_ok-gather.ensures
