use Rattle.std.proofs.Common.{None, arith}
use Rattle.ipa_sets.specs.AtCuts.{last_at, lasts}
use Rattle.ipa_sets.specs.LastAtLaws.{each-only}
use Rattle.ipa_sets.proofs.index.Index.lasts.Goals as goal

pub returns : goal.returns
unfolding lasts
returns c = each-only (last_at c.args.self.now c.args.cut.now c.args.fact.now) None c.loop-origin.lasts c.loop-origin.invariant.sized
    (λ k l. c.loop-origin.invariant.below k (let past = c.loop-origin-test.false in omega (arith, past, l)))
