use Rattle.std.proofs.Common.{ℕ, None}
use Rattle.ipa_sets.specs.Lasts.{tx_at, last_of}
use Rattle.ipa_sets.specs.Rows.{later_last, raised}
use Rattle.ipa_sets.proofs.FillLemmas.{fill-more, fill-end}
use Rattle.ipa_sets.proofs.rows.raised.Goals as goal

pub loop-origin-preserved : goal.loop-origin-preserved
loop-origin-preserved c = fill-more (λ (o : ℕ). later_last (last_of c.args.lasts.now o) (tx_at c.args.row.now o)) 16 c.loop-origin.next c.loop-origin.origin
    c.later_last.result c.loop-origin-test.true c.later_last.ensures c.loop-origin.invariant

pub returns : goal.returns
unfolding raised
returns c = fill-end (λ (o : ℕ). later_last (last_of c.args.lasts.now o) (tx_at c.args.row.now o)) 16 c.loop-origin.next c.loop-origin.origin None
    c.loop-origin-test.false c.loop-origin.invariant
