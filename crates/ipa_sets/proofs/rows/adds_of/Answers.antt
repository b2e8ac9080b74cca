use Rattle.std.proofs.Common.{ℕ, None}
use Rattle.ipa_sets.specs.Lasts.{tx_at}
use Rattle.ipa_sets.specs.Rows.{last_from}
use Rattle.ipa_sets.proofs.FillLemmas.{fill-more}
use Rattle.ipa_sets.proofs.RowLemmas.{adds-filled}
use Rattle.ipa_sets.proofs.rows.adds_of.Goals as goal

pub loop-origin-preserved : goal.loop-origin-preserved
loop-origin-preserved c = fill-more (λ (o : ℕ). last_from (tx_at c.args.row.now o) None) 16 c.loop-origin.lasts c.loop-origin.origin
    c.added.result c.loop-origin-test.true c.added.ensures c.loop-origin.invariant

pub returns : goal.returns
returns c = adds-filled c.args.row.now c.loop-origin.lasts c.loop-origin.origin c.loop-origin-test.false c.loop-origin.invariant
