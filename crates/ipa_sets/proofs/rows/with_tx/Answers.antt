use Rattle.ipa_sets.proofs.RowLemmas.{set-row}
use Rattle.ipa_sets.proofs.rows.with_tx.Goals as goal

pub returns : goal.returns
returns c = set-row c.args.row.now c.args.tx.now c.from.result c.from.ensures c.told-row c.requires
