use Rattle.std.proofs.Common.{◌∙◌, ap, List, Option}
use Rattle.std.specs.Prelude.{true}
use Rattle.ipa_history.specs.declared.history.Tx.{Tx}
use Rattle.ipa_sets.specs.Rows.{put_in}
use Rattle.ipa_sets.proofs.RowLemmas.{has-same, put-row, put-kept, absent-none}
use Rattle.ipa_sets.proofs.rows.Rows.put.Goals as goal

pub returns-clause-rows : goal.returns-clause-rows
returns-clause-rows c = put-row c.args.self.now c.insert.new.self c.args.key c.args.tx.now c.with_tx-row.result
    c.in_ok-insert.ensures.updates
    (λ o. c.with_tx-row.ensures o ∙ ap (λ (row : List (Option Tx)). put_in true c.args.tx.now row o) c.row_in.ensures)

pub returns-in_err-insert-clause-kept : goal.returns-in_err-insert-clause-kept
returns-in_err-insert-clause-kept c = has-same c.args.self.now c.insert.new.self c.in_err-insert.ensures.refused

pub returns-in_err-insert-clause-ready : goal.returns-in_err-insert-clause-ready
returns-in_err-insert-clause-ready c h = absurd (absent-none c.args.self.now c.args.key c.in_err-insert.ensures.absent h)

pub returns-clause-kept : goal.returns-clause-kept
returns-clause-kept c = put-kept c.args.self.now c.insert.new.self c.args.key c.with_tx-row.result c.in_ok-insert.ensures.updates
