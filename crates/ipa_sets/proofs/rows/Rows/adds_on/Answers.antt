use Rattle.std.proofs.Common.{List, Option, ◌∙◌, ap}
use Rattle.std.specs.Prelude.{unwrap_or}
use Rattle.ipa_history.specs.declared.history.Tx.{Tx}
use Rattle.ipa_sets.specs.Rows.{no_row, row_in, lasts_of_rows}
use Rattle.ipa_sets.specs.declared.keys.Key.{Key}
use Rattle.ipa_sets.proofs.RowLemmas.{adds-none}
use Rattle.ipa_sets.proofs.rows.Rows.adds_on.Goals as goal

pub returns-in-Some : goal.returns-in-Some
returns-in-Some c = c.adds_of.ensures
    ∙ (ap (λ (x : Option (List (Option Tx))). lasts_of_rows (unwrap_or x no_row) no_row) (c.in-Some.ensures)
    ∙ ap (λ (k : Key). lasts_of_rows (row_in c.args.self.now k) no_row) c.add_key.ensures)

pub returns-in-None : goal.returns-in-None
returns-in-None c = adds-none
    ∙ (ap (λ (x : Option (List (Option Tx))). lasts_of_rows (unwrap_or x no_row) no_row) (c.in-None.ensures)
    ∙ ap (λ (k : Key). lasts_of_rows (row_in c.args.self.now k) no_row) c.add_key.ensures)
