use Rattle.std.proofs.Common.{List, Option, ◌∙◌, ap}
use Rattle.std.specs.Prelude.{unwrap_or}
use Rattle.ipa_history.specs.declared.history.Tx.{Tx}
use Rattle.ipa_sets.specs.Rows.{no_row, raised}
use Rattle.ipa_sets.proofs.RowLemmas.{raised-none}
use Rattle.ipa_sets.proofs.rows.Rows.raise.Goals as goal

pub returns-in_default : goal.returns-in_default
returns-in_default c = raised-none c.args.lasts.now c.told-lasts
    ∙ ap (λ (x : Option (List (Option Tx))). raised c.args.lasts.now (unwrap_or x no_row)) c.in_default.ensures

pub returns-in-Some : goal.returns-in-Some
returns-in-Some c = c.raised.ensures
    ∙ ap (λ (x : Option (List (Option Tx))). raised c.args.lasts.now (unwrap_or x no_row)) c.in-Some.ensures
