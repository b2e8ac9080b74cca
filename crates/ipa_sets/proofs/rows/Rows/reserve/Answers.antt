use Rattle.std.proofs.Common.{Option, List, ◌∙◌, ap, sym}
use Rattle.std.specs.Prelude.{is_some}
use Rattle.ipa_history.specs.declared.history.Tx.{Tx}
use Rattle.ipa_sets.specs.Rows.{row_at, RowTable}
use Rattle.ipa_sets.proofs.rows.Rows.reserve.Goals as goal

pub invariant_of-self-2 : goal.invariant_of-self-2
invariant_of-self-2 c k there removes = c.self.invariant k
    (ap (λ (x : Option (List (Option Tx))). is_some x) (sym (c.reserve.ensures.entries.2 k)) ∙ there) removes

pub returns-clause-same : goal.returns-clause-same
returns-clause-same c k = c.reserve.ensures.entries.2 k ∙ ap (λ (t : RowTable). row_at t k) c.self.view_is
