use Rattle.std.proofs.Common.{ℕ}
use Rattle.ipa_sets.specs.Lasts.{tx_at, last_of}
use Rattle.ipa_sets.specs.Rows.{later_last}
use Rattle.ipa_sets.proofs.FillLemmas.{AreFilled}
use Rattle.ipa_sets.proofs.rows.raised.Given as goal

abbrev pub invariant-loop-origin : goal.invariant-loop-origin
invariant-loop-origin l = AreFilled (λ (o : ℕ). later_last (last_of l.lasts o) (tx_at l.row o)) 16 l.next l.origin
