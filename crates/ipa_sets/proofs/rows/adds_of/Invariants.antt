use Rattle.std.proofs.Common.{ℕ, None}
use Rattle.ipa_sets.specs.Lasts.{tx_at}
use Rattle.ipa_sets.specs.Rows.{last_from}
use Rattle.ipa_sets.proofs.FillLemmas.{AreFilled}
use Rattle.ipa_sets.proofs.rows.adds_of.Given as goal

abbrev pub invariant-loop-origin : goal.invariant-loop-origin
invariant-loop-origin l = AreFilled (λ (o : ℕ). last_from (tx_at l.row o) None) 16 l.lasts l.origin
