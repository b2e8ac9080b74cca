use Rattle.std.proofs.Common.{◌≡◌, ℕ, ◌<◌, Some}
use Rattle.std.specs.List.{slice_get}
use Rattle.ipa_clock.specs.Laws.{HasAllOrigins}
use Rattle.ipa_history.specs.declared.history.Tx.{Tx}
use Rattle.ipa_journal_laws.proofs.widths.seen_have_all_origins.Given as goal

abbrev pub invariant-loop-tx : goal.invariant-loop-tx
invariant-loop-tx l = (k : ℕ) (x : Tx) → k < l.tx-index → slice_get l.entries k ≡ Some x → HasAllOrigins x.cut
