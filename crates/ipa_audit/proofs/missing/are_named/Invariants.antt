use Rattle.std.proofs.Common.{◌≡◌, ℕ, ◌<◌, true, Some, slice_get}
use Rattle.ipa_history.specs.declared.history.Tx.{Tx}
use Rattle.ipa_audit.specs.Commits.{is_named}
use Rattle.ipa_audit.proofs.missing.are_named.Given as goal

abbrev pub invariant-loop-tx : goal.invariant-loop-tx
invariant-loop-tx l = (j : ℕ) (t : Tx) → j < l.tx-index → slice_get l.entries j ≡ Some t →
    is_named l.commits.keys t ≡ true
