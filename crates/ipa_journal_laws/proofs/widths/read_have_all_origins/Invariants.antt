use Rattle.std.proofs.Common.{◌≡◌, ℕ, ◌<◌, Some}
use Rattle.std.specs.List.{slice_get}
use Rattle.ipa_clock.specs.Laws.{HasAllOrigins}
use Rattle.ipa_history.specs.declared.outcomes.Outcome.{Outcome}
use Rattle.ipa_journal_laws.proofs.widths.read_have_all_origins.Given as goal

abbrev pub invariant-loop-outcome : goal.invariant-loop-outcome
invariant-loop-outcome l = (k : ℕ) (x : Outcome) → k < l.outcome-index → slice_get l.outcomes k ≡ Some x → HasAllOrigins x.cut
