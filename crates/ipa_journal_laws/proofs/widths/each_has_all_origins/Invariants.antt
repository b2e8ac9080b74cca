use Rattle.std.proofs.Common.{◌≡◌, ℕ, ◌<◌, List, Some}
use Rattle.std.specs.List.{slice_get}
use Rattle.ipa_clock.specs.Laws.{HasAllOrigins}
use Rattle.ipa_history.specs.declared.outcomes.Outcome.{Outcome}
use Rattle.ipa_journal_laws.proofs.widths.each_has_all_origins.Given as goal

abbrev pub invariant-loop-own : goal.invariant-loop-own
invariant-loop-own l = (i : ℕ) (os : List Outcome) → i < l.own-index → slice_get l.outcomes i ≡ Some os →
    (k : ℕ) (o : Outcome) → slice_get os k ≡ Some o → HasAllOrigins o.cut
