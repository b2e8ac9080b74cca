use Rattle.std.proofs.Common.{◌≡◌, ℕ, ◌<◌, ◌≤◌, List, length, Some, slice_get}
use Rattle.ipa_logic.specs.declared.facts.Request.{Request}
use Rattle.ipa_audit.specs.Journals.{requests_of}
use Rattle.ipa_audit.specs.Order.{count_in}
use Rattle.ipa_audit.proofs.missing.are_all_answered.Given as goal

abbrev pub invariant-loop-session : goal.invariant-loop-session
invariant-loop-session l = (i : ℕ) → i < l.session → (asked : List Request) →
    slice_get (requests_of l.sessions) i ≡ Some asked → length asked ≤ count_in l.outs i
