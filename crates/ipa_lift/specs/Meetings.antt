-- Members of a history that meet without knowing of each other.
--
--   NoMeetingConflict s h   no two members, neither before the other, have actions in conflict on any clause
use Rattle.std.specs.Prelude.{◌≡◌, ℕ, false, List}
use Rattle.ipa_spec.specs.declared.specification.Specification.{Specification}
use Rattle.ipa_logic.specs.Conflicts.{Conflict}
use Rattle.ipa_history.specs.Histories.{IsMember, is_before}
use Rattle.ipa_history.specs.declared.history.Tx.{Tx}

-- no two members, neither before the other, have actions in conflict on any clause, in either order
pub record NoMeetingConflict (s : Specification) (h : List Tx) : Type 0 where
  pub apart : (t u : Tx) (k : ℕ) → IsMember h t → IsMember h u → (t ≡ u → ⊥) → is_before t u ≡ false →
      is_before u t ≡ false
      → Conflict s t.action u.action k → ⊥
