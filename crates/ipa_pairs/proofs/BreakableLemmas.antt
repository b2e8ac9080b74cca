-- What is told of the clauses that an action could break.
--
--   unbroken        a clause that left could not break is in no conflict with it on the left
--   narrow          nor too wide
--   apart_by        whether two actions are apart
use Rattle.std.proofs.Common.{◌≡◌, ℕ, Bool, true, false, List, get_or, Some, MatchBool, sym, ◌∙◌}
use Rattle.std.specs.List.{slice_get}
use Rattle.std.proofs.lemmas.Bool.{false≢true, and_parts}
use Rattle.ipa_spec.specs.declared.specification.Specification.{Specification}
use Rattle.ipa_spec.specs.declared.clauses.Clause.{Clause}
use Rattle.ipa_spec.specs.declared.operations.Action.{Action}
use Rattle.ipa_logic.specs.Conflicts.{Conflict, can_break, is_live}
use Rattle.ipa_pairs.specs.Told.{AreBreakable}
use Rattle.ipa_pairs.specs.Width.{IsTooWide, IsOfPair, IsNarrow}
use Rattle.ipa_pairs.specs.Analyses.{IsApart}

module _ (s : Specification) (left right : Action) (k : ℕ) (told : List Bool) (a : AreBreakable s left told) (none : get_or told k false ≡ false) where
  not_live : (c : Clause) → slice_get s.clauses k ≡ Some c → is_live s left right c ≡ true → ⊥
  not_live c e live =
      false≢true (sym none ∙ (a.each k c e ∙ (and_parts (can_break s left c) (can_break s right c) live).0))

  -- a clause that left could not break is in no conflict with it on the left
  pub unbroken : ((left right : Action) (k : ℕ) (c : Clause) → slice_get s.clauses k ≡ Some c → Conflict s left right k → is_live s left right c ≡ true) →
      Conflict s left right k → ⊥
  unbroken law h = not_live h.clause h.declared (law left right k h.clause h.declared h)

  -- nor too wide
  pub narrow : IsTooWide s left right k → ⊥
  narrow h = not_live h.clause h.declared h.live

-- two actions of which no triple is too wide are apart where they conflict on no clause
pub apart_by : (s : Specification) (left right : Action) (free : Bool) → IsNarrow s (IsOfPair s left right) →
    MatchBool free ((k : ℕ) → Conflict s left right k → ⊥) (((k : ℕ) → Conflict s left right k → ⊥) → ⊥) →
    MatchBool free (IsApart s left right) (IsApart s left right → ⊥)
apart_by s left right true narrow h = record { narrow = narrow; apart = h }
apart_by s left right false narrow h = λ a. h a.apart
