-- Triples that are gone through together, and the first of them that is too wide.
--
--   triple left right k          the triple of these parts
--   IsOfLeft s left t            the triple has this action on the left
--   IsWideAt s left right k count   the triple is too wide, with this number of patterns
--   IsFirstWide s InQuestion w   what is found is the first of the triples in question that is too wide
use Rattle.std.specs.Prelude.{◌≡◌, ℕ, ◌<◌, length}
use Rattle.ipa_spec.specs.Actions.{IsAction}
use Rattle.ipa_spec.specs.declared.specification.Specification.{Specification}
use Rattle.ipa_spec.specs.declared.operations.Action.{Action}
use Rattle.ipa_pairs.specs.Width.{Triple, IsTooWide, pattern_count, IsFirstTooWide}
use Rattle.ipa_pairs.specs.declared.width.Wide.{Wide}

-- the triple of these parts
abbrev pub triple : Action → Action → ℕ → Triple
triple left right k = record { left = left; right = right; clause = k }

-- the triple has this action on the left
pub record IsOfLeft (s : Specification) (left : Action) (t : Triple) : Type 0 where
  pub left_is : t.left ≡ left
  pub right_declared : IsAction s t.right
  pub clause_declared : t.clause < length s.clauses

-- the triple is too wide, with this number of patterns
pub record IsWideAt (s : Specification) (left right : Action) (k count : ℕ) : Type 0 where
  pub too_wide : IsTooWide s left right k
  pub counted : count ≡ pattern_count s left right too_wide.clause

-- what is found is the first of the triples in question that is too wide
abbrev pub IsFirstWide : Specification → (Triple → Type 0) → Wide → Type 0
IsFirstWide s InQuestion w = IsFirstTooWide s InQuestion (triple w.left w.right w.clause) w.count
