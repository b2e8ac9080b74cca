-- The universes that are grounded.
--
--   grounding s universe     the states over the universe that keep all clauses of the specification
--   AreOf s groundings       each is of the specification, over its universe
--   IsAt groundings place universe   the one in this place is over the universe
use Rattle.std.specs.Prelude.{◌≡◌, ℕ, List, slice_get, Some}
use Rattle.std.specs.List.{All}
use Rattle.ipa_spec.specs.declared.specification.Specification.{Specification}
use Rattle.ipa_logic.specs.declared.facts.Universe.{Universe}
use Rattle.ipa_pairs.specs.declared.groundings.Grounding.{Grounding}

-- the states over the universe that keep all clauses of the specification
abbrev pub grounding : Specification → Universe → Grounding
grounding s universe = record { universe = universe; models = record { spec = s; universe = universe.sizes } }

-- each grounding is of the specification, over its universe
pub record AreOf (s : Specification) (groundings : List Grounding) : Type 0 where
  pub each : All (λ g. g ≡ grounding s g.universe) groundings

-- the grounding in this place is over the universe
pub record IsAt (groundings : List Grounding) (place : ℕ) (universe : Universe) : Type 0 where
  pub found : Grounding
  pub there : slice_get groundings place ≡ Some found
  pub over : found.universe ≡ universe
