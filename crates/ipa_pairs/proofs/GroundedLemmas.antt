-- Groundings that are found, and one more.
--
--   found-at     the grounding that is found is over the universe
--   pushed-of    one more of the specification
--   pushed-at    it stands behind the others
--   grounded-models   the models of the grounding in a place
use Rattle.std.proofs.Common.{◌≡◌, ℕ, ◌+◌, List, [], ◌∷◌, ◌++◌, length, Some, refl, sym, ap, ◌∙◌, subst, arith, slice_get}
use Rattle.std.proofs.lemmas.List.Elements.{All-push}
use Rattle.std.proofs.lemmas.Option.{same_Some, slice_get_within, get_or_from_slice_get}
use Rattle.ipa_spec.specs.declared.specification.Specification.{Specification}
use Rattle.ipa_logic.specs.declared.facts.Universe.{Universe}
use Rattle.ipa_ground.specs.ListLaws.{get-right}
use Rattle.ipa_pairs.specs.Grounded.{AreOf, IsAt, grounding}
use Rattle.ipa_pairs.specs.declared.groundings.Grounding.{Grounding}

-- the grounding that is found is over the universe
pub found-at : (s : Specification) (groundings : List Grounding) (place : ℕ) (universe : Universe) → AreOf s groundings → IsAt groundings place universe → slice_get groundings place ≡ Some (grounding s universe)
found-at s groundings place universe of at =
    let within = slice_get_within groundings place at.found at.there in
    let same : at.found ≡ grounding s at.found.universe
    = subst (λ (g : Grounding). g ≡ grounding s g.universe) (get_or_from_slice_get groundings place at.found at.found at.there) (of.each place at.found within) in
    at.there ∙ ap (λ (g : Grounding). Some g) (same ∙ ap (grounding s) at.over)

-- one more of the specification
pub pushed-of : (s : Specification) (groundings : List Grounding) (universe : Universe) → AreOf s groundings → AreOf s (groundings ++ grounding s universe ∷ [])
pushed-of s groundings universe of = record { each = All-push (λ (g : Grounding). g ≡ grounding s g.universe) groundings (grounding s universe) of.each refl }

-- it stands behind the others
pub pushed-at : (groundings : List Grounding) (g : Grounding) → slice_get (groundings ++ g ∷ []) (length groundings) ≡ Some g
pushed-at groundings g = ap (slice_get (groundings ++ g ∷ [])) (let same : length groundings ≡ length groundings + 0 = omega arith in same) ∙ get-right groundings (g ∷ []) 0

-- the models of the grounding that stands in the place
pub grounded-models : (s : Specification) (universe : Universe) (groundings : List Grounding) (place : ℕ) (g : Grounding) → slice_get groundings place ≡ Some g → slice_get groundings place ≡ Some (grounding s universe)
    → g.models ≡ record { spec = s; universe = universe.sizes }
grounded-models s universe groundings place g here there = ap (λ (x : Grounding). x.models) (same_Some g (grounding s universe) (sym here ∙ there))
