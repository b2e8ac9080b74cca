-- Facts that match places.
--
--   place_fits wanted element          a place fits any element, or the one that is wanted
--   fit places elements                there are as many elements as places, and each fits its place
--   is_match predicate places f        the fact is of the predicate, and its elements fit the places
--   NoneFitsBetween places from to     elements that fit and come after `from` come after `to` too
use Rattle.std.specs.Prelude.{◌≡◌, ℕ, Bool, true, false, ◌&&◌, ◌==◌, List, [], ◌∷◌, Option, Some, None}
use Rattle.std.specs.Ordering.{nat_cmp, is_lt}
use Rattle.std.specs.Cmp.Lexicographic.{slice_cmp}
use Rattle.ipa_logic.specs.declared.facts.Fact.{Fact}

-- a place fits any element, or the one that is wanted
abbrev pub place_fits : Option ℕ → ℕ → Bool
place_fits (Some one) element = one == element
place_fits None element = true

-- there are as many elements as places, and each fits its place
abbrev pub fit : List (Option ℕ) → List ℕ → Bool
fit [] [] = true
fit [] (element ∷ elements) = false
fit (wanted ∷ places) [] = false
fit (wanted ∷ places) (element ∷ elements) = place_fits wanted element && fit places elements

-- the fact is of the predicate, and its elements fit the places
abbrev pub is_match : ℕ → List (Option ℕ) → Fact → Bool
is_match predicate places f = (f.predicate == predicate) && fit places f.args

-- elements that fit the places and come after the first list come after the second too
pub record NoneFitsBetween (places : List (Option ℕ)) (from to : List ℕ) : Type 0 where
  pub none : (x : List ℕ) → fit places x ≡ true → is_lt (slice_cmp nat_cmp from x) ≡ true →
      is_lt (slice_cmp nat_cmp to x) ≡ true
