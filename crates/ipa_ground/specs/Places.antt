-- The place of a fact among all facts.
--
--   tuple_count sizes      how many tuples there are
--   tuple_place sizes xs   the place of a tuple among them
--   AreSmall sizes         each sort has at most sixteen elements
--   AreStarts starts ps universe   where the facts of each predicate start, and where all end
use Rattle.std.specs.Prelude.{◌≡◌, ℕ, ◌+◌, ◌*◌, ◌≤◌, List, [], ◌∷◌, length, take, slice_index}
use Rattle.std.specs.List.{All}
use Rattle.ipa_spec.specs.declared.predicates.Predicate.{Predicate}
use Rattle.ipa_logic.specs.Facts.{Universe}
use Rattle.ipa_ground.specs.Enumeration.{facts_from}

-- how many tuples there are
abbrev pub tuple_count : List ℕ → ℕ
tuple_count [] = 1
tuple_count (size ∷ sizes) = size * tuple_count sizes

-- the place of a tuple among them, in lexicographic order
abbrev pub tuple_place : List ℕ → List ℕ → ℕ
tuple_place [] xs = 0
tuple_place (size ∷ sizes) [] = 0
tuple_place (size ∷ sizes) (x ∷ xs) = x * tuple_count sizes + tuple_place sizes xs

-- each sort has at most sixteen elements
abbrev pub AreSmall : Universe → Type 0
AreSmall universe = All (λ size. size ≤ 16) universe

-- the number of the first fact of each predicate, and after them the number of all facts
pub record AreStarts (starts : List ℕ) (ps : List Predicate) (universe : Universe) : Type 0 where
  pub numbers : (k : ℕ) → k ≤ length ps → slice_index starts k ≡ length (facts_from 0 (take k ps) universe)
  pub bound : (k : ℕ) → k ≤ length ps → slice_index starts k ≤ k * 4096
