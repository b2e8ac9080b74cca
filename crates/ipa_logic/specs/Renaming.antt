-- Restricting a state to some of its elements, which are given the first numbers.
--
-- A smaller universe is embedded into a larger one by a map from its elements to those of the larger, apart for each
-- sort. A state of the larger universe then gives one of the smaller: a fact is true there where the fact with the
-- larger universe's elements is. Clauses are universal and name no element but constants, so what was kept is kept.
--
--   Embeds s small large e        e takes the elements of each sort of the small universe to elements of the large one, apart,
--                                 and each constant to itself
--   embed_values e sorts values   values over the small universe as values over the large one
--   embed_fact e s f             a fact over the small universe as one over the large one
--   IsRestriction                 one test of facts tells over the small universe what another tells over the large one
use Rattle.std.specs.Prelude.{◌≡◌, ℕ, ◌<◌, Bool, nat_lt, List, [], ◌∷◌, slice_get, slice_index, Some, if◌then◌else◌}
use Rattle.std.specs.Option.{option_map_or}
use Rattle.ipa_spec.specs.Constants.{sort_of_constant, element_of_constant}
use Rattle.ipa_spec.specs.declared.specification.Specification.{Specification}
use Rattle.ipa_spec.specs.declared.predicates.Predicate.{Predicate}
use Rattle.ipa_logic.specs.Facts.{Universe, size_of, IsUniverse, IsFact}
use Rattle.ipa_logic.specs.Truth.{value_at}
use Rattle.ipa_logic.specs.declared.facts.Fact.{Fact}

-- e takes the elements of each sort of the small universe to elements of that sort of the large one, apart,
-- and each constant to itself
pub record Embeds (s : Specification) (small large : Universe) (e : ℕ → ℕ → ℕ) : Type 0 where
  pub sizes : IsUniverse s small
  pub inside : (sort x : ℕ) → x < size_of small sort → e sort x < size_of large sort
  pub apart : (sort x y : ℕ) → x < size_of small sort → y < size_of small sort → e sort x ≡ e sort y → x ≡ y
  pub constants : (k sort : ℕ) → sort_of_constant s k ≡ Some sort → e sort (element_of_constant s k) ≡ element_of_constant s k

-- the value of a variable over the large universe, 0 where there is no such variable
abbrev pub embed_value : (ℕ → ℕ → ℕ) → List ℕ → List ℕ → ℕ → ℕ
embed_value e sorts values v = option_map_or (λ sort. e sort (value_at values v)) (slice_get sorts v) 0

-- values over the large universe
abbrev pub embed_values : (ℕ → ℕ → ℕ) → List ℕ → List ℕ → List ℕ
embed_values e sorts values = embed_value e sorts values 0 ∷ embed_value e sorts values 1 ∷ embed_value e sorts values 2 ∷ embed_value e sorts values 3 ∷ []

-- the element in a place of a fact over the large universe
abbrev pub embed_place : (ℕ → ℕ → ℕ) → Predicate → Fact → ℕ → ℕ
embed_place e p f k = if nat_lt k p.arity then e (slice_index p.sorts k) (slice_index f.args k) else 0

-- a fact over the large universe
abbrev pub embed_fact : (ℕ → ℕ → ℕ) → Specification → Fact → Fact
embed_fact e s f = option_map_or (λ p. record { predicate = f.predicate; args = embed_place e p f 0 ∷ embed_place e p f 1 ∷ embed_place e p f 2 ∷ [] }) (slice_get s.predicates f.predicate) f

-- t tells of each fact over the small universe what u tells of it over the large one
pub record IsRestriction (s : Specification) (small : Universe) (e : ℕ → ℕ → ℕ) (t u : Fact → Bool) : Type 0 where
  pub tells : (f : Fact) → IsFact s small f → t f ≡ u (embed_fact e s f)
