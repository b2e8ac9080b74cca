-- All facts over a universe, in order.
--
--   numbers n             the numbers below n: 0, 1, ..
--   branches n of         all lists that begin with a number x below n and go on with a list of `of x`, in order
--   tuples sizes          all lists with an element below each size, in lexicographic order
--   IsTuple sizes xs      xs has an element below each size
--   three elements        elements in the places of a fact
--   size_in universe p place     how many elements a place of a predicate takes
--   place_sizes p universe       the same of all its places
--   facts_of number p universe   the facts of a predicate
--   facts_over ps universe       the facts of all predicates, in the order of facts
--   AreShort ps           each predicate has at most three places
--   IsListed xs x         x stands in the list
use Rattle.std.specs.Prelude.{ℕ, zero, suc, ◌+◌, ◌<◌, ◌≤◌, ◌≡◌, List, [], ◌∷◌, ◌++◌, map, slice_get, slice_index, Some}
use Rattle.std.specs.List.{flat_map, AllZip}
use Rattle.ipa_spec.specs.declared.predicates.Predicate.{Predicate}
use Rattle.ipa_logic.specs.Facts.{Universe, size_of}
use Rattle.ipa_logic.specs.declared.facts.Fact.{Fact}

-- the numbers below n, in order
unfoldable pub numbers : ℕ → List ℕ
numbers zero = []
numbers (suc n) = numbers n ++ n ∷ []

-- all lists that begin with a number x below n and go on with a list of `of x`, by x and then in the order of `of x`
abbrev pub branches : ℕ → (ℕ → List (List ℕ)) → List (List ℕ)
branches n of = flat_map (λ x. map (λ rest. x ∷ rest) (of x)) (numbers n)

-- all lists with an element below each size, in lexicographic order
abbrev pub tuples : List ℕ → List (List ℕ)
tuples [] = [] ∷ []
tuples (size ∷ sizes) = branches size (λ _. tuples sizes)

-- an element below each size
abbrev pub IsTuple : List ℕ → List ℕ → Type 0
IsTuple sizes xs = AllZip (λ size x. x < size) sizes xs

-- elements in the three places of a fact, with 0 past them
abbrev pub three : List ℕ → List ℕ
three [] = 0 ∷ 0 ∷ 0 ∷ []
three (a ∷ []) = a ∷ 0 ∷ 0 ∷ []
three (a ∷ b ∷ []) = a ∷ b ∷ 0 ∷ []
three (a ∷ b ∷ c ∷ _) = a ∷ b ∷ c ∷ []

-- how many elements a place of a predicate takes
abbrev pub size_in : Universe → Predicate → ℕ → ℕ
size_in universe p place = size_of universe (slice_index p.sorts place)

-- how many elements each of its places takes
abbrev pub place_sizes : Predicate → Universe → List ℕ
place_sizes p universe = map (size_in universe p) (numbers p.arity)

-- the facts of the predicate of this number, in order
abbrev pub facts_of : ℕ → Predicate → Universe → List Fact
facts_of number p universe = map (λ elements. record { predicate = number; args = three elements }) (tuples (place_sizes p universe))

-- the facts of these predicates, numbered from here on, in order
abbrev pub facts_from : ℕ → List Predicate → Universe → List Fact
facts_from number [] universe = []
facts_from number (p ∷ ps) universe = facts_of number p universe ++ facts_from (number + 1) ps universe

-- all facts over the universe, in order
abbrev pub facts_over : List Predicate → Universe → List Fact
facts_over ps universe = facts_from 0 ps universe

-- each predicate has at most three places
pub record AreShort (ps : List Predicate) : Type 0 where
  pub short : (n : ℕ) (p : Predicate) → slice_get ps n ≡ Some p → p.arity ≤ 3

-- x stands in the list
pub record IsListed {X : Type 0} (xs : List X) (x : X) : Type 0 where
  pub place : ℕ
  pub there : slice_get xs place ≡ Some x
