-- Patterns: the ways of making variables of one sort equal to each other and to constants of the sort.
--
-- A pattern gives each variable a class of its sort, in the order of the variables: a class that is in use, or the
-- next new one. The classes of one sort are numbered from 0. First come those of the sort's constants, which are in use
-- from the start, so the universe of a pattern has just the constants and the variables' classes as elements.
--
--   AreConstants constants          numbers of constants, by sort: of eight sorts, and of none more than four
--   opened used sort class          the classes in use after a variable of the sort took the class
--   IsPatternFrom used sorts classes   each class is in use, or the next new one of its sort
--   used_after used sorts classes   the classes in use after all variables took theirs
--   IsPattern constants sorts classes   a pattern: the classes of the constants are in use at the start
--   pattern_universe constants sorts classes   the numbers of its classes, by sort
--   patterns constants sorts        all patterns, in lexicographic order
--   padded classes                  the classes in twelve places, 0 past them
--   four xs                         some numbers as four arguments or values, 0 past them
--   args_at from count classes      the classes of some variables, as arguments or values
--   AreSorts sorts                  each is the number of one of the eight sorts
--   SameEqualities constants sorts xs ys   two lists of numbers for the variables have the same equalities, with each
--                                   other and with the constants' numbers
--   IsTaken sorts classes sort class   some variable of the sort has the class
--   Renames constants sorts classes elements   a pattern's classes stand for elements, each class for another, and a
--                                   constant's class for itself
--   PatternFor constants sorts elements   a pattern whose classes stand for the elements
use Rattle.std.specs.Prelude.{◌≡◌, ℕ, ◌+◌, ◌-◌, ◌<◌, ◌≤◌, ◌↔◌, Some, slice_get, ◌==◌, List, [], ◌∷◌, ◌++◌, length, take, drop, replicate, slice_index, slice_set, if◌then◌else◌}
use Rattle.ipa_logic.specs.Facts.{Universe, size_of}
use Rattle.ipa_ground.specs.Enumeration.{branches}

-- numbers of constants, by sort: of each of the eight sorts, and of none more than four
pub record AreConstants (constants : Universe) : Type 0 where
  pub width : length constants ≡ 8
  pub most : (sort : ℕ) → size_of constants sort ≤ 4

-- the classes in use after a variable of the sort took the class
abbrev pub opened : Universe → ℕ → ℕ → Universe
opened used sort class = if class == size_of used sort then slice_set used sort (size_of used sort + 1) else used

-- each variable takes a class of its sort that is in use, or the next new one
abbrev pub IsPatternFrom : Universe → List ℕ → List ℕ → Type 0
IsPatternFrom used [] [] = Unit {0}
IsPatternFrom used [] (_ ∷ _) = ⊥
IsPatternFrom used (_ ∷ _) [] = ⊥
IsPatternFrom used (sort ∷ sorts) (class ∷ classes) = (class ≤ size_of used sort) × IsPatternFrom (opened used sort class) sorts classes

-- the classes in use after all variables took theirs
abbrev pub used_after : Universe → List ℕ → List ℕ → Universe
used_after used [] classes = used
used_after used (sort ∷ sorts) [] = used
used_after used (sort ∷ sorts) (class ∷ classes) = used_after (opened used sort class) sorts classes

-- a pattern of variables of these sorts, where the sorts have so many constants
abbrev pub IsPattern : Universe → List ℕ → List ℕ → Type 0
IsPattern constants sorts classes = IsPatternFrom constants sorts classes

-- the universe of a pattern: the constants, and the variables' classes
abbrev pub pattern_universe : Universe → List ℕ → List ℕ → Universe
pattern_universe constants sorts classes = used_after constants sorts classes

-- some numbers as four arguments or values, with 0 past them
abbrev pub four : List ℕ → List ℕ
four xs = slice_index xs 0 ∷ slice_index xs 1 ∷ slice_index xs 2 ∷ slice_index xs 3 ∷ []

-- the classes of the variables from a place on
abbrev pub args_at : ℕ → ℕ → List ℕ → List ℕ
args_at from count classes = four (take count (drop from classes))

-- all patterns from here on, in lexicographic order
abbrev pub patterns_from : Universe → List ℕ → List (List ℕ)
patterns_from used [] = [] ∷ []
patterns_from used (sort ∷ sorts) = branches (size_of used sort + 1) (λ class. patterns_from (opened used sort class) sorts)

-- all patterns of variables of these sorts, in lexicographic order
abbrev pub patterns : Universe → List ℕ → List (List ℕ)
patterns constants sorts = patterns_from constants sorts

-- the classes in twelve places, 0 past them
abbrev pub padded : List ℕ → List ℕ
padded classes = classes ++ replicate (12 - length classes) 0

-- each is the number of one of the eight sorts
pub record AreSorts (sorts : List ℕ) : Type 0 where
  pub below : (i sort : ℕ) → slice_get sorts i ≡ Some sort → sort < 8

-- variables of one sort have the same number in the one list exactly where they have it in the other, and the number of
-- a constant of the sort likewise
pub record SameEqualities (constants : Universe) (sorts xs ys : List ℕ) : Type 0 where
  pub same : (i j sort : ℕ) → slice_get sorts i ≡ Some sort → slice_get sorts j ≡ Some sort →
      (slice_index xs i ≡ slice_index xs j) ↔ (slice_index ys i ≡ slice_index ys j)
  pub fixed : (i sort constant : ℕ) → slice_get sorts i ≡ Some sort → constant < size_of constants sort →
      (slice_index xs i ≡ constant) ↔ (slice_index ys i ≡ constant)

-- some variable of the sort has the class
pub record IsTaken (sorts classes : List ℕ) (sort class : ℕ) : Type 0 where
  pub place : ℕ
  pub of_sort : slice_get sorts place ≡ Some sort
  pub is : slice_index classes place ≡ class

-- a pattern's classes stand for elements: the class of a constant for the constant itself, each variable's class for its
-- element; each other class is that of some variable, and the classes of a sort stand for different elements
pub record Renames (constants : Universe) (sorts classes elements : List ℕ) : Type 0 where
  pub to : ℕ → ℕ → ℕ
  pub fixed : (sort class : ℕ) → class < size_of constants sort → to sort class ≡ class
  pub places : (i sort : ℕ) → slice_get sorts i ≡ Some sort → to sort (slice_index classes i) ≡ slice_index elements i
  pub apart : (sort c d : ℕ) → c < size_of (pattern_universe constants sorts classes) sort →
      d < size_of (pattern_universe constants sorts classes) sort → to sort c ≡ to sort d → c ≡ d
  pub taken : (sort class : ℕ) → size_of constants sort ≤ class →
      class < size_of (pattern_universe constants sorts classes) sort → IsTaken sorts classes sort class

-- a pattern with the equalities of the elements, and what its classes stand for
pub record PatternFor (constants : Universe) (sorts elements : List ℕ) : Type 0 where
  pub classes : List ℕ
  pub is_pattern : IsPattern constants sorts classes
  pub renames : Renames constants sorts classes elements
