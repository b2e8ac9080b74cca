-- The list of patterns has exactly the patterns, each once and in lexicographic order.
--
--   Listed-patterns, listed_pattern   a pattern is listed, and what is listed is one
--   Rises-patterns                    patterns stand in lexicographic order, each once
--   length-pattern_from               a pattern has a class for each variable
use Rattle.std.proofs.Common.{◌≡◌, ℕ, zero, suc, ◌+◌, List, [], ◌∷◌, length, Some, refl, ap, subst, arith, slice_get}
use Rattle.std.specs.List.Sorted.{IsStrictlySortedBy}
use Rattle.std.specs.Ordering.{nat_cmp}
use Rattle.std.specs.Cmp.Lexicographic.{slice_cmp}
use Rattle.std.proofs.lemmas.Option.{same_Some}
use Rattle.ipa_logic.specs.Facts.{Universe, size_of}
use Rattle.ipa_ground.specs.Enumeration.{IsListed}
use Rattle.ipa_ground.specs.ListLaws.{Rises-one}
use Rattle.ipa_ground.specs.BranchLaws.{Listed-branches, listed_branch, Rises-branches}
use Rattle.ipa_ground.specs.Patterns.{opened, IsPatternFrom, IsPattern, patterns_from, patterns}

-- a pattern from here on is listed
pub Listed-patterns_from : (used : Universe) (sorts classes : List ℕ) → IsPatternFrom used sorts classes → IsListed (patterns_from used sorts) classes
Listed-patterns_from used [] [] p = record { place = 0; there = refl }
Listed-patterns_from used [] (class ∷ classes) p = absurd p
Listed-patterns_from used (sort ∷ sorts) [] p = absurd p
Listed-patterns_from used (sort ∷ sorts) (class ∷ classes) p =
    Listed-branches (λ x. patterns_from (opened used sort x) sorts) (size_of used sort + 1) class classes (omega (arith, p.0)) (Listed-patterns_from (opened used sort class) sorts classes p.1)

-- what is listed is a pattern from here on
pub listed_pattern_from : (used : Universe) (sorts classes : List ℕ) → IsListed (patterns_from used sorts) classes → IsPatternFrom used sorts classes
listed_pattern_from used [] classes h = alone h.place h.there
  where
    alone : (k : ℕ) → slice_get ([] ∷ []) k ≡ Some classes → IsPatternFrom used [] classes
    alone zero e = subst (IsPatternFrom used []) (same_Some [] classes e) tt
    alone (suc k) e = cc
listed_pattern_from used (sort ∷ sorts) classes h =
    let b = listed_branch (λ x. patterns_from (opened used sort x) sorts) (size_of used sort + 1) classes h in
    subst (IsPatternFrom used (sort ∷ sorts)) b.is (omega (arith, b.below), listed_pattern_from (opened used sort b.first) sorts b.rest b.listed)

-- they stand in lexicographic order, each once
pub Rises-patterns_from : (used : Universe) (sorts : List ℕ) → IsStrictlySortedBy (slice_cmp nat_cmp) (patterns_from used sorts)
Rises-patterns_from used [] = Rises-one (slice_cmp nat_cmp) []
Rises-patterns_from used (sort ∷ sorts) = Rises-branches (λ x. patterns_from (opened used sort x) sorts) (size_of used sort + 1) (λ x l. Rises-patterns_from (opened used sort x) sorts)

-- the same of the patterns of variables
pub Listed-patterns : (constants : Universe) (sorts classes : List ℕ) → IsPattern constants sorts classes →
    IsListed (patterns constants sorts) classes
Listed-patterns constants sorts classes p = Listed-patterns_from constants sorts classes p

pub listed_pattern : (constants : Universe) (sorts classes : List ℕ) → IsListed (patterns constants sorts) classes →
    IsPattern constants sorts classes
listed_pattern constants sorts classes h = listed_pattern_from constants sorts classes h

pub Rises-patterns : (constants : Universe) (sorts : List ℕ) →
    IsStrictlySortedBy (slice_cmp nat_cmp) (patterns constants sorts)
Rises-patterns constants sorts = Rises-patterns_from constants sorts

-- a pattern has a class for each variable
pub length-pattern_from : (used : Universe) (sorts classes : List ℕ) → IsPatternFrom used sorts classes →
    length classes ≡ length sorts
length-pattern_from used [] [] p = refl
length-pattern_from used [] (class ∷ classes) p = absurd p
length-pattern_from used (sort ∷ sorts) [] p = absurd p
length-pattern_from used (sort ∷ sorts) (class ∷ classes) p =
    ap suc (length-pattern_from (opened used sort class) sorts classes p.1)
