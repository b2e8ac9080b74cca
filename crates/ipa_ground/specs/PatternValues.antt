-- Patterns as values of the program.
--
--   pattern_of constants sorts classes   the pattern of these classes
--   is_before p q                        the one list of classes comes before the other
--   left constants sorts classes         the patterns from this one on
--   later constants sorts classes        those behind it
use Rattle.std.specs.Prelude.{ℕ, Bool, not, List, length, filter}
use Rattle.std.specs.Ordering.{nat_cmp, is_lt}
use Rattle.std.specs.Cmp.Lexicographic.{slice_cmp}
use Rattle.ipa_logic.specs.Facts.{Universe}
use Rattle.ipa_ground.specs.Patterns.{padded, patterns, pattern_universe}
use Rattle.ipa_ground.specs.declared.patterns.Pattern.{Pattern}

-- the pattern of these classes, in twelve places
abbrev pub pattern_of : Universe → List ℕ → List ℕ → Pattern
pattern_of constants sorts classes = record {
  classes = padded classes;
  len = length sorts;
  universe = record { sizes = pattern_universe constants sorts classes };
}

-- the one list of classes comes before the other
abbrev pub is_before : List ℕ → List ℕ → Bool
is_before p q = is_lt (slice_cmp nat_cmp p q)

-- the patterns from this one on
abbrev pub left : Universe → List ℕ → List ℕ → List (List ℕ)
left constants sorts classes = filter (λ q. not (is_before q classes)) (patterns constants sorts)

-- the patterns behind this one
abbrev pub later : Universe → List ℕ → List ℕ → List (List ℕ)
later constants sorts classes = filter (λ q. is_before classes q) (patterns constants sorts)
