-- Patterns as values of the program.
--
--   classes_of pattern            the classes of the pattern's variables
--   IsPatternOf constants sorts pattern   it is the pattern of its classes
use Rattle.std.specs.Prelude.{◌≡◌, ℕ, List, take}
use Rattle.ipa_logic.specs.Facts.{Universe}
use Rattle.ipa_ground.specs.Patterns.{IsPattern}
use Rattle.ipa_ground.specs.PatternValues.{pattern_of}
use Rattle.ipa_ground.specs.declared.patterns.Pattern.{Pattern}

-- the classes of the pattern's variables
abbrev pub classes_of : Pattern → List ℕ
classes_of p = take p.len p.classes

-- it is the pattern of its classes
pub record IsPatternOf (constants : Universe) (sorts : List ℕ) (p : Pattern) : Type 0 where
  pub is_pattern : IsPattern constants sorts (classes_of p)
  pub is : p ≡ pattern_of constants sorts (classes_of p)
