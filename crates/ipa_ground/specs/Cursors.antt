-- Where the enumeration of patterns stands.
--
--   sorts_in c, classes_in c   the sorts and the classes of the variables
--   IsCursor c                 its arrays are wide enough, and 0 stands past the variables
--   IsAt constants sorts classes limits used n   limits and used tell the classes in use before each of the first n
--                              variables, and behind them
--   IsBehind old new           the new cursor stands at the next pattern
--   IsOfVariables old new      it has the old one's constants and variables
--   IsSameButUsed old new      only the classes in use have changed
--   IsAnewFrom old new from    from a place on the classes have become 0
--   to_come c done             the patterns that are still to come
--   IsStanding c done          the cursor stands at a pattern, unless all have been given
use Rattle.std.specs.Prelude.{◌≡◌, ℕ, ◌<◌, ◌≤◌, Bool, true, false, List, [], length, map, take, slice_index}
use Rattle.ipa_logic.specs.Facts.{Universe, size_of}
use Rattle.ipa_ground.specs.Patterns.{AreConstants, used_after}
use Rattle.ipa_ground.specs.PatternValues.{left, later, pattern_of}
use Rattle.ipa_ground.specs.declared.patterns.Pattern.{Pattern}
use Rattle.ipa_ground.specs.declared.cursor.Cursor.{Cursor}

-- the sorts of the variables
abbrev pub sorts_in : Cursor → List ℕ
sorts_in c = take c.len c.sorts

-- the classes of the variables
abbrev pub classes_in : Cursor → List ℕ
classes_in c = take c.len c.classes

-- its arrays are wide enough, its constants few, and 0 stands past the variables
pub record IsCursor (c : Cursor) : Type 0 where
  pub constants : AreConstants c.constants
  pub few : c.len ≤ 12
  pub sorts_width : length c.sorts ≡ 12
  pub classes_width : length c.classes ≡ 12
  pub limits_width : length c.limits ≡ 12
  pub sort_below : (j : ℕ) → slice_index c.sorts j < 8
  pub class_unused : (j : ℕ) → c.len ≤ j → slice_index c.classes j ≡ 0

-- limits tells how many classes of each of the first n variables' sorts are in use before it, no class is above that,
-- and used tells those in use behind them
pub record IsAt (constants : Universe) (sorts classes limits : List ℕ) (used : Universe) (n : ℕ) : Type 0 where
  pub limit : (j : ℕ) → j < n →
      slice_index limits j ≡ size_of (used_after constants (take j sorts) (take j classes)) (slice_index sorts j)
  pub class : (j : ℕ) → j < n → slice_index classes j ≤ slice_index limits j
  pub used_is : used ≡ used_after constants (take n sorts) (take n classes)

-- the new cursor stands at the pattern behind the old one's
pub record IsBehind (old new : Cursor) : Type 0 where
  pub at : IsAt new.constants new.sorts new.classes new.limits new.universe.sizes new.len
  pub next : later old.constants (sorts_in old) (classes_in old) ≡ left old.constants (sorts_in old) (classes_in new)

-- the new cursor has the old one's constants and variables
pub record IsOfVariables (old new : Cursor) : Type 0 where
  pub constants : new.constants ≡ old.constants
  pub sorts : new.sorts ≡ old.sorts
  pub len : new.len ≡ old.len

-- only the classes in use have changed
pub record IsSameButUsed (old new : Cursor) : Type 0 where
  pub constants : new.constants ≡ old.constants
  pub sorts : new.sorts ≡ old.sorts
  pub len : new.len ≡ old.len
  pub classes : new.classes ≡ old.classes
  pub limits : new.limits ≡ old.limits

-- from a place on the classes have become 0, and those before it are as they were
pub record IsAnewFrom (old new : Cursor) (from : ℕ) : Type 0 where
  pub before : (j : ℕ) → j < from → slice_index new.classes j ≡ slice_index old.classes j
  pub anew : (j : ℕ) → from ≤ j → j < new.len → slice_index new.classes j ≡ 0

-- the patterns that are still to come
abbrev pub to_come : Cursor → Bool → List Pattern
to_come c true = []
to_come c false = map (pattern_of c.constants (sorts_in c)) (left c.constants (sorts_in c) (classes_in c))

-- the cursor stands at a pattern, unless all have been given
pub record IsStanding (c : Cursor) (done : Bool) : Type 0 where
  pub cursor : IsCursor c
  pub at : done ≡ false → IsAt c.constants c.sorts c.classes c.limits c.universe.sizes c.len
