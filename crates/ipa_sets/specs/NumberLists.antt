-- What numbers in order are seen as.
--
--   NumberList   the numbers, and whether there is room for one more
use Rattle.std.specs.Prelude.{ℕ, Bool, List}

-- the numbers, and whether there is room for one more
pub record NumberList : Type 0 where
  pub items : List ℕ
  pub ready : Bool
