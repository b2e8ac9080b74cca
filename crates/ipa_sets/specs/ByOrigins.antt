-- Numbers in order for each origin.
--
--   numbers_at lists o       the numbers of the origin, none past the last origin
--   is_ready_at lists o      there is room for one more of the origin
--   each_origin g            what g gives for each of the 16 origins
use Rattle.std.specs.Prelude.{ℕ, zero, suc, Bool, false, List, [], ◌∷◌, slice_index_or}
use Rattle.ipa_sets.specs.NumberLists.{NumberList}
use Rattle.ipa_sets.specs.declared.by_origin.ByOrigin.{ByOrigin}

-- no numbers, and no room for any
abbrev pub no_numbers : NumberList
no_numbers = record { items = []; ready = false }

-- the numbers of the origin
abbrev pub numbers_at : ByOrigin → ℕ → List ℕ
numbers_at b origin = (slice_index_or b.lists origin no_numbers).items

-- there is room for one more of the origin
abbrev pub is_ready_at : ByOrigin → ℕ → Bool
is_ready_at b origin = (slice_index_or b.lists origin no_numbers).ready

-- what g gives for the next n numbers
unfoldable pub each_from : {X : Type 0} → ℕ → ℕ → (ℕ → X) → List X
each_from zero first g = []
each_from (suc n) first g = g first ∷ each_from n (suc first) g

-- what g gives for each of the 16 origins
unfoldable pub each_origin : {X : Type 0} → (ℕ → X) → List X
each_origin g = each_from 16 0 g
