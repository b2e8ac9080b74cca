-- The places of a key.
--
--   places_of counted key   the elements of the key that are wanted, in all places but the counted one
--   is_key b key            these elements are the key of some fact: 0 stands in the counted place
use Rattle.std.specs.Prelude.{ℕ, Bool, List, map, slice_set, Option, Some, None}
use Rattle.std.specs.Ordering.{nat_cmp, is_eq}
use Rattle.std.specs.Cmp.Lexicographic.{slice_cmp}
use Rattle.ipa_spec.specs.declared.bounds.Bound.{Bound}

-- the elements of the key that are wanted, in all places but the counted one
abbrev pub places_of : ℕ → List ℕ → List (Option ℕ)
places_of counted key = slice_set (map Some key) counted None

-- these elements are the key of some fact: 0 stands in the counted place
abbrev pub is_key : Bound → List ℕ → Bool
is_key b key = is_eq (slice_cmp nat_cmp (slice_set key b.counted 0) key)
