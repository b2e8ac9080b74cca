-- Shapes of patterns, by which most keys of removes are known not to be there.
--
--   weight w x        the weight of a place with any element, and 0 of one that has an element
--   shape p           the number of a pattern's shape: its predicate, and the places that have an element
--   has_shape s p     the shape of the pattern is one of these
--   AreMet known s    the shape of each remove among the known keys is one of these
use Rattle.std.specs.Prelude.{◌≡◌, ℕ, ◌*◌, ◌+◌, Bool, true, false, Option, None, slice_index_or}
use Rattle.std.specs.Option.{option_map_or}
use Rattle.ipa_sets.specs.declared.keys.Key.{Key}
use Rattle.ipa_sets.specs.declared.patterns.Pattern.{Pattern}
use Rattle.ipa_sets.specs.declared.shapes.Shapes.{Shapes}

-- the weight of a place with any element, and 0 of one that has an element
abbrev pub weight : ℕ → Option ℕ → ℕ
weight w x = option_map_or (λ n. 0) x w

-- the number of a pattern's shape
abbrev pub shape : Pattern → ℕ
shape p = p.predicate * 8 + weight 4 (slice_index_or p.places 0 None) + weight 2 (slice_index_or p.places 1 None)
    + weight 1 (slice_index_or p.places 2 None)

-- the shape of the pattern is one of these
abbrev pub has_shape : Shapes → Pattern → Bool
has_shape s p = slice_index_or s.met (shape p) false

-- the shape of each remove among the known keys is one of these
abbrev pub AreMet : (Key → Bool) → Shapes → Type 0
AreMet known s = (k : Key) → known k ≡ true → k.adds ≡ false → has_shape s k.pattern ≡ true
