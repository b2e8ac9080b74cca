-- The words that name a kind of weather.
--
--   word_of kind               the one word that names a kind of weather; its numbers are decimal, without a needless zero
--   IsKind kind                its numbers fit: 64 bits for the number of a lossy weather, 32 for the bounds of a split one
--   begins_as_number digits    the first byte is a digit, and is no `0` where another byte follows
use Rattle.std.specs.Prelude.{ℕ, ◌<◌, ◌^◌, ◌==◌, ◌&&◌, Bool, false, not, List, [], ◌∷◌, ◌++◌, codes}
use Rattle.std.specs.Char.{is_ascii_digit}
use Rattle.std.specs.Fmt.{decimal}
use Rattle.ipa_weather.specs.declared.kinds.Kind.{Kind}
use Rattle.ipa_weather.specs.declared.kinds.Kind.TheVariants.{Clear, Lossy, Split}

abbrev pub word_of : Kind → List ℕ
word_of Clear = codes "clear"
word_of (Lossy number) = codes "lossy:" ++ decimal number
word_of (Split from to) = codes "split:" ++ (decimal from ++ (codes ":" ++ decimal to))

abbrev pub IsKind : Kind → Type 0
IsKind Clear = Unit {0}
IsKind (Lossy number) = number < 2 ^ 64
IsKind (Split from to) = (from < 2 ^ 32) × (to < 2 ^ 32)

-- 48 is `0`
abbrev pub begins_as_number : List ℕ → Bool
begins_as_number [] = false
begins_as_number (d ∷ []) = is_ascii_digit d
begins_as_number (d ∷ e ∷ ds) = is_ascii_digit d && not (d == 48)
