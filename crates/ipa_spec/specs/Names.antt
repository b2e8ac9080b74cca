-- Names, as bytes.
--
--   is_name_byte b     a letter, a digit or an underscore
--   is_keyword bytes   `not`, `or` or `exists`, which are no names
--   is_name bytes      a letter and at most 23 more letters, digits or underscores, and no keyword

use Rattle.std.specs.Prelude.{ℕ, Bool, false, not, ◌&&◌, ◌||◌, ◌==◌, nat_le, List, [], ◌∷◌, length, codes}
use Rattle.std.specs.List.{list_all}
use Rattle.std.specs.Str.{bytes_eq}
use Rattle.std.specs.Char.{is_ascii_alphabetic, is_ascii_alphanumeric}

-- a letter, a digit or an underscore
abbrev pub is_name_byte : ℕ → Bool
is_name_byte b = is_ascii_alphanumeric b || (b == 95)

-- a word of the language that is no name
abbrev pub is_keyword : List ℕ → Bool
is_keyword bytes =
    (bytes_eq bytes (codes "not") || bytes_eq bytes (codes "or")) || bytes_eq bytes (codes "exists")

-- begins with a letter
abbrev pub begins_with_letter : List ℕ → Bool
begins_with_letter [] = false
begins_with_letter (b ∷ _) = is_ascii_alphabetic b

-- a name: a letter and at most 23 more letters, digits or underscores, and no keyword
unfoldable pub is_name : List ℕ → Bool
is_name bytes =
    ((begins_with_letter bytes && list_all is_name_byte bytes) && nat_le (length bytes) 24) && not
    (is_keyword bytes)
