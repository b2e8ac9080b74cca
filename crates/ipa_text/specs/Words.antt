-- What a run of letters, digits and underscores may be.
--
--   is_word run          a letter, and at most 23 more letters, digits or underscores
--   is_number digits     decimal digits with no needless leading zero, of a value below 2 ^ 32
--   number_of digits     what the digits mean, where they are a number
--   followed_by n d      the number whose digits are those of n and then d, where d is a digit and it is below 2 ^ 32
use Rattle.std.specs.Prelude.{ℕ, ◌+◌, ◌*◌, Bool, true, false, not, ◌&&◌, ◌==◌, nat_le, List, [], ◌∷◌, length, Option, None, Some, if◌then◌else◌}
use Rattle.std.specs.List.{list_all}
use Rattle.std.specs.Char.{is_ascii_alphabetic, is_ascii_digit, digit_value}
use Rattle.std.specs.Str.Parse.{digits_value}
use Rattle.ipa_text.specs.Bytes.{is_name_byte}

-- the first byte is a letter
abbrev pub starts_with_letter : List ℕ → Bool
starts_with_letter [] = false
starts_with_letter (b ∷ bs) = is_ascii_alphabetic b

abbrev pub is_word : List ℕ → Bool
is_word run = starts_with_letter run && nat_le (length run) 24 && list_all is_name_byte run

-- there is a digit, and one more only behind a digit that isn't `0`
abbrev pub has_no_needless_zero : List ℕ → Bool
has_no_needless_zero [] = false
has_no_needless_zero (d ∷ []) = true
has_no_needless_zero (d ∷ e ∷ ds) = not (d == 48)

abbrev pub is_number : List ℕ → Bool
is_number digits = has_no_needless_zero digits && list_all is_ascii_digit digits && nat_le (digits_value 10 digits) 4294967295

abbrev pub number_of : List ℕ → Option ℕ
number_of digits = if is_number digits then Some (digits_value 10 digits) else None

abbrev pub followed_by : ℕ → ℕ → Option ℕ
followed_by n d = if is_ascii_digit d && nat_le (n * 10 + digit_value d) 4294967295 then Some (n * 10 + digit_value d) else None
