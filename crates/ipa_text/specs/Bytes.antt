-- Classes of bytes.
--
--   is_blank b        b is a space or a tab: what may stand between tokens
--   is_name_byte b    b is a letter, a digit or an underscore: what words and numbers are runs of
--   is_line_feed b    b is the byte that a line ends before
use Rattle.std.specs.Prelude.{ℕ, Bool, ◌||◌, ◌==◌}
use Rattle.std.specs.Char.{is_ascii_alphanumeric}

-- 32 is a space, 9 a tab
abbrev pub is_blank : ℕ → Bool
is_blank b = b == 32 || b == 9

-- 95 is an underscore
abbrev pub is_name_byte : ℕ → Bool
is_name_byte b = is_ascii_alphanumeric b || b == 95

abbrev pub is_line_feed : ℕ → Bool
is_line_feed b = b == 10
