-- The lines of a text.
--
--   pieces bytes                     the bytes between line feeds
--   first_solid text                 the first byte that is no blank
--   has_content text                 the line is neither blank nor a comment
--   line_at number start text        the line, if it has content
--   numbered number start pieces     the lines in these pieces, of which the first has this number and starts here
--   lines_from number start bytes    the lines in these bytes, of which the first has this number and starts here
--   lines_of bytes                   the lines of a whole text
--   last_line bytes                  the number of the last line, blank lines and comments included; 0 where there is none
--   StartsLine bytes at              a line starts at `at`: at the front, or behind a line feed
--   line_text bytes line             the bytes of the line
--   IsLine bytes line                the line is one of the text, by its number and span alone
use Rattle.std.specs.Prelude.{◌≡◌, ℕ, ◌+◌, ◌-◌, ◌<◌, ◌≤◌, ◌⊎◌, Bool, false, not, ◌==◌, ◌&&◌, nat_lt, List, [], ◌∷◌, ◌++◌, length, take, drop, Option, None, Some, slice_index, slice_range, IsTrue, if◌then◌else◌}
use Rattle.std.specs.List.{slice_split, find, count_by, before_first}
use Rattle.std.specs.Str.Lines.{strip_carriage_return}
use Rattle.ipa_text.specs.Bytes.{is_blank, is_line_feed}
use Rattle.ipa_text.specs.declared.numbering.Line.{Line}

abbrev pub pieces : List ℕ → List (List ℕ)
pieces bytes = slice_split is_line_feed bytes

abbrev pub first_solid : List ℕ → Option ℕ
first_solid text = find (λ b. not (is_blank b)) text

-- a blank line has nothing but blanks, and a comment has `#`, 35, behind them
abbrev pub is_content : Option ℕ → Bool
is_content None = false
is_content (Some b) = not (b == 35)

abbrev pub has_content : List ℕ → Bool
has_content text = is_content (first_solid text)

abbrev pub line_at : ℕ → ℕ → List ℕ → List Line
line_at number start text = if has_content text then record { number = number; start = start; end = start + length text } ∷ [] else []

-- the one carriage return at a piece's end is no part of the line
abbrev pub numbered : ℕ → ℕ → List (List ℕ) → List Line
numbered number start [] = []
numbered number start (piece ∷ later) = line_at number start (strip_carriage_return piece) ++ numbered (number + 1) (start + length piece + 1) later

abbrev pub lines_from : ℕ → ℕ → List ℕ → List Line
lines_from number start bytes = numbered number start (pieces bytes)

abbrev pub lines_of : List ℕ → List Line
lines_of bytes = lines_from 1 0 bytes

-- the last byte is no line feed, so that the bytes behind the last line feed are a line too
abbrev pub ends_open : List ℕ → Bool
ends_open bytes = nat_lt 0 (length bytes) && not (is_line_feed (slice_index bytes (length bytes - 1)))

abbrev pub last_line : List ℕ → ℕ
last_line bytes = count_by is_line_feed bytes + (if ends_open bytes then 1 else 0)

abbrev pub StartsLine : List ℕ → ℕ → Type 0
StartsLine bytes at = (at ≡ 0) ⊎ ((0 < at) × IsTrue (is_line_feed (slice_index bytes (at - 1))))

abbrev pub line_text : List ℕ → Line → List ℕ
line_text bytes line = slice_range bytes line.start line.end

-- it starts where a line does, its number is one more than the line feeds before it, and it ends before the
-- next line feed or the end of the text, or before the one carriage return there
pub record IsLine (bytes : List ℕ) (line : Line) : Type 0 where
  pub starts : StartsLine bytes line.start
  pub number : line.number ≡ 1 + count_by is_line_feed (take line.start bytes)
  pub ordered : line.start ≤ line.end
  pub within : line.end ≤ length bytes
  pub text : line_text bytes line ≡ strip_carriage_return (before_first is_line_feed (drop line.start bytes))
  pub content : IsTrue (has_content (line_text bytes line))
