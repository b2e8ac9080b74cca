-- The token at the front of some bytes.
--
--   begins_unequal bytes     the bytes begin with `!=`
--   mark_of b                the kind of the one-byte token b
--   run_kind run             whether a run is a word or a number
--   front_of bytes           the kind and the length of the token at the front
--   IsBlanksEnd line from to the blanks from `from` on end at `to`
use Rattle.std.specs.Prelude.{ℕ, ◌<◌, ◌≤◌, Bool, ◌&&◌, ◌==◌, List, length, Option, None, Some, slice_index, IsFalse, if◌then◌else◌}
use Rattle.std.specs.List.{take_while}
use Rattle.std.specs.Option.{option_map}
use Rattle.ipa_text.specs.Bytes.{is_blank, is_name_byte}
use Rattle.ipa_text.specs.Words.{is_word, is_number}
use Rattle.ipa_text.specs.Tokens.{AreBlanks}
use Rattle.ipa_text.specs.declared.tokens.TokenKind.{TokenKind}
use Rattle.ipa_text.specs.declared.tokens.TokenKind.TheVariants.{Word, Number, Open, Close, Comma, Colon, Star, Equal, Unequal}

abbrev pub begins_unequal : List ℕ → Bool
begins_unequal bytes = slice_index bytes 0 == 33 && slice_index bytes 1 == 61

abbrev pub mark_of : ℕ → Option TokenKind
mark_of b =
    if b == 40 then Some Open
    else (if b == 41 then Some Close
    else (if b == 44 then Some Comma
    else (if b == 58 then Some Colon
    else (if b == 42 then Some Star
    else (if b == 61 then Some Equal
    else None)))))

abbrev pub run_kind : List ℕ → Option TokenKind
run_kind run = if is_word run then Some Word else (if is_number run then Some Number else None)

-- the mark, or else the run
abbrev pub mark_or_run : Option TokenKind → List ℕ → Option (TokenKind × ℕ)
mark_or_run (Some mark) run = Some (mark, 1)
mark_or_run None run = option_map (λ kind. (kind, length run)) (run_kind run)

abbrev pub front_of : List ℕ → Option (TokenKind × ℕ)
front_of bytes =
    if begins_unequal bytes then Some (Unequal, 2)
    else mark_or_run (mark_of (slice_index bytes 0)) (take_while is_name_byte bytes)

pub record IsBlanksEnd (line : List ℕ) (from to : ℕ) : Type 0 where
  pub blanks : AreBlanks line from to
  pub within : to ≤ length line
  pub stops : to < length line → IsFalse (is_blank (slice_index line to))
