-- Lines and tokens as they are written.
--
--   Spelling                   a token's kind and bytes, and how many spaces stand before it
--   bytes_of spellings         the bytes of a line that is written so
--   tokens_from at spellings   its tokens, where the line stands at `at`
--   AreReadable spellings      the bytes are of their kinds, and a space stands between two runs
--   ended texts                a text of these lines, each ended by a line feed
use Rattle.std.specs.Prelude.{ℕ, ◌+◌, ◌<◌, Bool, false, List, [], ◌∷◌, ◌++◌, length, replicate, IsTrue, IsFalse}
use Rattle.std.specs.List.{flat_map, All}
use Rattle.ipa_text.specs.Bytes.{is_line_feed}
use Rattle.ipa_text.specs.Tokens.{IsOfKind, is_run}
use Rattle.ipa_text.specs.declared.tokens.Token.{Token}
use Rattle.ipa_text.specs.declared.tokens.TokenKind.{TokenKind}

pub record Spelling : Type 0 where
  pub kind : TokenKind
  pub text : List ℕ
  pub gap : ℕ

-- 32 is a space
abbrev pub bytes_of : List Spelling → List ℕ
bytes_of [] = []
bytes_of (s ∷ later) = replicate s.gap 32 ++ (s.text ++ bytes_of later)

abbrev pub tokens_from : ℕ → List Spelling → List Token
tokens_from at [] = []
tokens_from at (s ∷ later) = record { start = at + s.gap; end = at + s.gap + length s.text; kind = s.kind } ∷ tokens_from (at + s.gap + length s.text) later

-- the same, where a run may stand directly before
abbrev pub AreReadableAfter : Bool → List Spelling → Type 0
AreReadableAfter after_run [] = Unit {0}
AreReadableAfter after_run (s ∷ later) = IsOfKind s.kind s.text × (IsTrue after_run → IsTrue (is_run s.kind) → 0 < s.gap) × AreReadableAfter (is_run s.kind) later

abbrev pub AreReadable : List Spelling → Type 0
AreReadable spellings = AreReadableAfter false spellings

-- 10 is a line feed
abbrev pub ended : List (List ℕ) → List ℕ
ended texts = flat_map (λ text. text ++ 10 ∷ []) texts

-- no line feed stands in the bytes
abbrev pub HasNoLineFeed : List ℕ → Type 0
HasNoLineFeed text = All (λ b. IsFalse (is_line_feed b)) text
