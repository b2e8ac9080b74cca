-- The tokens of a line.
--
--   text_of line token        the bytes of the token
--   IsOfKind kind text        text is what a token of this kind may be
--   is_run kind               words and numbers are runs of letters, digits and underscores
--   IsToken line token        the token stands in the line
--   AreBlanks line from to    only spaces and tabs stand from `from` up to `to`
--   IsCut line from tokens to from `from` up to `to` stand the tokens, and nothing else but blanks
--   IsCutInto line tokens     the whole line is cut into the tokens
--   StartsNoToken line at     no token stands at `at`
--   IsBadByte line at         at `at` stands the first byte that starts no token
--   HasAnswer line            the line has a cut or a bad byte
--   IsFaultOf line fault      the fault is true of the line
--   IsBadByteOrNoMemory at    the fault is a bad byte at `at`, or want of memory
use Rattle.std.specs.Prelude.{◌≡◌, ℕ, ◌<◌, ◌≤◌, ◌⊎◌, Bool, true, false, List, [], ◌∷◌, length, slice_index, slice_range, codes, IsTrue, IsFalse}
use Rattle.ipa_text.specs.Bytes.{is_blank, is_name_byte}
use Rattle.ipa_text.specs.Words.{is_word, is_number}
use Rattle.ipa_text.specs.declared.tokens.Token.{Token}
use Rattle.ipa_text.specs.declared.tokens.TokenKind.{TokenKind}
use Rattle.ipa_text.specs.declared.tokens.TokenKind.TheVariants.{Word, Number, Open, Close, Comma, Colon, Star, Equal, Unequal}
use Rattle.ipa_text.specs.declared.tokens.CutFault.{CutFault}
use Rattle.ipa_text.specs.declared.tokens.CutFault.TheVariants.{BadByte, NoMemory}

abbrev pub text_of : List ℕ → Token → List ℕ
text_of line token = slice_range line token.start token.end

abbrev pub IsOfKind : TokenKind → List ℕ → Type 0
IsOfKind Word text = IsTrue (is_word text)
IsOfKind Number text = IsTrue (is_number text)
IsOfKind Open text = text ≡ codes "("
IsOfKind Close text = text ≡ codes ")"
IsOfKind Comma text = text ≡ codes ","
IsOfKind Colon text = text ≡ codes ":"
IsOfKind Star text = text ≡ codes "*"
IsOfKind Equal text = text ≡ codes "="
IsOfKind Unequal text = text ≡ codes "!="

abbrev pub is_run : TokenKind → Bool
is_run Word = true
is_run Number = true
is_run _ = false

-- the token lies in the line, its bytes are of its kind, and a run goes on as far as it can
pub record IsToken (line : List ℕ) (token : Token) : Type 0 where
  pub ordered : token.start ≤ token.end
  pub within : token.end ≤ length line
  pub of_kind : IsOfKind token.kind (text_of line token)
  pub longest : IsTrue (is_run token.kind) → token.end < length line → IsFalse (is_name_byte (slice_index line token.end))

pub record AreBlanks (line : List ℕ) (from to : ℕ) : Type 0 where
  pub ordered : from ≤ to
  pub blank : (k : ℕ) → from ≤ k → k < to → IsTrue (is_blank (slice_index line k))

-- blanks and the first token, and from its end on the others
abbrev pub IsCut : List ℕ → ℕ → List Token → ℕ → Type 0
IsCut line from [] to = AreBlanks line from to
IsCut line from (token ∷ later) to = AreBlanks line from token.start × IsToken line token × IsCut line token.end later to

abbrev pub IsCutInto : List ℕ → List Token → Type 0
IsCutInto line tokens = IsCut line 0 tokens (length line)

abbrev pub StartsNoToken : List ℕ → ℕ → Type 0
StartsNoToken line at = (token : Token) → token.start ≡ at → IsToken line token → ⊥

-- the line is cut up to this byte, which is no blank and starts no token
pub record IsBadByte (line : List ℕ) (at : ℕ) : Type 0 where
  pub before : List Token
  pub cut : IsCut line 0 before at
  pub within : at < length line
  pub not_blank : IsFalse (is_blank (slice_index line at))
  pub no_token : StartsNoToken line at

abbrev pub HasAnswer : List ℕ → Type 0
HasAnswer line = ((tokens : List Token) × IsCutInto line tokens) ⊎ ((at : ℕ) × IsBadByte line at)

-- want of memory is true of every line
abbrev pub IsFaultOf : List ℕ → CutFault → Type 0
IsFaultOf line (BadByte at) = IsBadByte line at
IsFaultOf line NoMemory = Unit {0}

abbrev pub IsBadByteOrNoMemory : ℕ → CutFault → Type 0
IsBadByteOrNoMemory at (BadByte place) = place ≡ at
IsBadByteOrNoMemory at NoMemory = Unit {0}
