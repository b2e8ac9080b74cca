-- The words of a line.
--
--   Word                   a text, a number or a punctuation sign
--   word_of kind bytes     the word that a token of this kind with these bytes is
--   words_in line tokens   the words that these tokens of the line are
use Rattle.std.specs.Prelude.{ℕ, List, map}
use Rattle.std.specs.Str.Parse.{digits_value}
use Rattle.ipa_text.specs.Tokens.{text_of}
use Rattle.ipa_text.specs.declared.tokens.Token.{Token}
use Rattle.ipa_text.specs.declared.tokens.TokenKind.{TokenKind}
use Rattle.ipa_text.specs.declared.tokens.TokenKind.TheVariants as kinds

pub data Word : Type 0 where
  text : List ℕ → Word
  number : ℕ → Word
  sign : TokenKind → Word

-- a number is what its digits mean, and a sign is its kind alone
abbrev pub word_of : TokenKind → List ℕ → Word
word_of kinds.Word bytes = text bytes
word_of kinds.Number bytes = number (digits_value 10 bytes)
word_of kind bytes = sign kind

abbrev pub words_in : List ℕ → List Token → List Word
words_in line tokens = map (λ token. word_of token.kind (text_of line token)) tokens
