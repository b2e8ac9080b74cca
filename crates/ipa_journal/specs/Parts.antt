-- The parts that the line of a journal is read as.
--
--   part_words p       the words of a part
--   words_of ps        the words of parts, one after the other
--   HasParts text ps   a line of this text is cut into tokens, whose words are those of the parts
--   word_part p, number_part p, group_part p   what the part is, where it is of that kind
--   word_at ps k, number_at ps k, group_at ps k   the same of the part in place k, counted from 0
--   is_said k name     the name is written like the keyword
--   is_key ps k key    the part in place k is this keyword
use Rattle.std.specs.Prelude.{◌≡◌, ℕ, Bool, false, List, Option, None, Some, slice_get, option_and_then}
use Rattle.std.specs.List.{flat_map}
use Rattle.std.specs.Option.{option_map_or}
use Rattle.std.specs.Str.{bytes_eq}
use Rattle.ipa_spec.specs.declared.names.Name.{Name}
use Rattle.ipa_text.specs.Tokens.{IsCutInto}
use Rattle.ipa_text.specs.declared.tokens.Token.{Token}
use Rattle.ipa_forms.specs.Words.{words_in}
use Rattle.ipa_forms.specs.Words.{Word as LineWord}
use Rattle.ipa_forms.specs.Forms.{name_alone, number_alone, names}
use Rattle.ipa_forms.specs.Layout.{name_text}
use Rattle.ipa_journal.specs.Pieces.{keyword_text}
use Rattle.ipa_journal.specs.declared.keywords.Keyword.{Keyword}
use Rattle.ipa_journal.specs.declared.parts.Part.{Part}
use Rattle.ipa_journal.specs.declared.parts.Part.TheVariants.{Word, Number, Group}

abbrev pub part_words : Part → List LineWord
part_words (Word n) = name_alone n
part_words (Number n) = number_alone n
part_words (Group ns) = names ns

abbrev pub words_of : List Part → List LineWord
words_of parts = flat_map part_words parts

pub record HasParts (text : List ℕ) (parts : List Part) : Type 0 where
  pub tokens : List Token
  pub cut : IsCutInto text tokens
  pub words_are : words_in text tokens ≡ words_of parts

abbrev pub word_part : Part → Option Name
word_part (Word n) = Some n
word_part (Number n) = None
word_part (Group ns) = None

abbrev pub number_part : Part → Option ℕ
number_part (Word n) = None
number_part (Number n) = Some n
number_part (Group ns) = None

abbrev pub group_part : Part → Option (List Name)
group_part (Word n) = None
group_part (Number n) = None
group_part (Group ns) = Some ns

abbrev pub word_at : List Part → ℕ → Option Name
word_at parts k = option_and_then word_part (slice_get parts k)

abbrev pub number_at : List Part → ℕ → Option ℕ
number_at parts k = option_and_then number_part (slice_get parts k)

abbrev pub group_at : List Part → ℕ → Option (List Name)
group_at parts k = option_and_then group_part (slice_get parts k)

abbrev pub is_said : Keyword → Name → Bool
is_said k name = bytes_eq (name_text name) (keyword_text k)

abbrev pub is_key : List Part → ℕ → Keyword → Bool
is_key parts k key = option_map_or (is_said key) (word_at parts k) false
