-- The numbers of a line's parts are below 2 ^ 32.
--
--   IsSmall p, AreSmall ps   a number of the part is below 2 ^ 32; so is that of each
--   small_parts              so are the parts of a line
--   small_take, small_drop   and some of the parts
--   number_small             and a number in a place
use Rattle.std.proofs.Common.{◌≡◌, ℕ, zero, suc, ◌<◌, ◌^◌, ◌&&◌, leb, List, [], ◌∷◌, ◌++◌, length, take, drop, Some, subst, arith}
use Rattle.std.specs.List.{AllByRecursion, list_all}
use Rattle.std.specs.Char.{is_ascii_digit}
use Rattle.std.specs.Str.Parse.{digits_value}
use Rattle.std.proofs.lemmas.Bool.{and_parts, leb-true}
use Rattle.std.proofs.lemmas.Option.{same_Some}
use Rattle.ipa_text.specs.Tokens.{text_of, IsCut, IsOfKind}
use Rattle.ipa_text.specs.Words.{has_no_needless_zero}
use Rattle.ipa_text.specs.declared.tokens.Token.{Token}
use Rattle.ipa_text.specs.declared.tokens.TokenKind.{TokenKind}
use Rattle.ipa_text.specs.declared.tokens.TokenKind.TheVariants as kinds
use Rattle.ipa_forms.specs.Words.{text, number, sign, word_of, words_in}
use Rattle.ipa_forms.specs.Words.{Word as LineWord}
use Rattle.ipa_journal.specs.Parts.{part_words, words_of, HasParts, number_at}
use Rattle.ipa_journal.specs.declared.parts.Part.{Part}
use Rattle.ipa_journal.specs.declared.parts.Part.TheVariants.{Word, Number, Group}

abbrev pub IsSmall : Part → Type 0
IsSmall (Number n) = n < 2 ^ 32
IsSmall (Word n) = Unit {0}
IsSmall (Group ns) = Unit {0}

abbrev pub AreSmall : List Part → Type 0
AreSmall ps = AllByRecursion IsSmall ps

abbrev SmallWord : LineWord → Type 0
SmallWord (number n) = n < 2 ^ 32
SmallWord (text bytes) = Unit {0}
SmallWord (sign kind) = Unit {0}

token_small : (kind : TokenKind) (bytes : List ℕ) → IsOfKind kind bytes → SmallWord (word_of kind bytes)
token_small kinds.Word bytes h = tt
token_small kinds.Number bytes h =
    let most = leb-true (digits_value 10 bytes) 4294967295 (and_parts (has_no_needless_zero bytes && list_all is_ascii_digit bytes) (leb (digits_value 10 bytes) 4294967295) h).1 in
    omega (arith, most)
token_small kinds.Open bytes h = tt
token_small kinds.Close bytes h = tt
token_small kinds.Comma bytes h = tt
token_small kinds.Colon bytes h = tt
token_small kinds.Star bytes h = tt
token_small kinds.Equal bytes h = tt
token_small kinds.Unequal bytes h = tt

words_small : (line : List ℕ) (from to : ℕ) (ts : List Token) → IsCut line from ts to → AllByRecursion SmallWord (words_in line ts)
words_small line from to [] h = tt
words_small line from to (t ∷ ts) h =
    (token_small t.kind (text_of line t) h.1.of_kind, words_small line t.end to ts h.2)

front : (ws vs : List LineWord) → AllByRecursion SmallWord (ws ++ vs) → AllByRecursion SmallWord ws × AllByRecursion SmallWord vs
front [] vs h = (tt, h)
front (w ∷ ws) vs h = let later = front ws vs h.1 in ((h.0, later.0), later.1)

part_small : (p : Part) → AllByRecursion SmallWord (part_words p) → IsSmall p
part_small (Word n) h = tt
part_small (Number n) h = h.0
part_small (Group ns) h = tt

each_small : (ps : List Part) → AllByRecursion SmallWord (words_of ps) → AreSmall ps
each_small [] h = tt
each_small (p ∷ ps) h =
    let both = front (part_words p) (words_of ps) h in
    (part_small p both.0, each_small ps both.1)

pub small_parts : (line : List ℕ) (ps : List Part) → HasParts line ps → AreSmall ps
small_parts line ps h =
    each_small ps (subst (AllByRecursion SmallWord) h.words_are (words_small line 0 (length line) h.tokens h.cut))

pub small_take : (n : ℕ) (ps : List Part) → AreSmall ps → AreSmall (take n ps)
small_take zero ps h = tt
small_take (suc n) [] h = tt
small_take (suc n) (p ∷ ps) h = (h.0, small_take n ps h.1)

pub small_drop : (n : ℕ) (ps : List Part) → AreSmall ps → AreSmall (drop n ps)
small_drop zero ps h = h
small_drop (suc n) [] h = tt
small_drop (suc n) (p ∷ ps) h = small_drop n ps h.1

pub number_small : (ps : List Part) (k n : ℕ) → AreSmall ps → number_at ps k ≡ Some n → n < 2 ^ 32
number_small [] k n h e = cc
number_small (Word w ∷ ps) zero n h e = cc
number_small (Number m ∷ ps) zero n h e = subst (λ j. j < 2 ^ 32) (same_Some m n e) h.0
number_small (Group ws ∷ ps) zero n h e = cc
number_small (p ∷ ps) (suc k) n h e = number_small ps k n h.1 e
