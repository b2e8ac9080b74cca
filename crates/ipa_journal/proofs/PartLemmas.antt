-- Words that are no part, and lines that are no parts.
use Rattle.std.proofs.Common.{◌≡◌, ℕ, ◌<◌, List, [], ◌∷◌, ◌++◌, length, refl, sym, ap, ◌∙◌, append_assoc, append-nil, arith, length-append}
use Rattle.ipa_text.specs.declared.tokens.TokenKind.{TokenKind}
use Rattle.ipa_text.specs.declared.tokens.TokenKind.TheVariants as kinds
use Rattle.ipa_forms.specs.Words.{text, sign, word_of}
use Rattle.ipa_forms.specs.Words.{Word as LineWord}
use Rattle.ipa_forms.specs.Words as words
use Rattle.ipa_forms.specs.Forms.{name_alone, number_alone, listed}
use Rattle.ipa_forms.specs.Parts.{HasNone, IsUnmixed}
use Rattle.ipa_forms.specs.ListingLaws.{IsUnmixed-listed}
use Rattle.ipa_forms.specs.MemberLaws.{IsUnmixed-name_alone, IsOpen-name_alone}
use Rattle.ipa_journal.specs.Parts.{part_words, words_of}
use Rattle.ipa_journal.specs.declared.parts.Part.{Part}
use Rattle.ipa_journal.specs.declared.parts.Part.TheVariants.{Word, Number, Group}

pub nothing_there : (all : List LineWord) → all ≡ [] → HasNone part_words all
nothing_there all e (Word n) left h = cc
nothing_there all e (Number n) left h = cc
nothing_there all e (Group ns) left h = cc

pub no_word : (all later : List LineWord) (bytes : List ℕ) → all ≡ text bytes ∷ later → HasNone name_alone all →
    HasNone part_words all
no_word all later bytes e none (Word n) left h = none n left h
no_word all later bytes e none (Number n) left h = cc
no_word all later bytes e none (Group ns) left h = cc

pub no_number : (all later : List LineWord) (k : ℕ) → all ≡ words.number k ∷ later → HasNone number_alone all →
    HasNone part_words all
no_number all later k e none (Word n) left h = cc
no_number all later k e none (Number n) left h = none n left h
no_number all later k e none (Group ns) left h = cc

pub no_group : (all later : List LineWord) → all ≡ sign kinds.Open ∷ later → HasNone (listed name_alone) all →
    HasNone part_words all
no_group all later e none (Word n) left h = cc
no_group all later e none (Number n) left h = cc
no_group all later e none (Group ns) left h = none ns left h

marked : (kind : TokenKind) (all later : List LineWord) → all ≡ sign kind ∷ later → (kind ≡ kinds.Open → ⊥) →
    HasNone part_words all
marked kind all later e o (Word n) left h = cc
marked kind all later e o (Number n) left h = cc
marked kind all later e o (Group ns) left h = o (cc)

pub no_part : (kind : TokenKind) (all later : List LineWord) (bytes : List ℕ) → all ≡ word_of kind bytes ∷ later →
    (kind ≡ kinds.Word → ⊥) → (kind ≡ kinds.Number → ⊥) → (kind ≡ kinds.Open → ⊥) → HasNone part_words all
no_part kinds.Word all later bytes e w n o = absurd (w refl)
no_part kinds.Number all later bytes e w n o = absurd (n refl)
no_part kinds.Open all later bytes e w n o = absurd (o refl)
no_part kinds.Close all later bytes e w n o = marked kinds.Close all later e o
no_part kinds.Comma all later bytes e w n o = marked kinds.Comma all later e o
no_part kinds.Colon all later bytes e w n o = marked kinds.Colon all later e o
no_part kinds.Star all later bytes e w n o = marked kinds.Star all later e o
no_part kinds.Equal all later bytes e w n o = marked kinds.Equal all later e o
no_part kinds.Unequal all later bytes e w n o = marked kinds.Unequal all later e o

pub IsUnmixed-part : IsUnmixed part_words
IsUnmixed-part (Word n) (Word m) after before e = (cc, cc)
IsUnmixed-part (Word n) (Number m) after before e = cc
IsUnmixed-part (Word n) (Group ms) after before e = cc
IsUnmixed-part (Number n) (Word m) after before e = cc
IsUnmixed-part (Number n) (Number m) after before e = (cc, cc)
IsUnmixed-part (Number n) (Group ms) after before e = cc
IsUnmixed-part (Group ns) (Word m) after before e = cc
IsUnmixed-part (Group ns) (Number m) after before e = cc
IsUnmixed-part (Group ns) (Group ms) after before e =
    IsUnmixed-listed name_alone IsUnmixed-name_alone IsOpen-name_alone ns ms after before e

-- a part has a word
pub part-some : (p : Part) (later : List LineWord) → 0 < length (part_words p ++ later)
part-some (Word n) later = omega arith
part-some (Number n) later = omega arith
part-some (Group ns) later = omega arith

-- behind these parts stands something that is no part
pub no_parts : (ps : List Part) (all left : List LineWord) → all ≡ words_of ps ++ left → (left ≡ [] → ⊥) →
    HasNone part_words left → (qs : List Part) → all ≡ words_of qs → ⊥
no_parts [] all left e more none [] h = more (sym e ∙ h)
no_parts [] all left e more none (q ∷ qs) h = none q (words_of qs) (sym e ∙ h)
no_parts (p ∷ ps) all left e more none [] h =
    let whole = e ∙ append_assoc (part_words p) (words_of ps) left in
    omega (arith, part-some p (words_of ps ++ left), ap length (sym whole ∙ h))
no_parts (p ∷ ps) all left e more none (q ∷ qs) h =
    let whole = e ∙ append_assoc (part_words p) (words_of ps) left in
    let cut = IsUnmixed-part p q (words_of ps ++ left) (words_of qs) (sym whole ∙ h) in
    no_parts ps (words_of ps ++ left) left refl more none qs cut.1

-- one part less is left
pub left_shorter : (p : Part) (all left : List LineWord) → all ≡ part_words p ++ left → length left < length all
left_shorter p all left e =
    omega (arith, part-some p [], ap length e, length-append (part_words p) left, ap length (append-nil (part_words p)))
