-- Where a journal begins.
use Rattle.std.proofs.Common.{◌≡◌, ℕ, Bool, true, false, List, [], ◌∷◌, ◌++◌, subst}
use Rattle.std.specs.Prelude.{MatchBool}
use Rattle.std.specs.List.{All}
use Rattle.std.proofs.lemmas.List.Elements.{All-push}
use Rattle.ipa_text.specs.Tokens.{IsCutInto}
use Rattle.ipa_text.specs.declared.numbering.Line.{Line}
use Rattle.ipa_text.specs.declared.tokens.Token.{Token}
use Rattle.ipa_forms.specs.Words.{Word, text, words_in}
use Rattle.ipa_forms.specs.Parts.{IsTaken}
use Rattle.ipa_journal.specs.Pieces.{keyword_text}
use Rattle.ipa_journal.specs.Starts.{BeginsJournal, BeginsNone}
use Rattle.ipa_journal.specs.declared.keywords.Keyword.TheVariants.{Journal}

-- the cut of a line is one
abbrev pub OneCut : Type 0
OneCut = (line : List ℕ) (tokens others : List Token) → IsCutInto line tokens → IsCutInto line others → tokens ≡ others

pub begins_from : OneCut → (line : List ℕ) (tokens : List Token) (begins : Bool) (left : List Word) →
    IsCutInto line tokens → IsTaken (text (keyword_text Journal)) (words_in line tokens) begins left →
    MatchBool begins (BeginsJournal line) (BeginsJournal line → ⊥)
begins_from one line tokens true left cut taken = record { tokens = tokens; cut = cut; later = left; words_are = taken }
begins_from one line tokens false left cut taken = λ h.
    let same = one line h.tokens tokens h.cut cut in
    taken.1 h.later (subst (λ ts. words_in line ts ≡ text (keyword_text Journal) ∷ h.later) same h.words_are)

pub none_more : (bytes : List ℕ) (lines : List Line) (line : Line) → All (BeginsNone bytes) lines →
    BeginsNone bytes line → All (BeginsNone bytes) (lines ++ line ∷ [])
none_more bytes lines line h n = All-push (BeginsNone bytes) lines line h n
