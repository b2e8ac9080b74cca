-- Parts that stand at the front of some words.
--
--   IsFirst all kind bytes             the first word is that of a token of this kind with these bytes
--   HasNone said all                   no part stands at the front, where `said` gives a part's words
--   IsRead said all found left         the part found stands at the front, before what is left; or none does
--   Lacks word all                     the first word is another, or there is none
--   IsTaken word all taken left        the first word was this one and is taken, or it is another and stays
--   IsJoined said between all xs left  one part or more stand at the front with `between` between each two, and no
--                                      further one
--   IsJoinedRead ..                    such parts are found, or there are none
--   IsUnmixed said                     where one part ends is seen from the words before
--   IsOpen said                        no part begins with `)`
--   separator_word s                   the word that is a separator
--   applied said p                     a name, and parts in parentheses
use Rattle.std.specs.Prelude.{◌≡◌, ℕ, ◌<◌, Bool, true, false, List, [], ◌∷◌, ◌++◌, length, codes, Option, MatchOption}
use Rattle.std.specs.List.{join_by}
use Rattle.ipa_spec.specs.declared.names.Name.{Name}
use Rattle.ipa_text.specs.Tokens.{IsOfKind}
use Rattle.ipa_text.specs.declared.tokens.TokenKind.{TokenKind}
use Rattle.ipa_text.specs.declared.tokens.TokenKind.TheVariants.{Close, Comma as CommaSign}
use Rattle.ipa_forms.specs.Words.{Word, text, sign, word_of}
use Rattle.ipa_forms.specs.Forms.{name, listed}
use Rattle.ipa_forms.specs.declared.reading.separators.Separator.{Separator}
use Rattle.ipa_forms.specs.declared.reading.separators.Separator.TheVariants.{Comma, Or}

pub record IsFirst (all : List Word) (kind : TokenKind) (bytes : List ℕ) : Type 0 where
  pub later : List Word
  pub words_are : all ≡ word_of kind bytes ∷ later
  pub of_kind : IsOfKind kind bytes

abbrev pub HasNone : {A : Type 0} → (A → List Word) → List Word → Type 0
HasNone {A} said all = (x : A) (left : List Word) → all ≡ said x ++ left → ⊥

abbrev pub IsRead : {A : Type 0} → (A → List Word) → List Word → Option A → List Word → Type 0
IsRead said all found left = MatchOption found (HasNone said all) (λ x. all ≡ said x ++ left)

abbrev pub Lacks : Word → List Word → Type 0
Lacks word all = (left : List Word) → all ≡ word ∷ left → ⊥

abbrev pub IsTaken : Word → List Word → Bool → List Word → Type 0
IsTaken word all true left = all ≡ word ∷ left
IsTaken word all false left = (left ≡ all) × Lacks word all

pub record IsJoined {A : Type 0} (said : A → List Word) (between : Word) (all : List Word) (xs : List A)
    (left : List Word) : Type 0 where
  pub some : 0 < length xs
  pub words_are : all ≡ join_by said (between ∷ []) xs ++ left
  pub ended : Lacks between left

abbrev pub IsJoinedRead : {A : Type 0} → (A → List Word) → Word → List Word → Option (List A) → List Word → Type 0
IsJoinedRead {A} said between all found left =
    MatchOption found ((xs : List A) (rest : List Word) → IsJoined said between all xs rest → ⊥)
    (λ xs. IsJoined said between all xs left)

abbrev pub IsUnmixed : {A : Type 0} → (A → List Word) → Type 0
IsUnmixed {A} said =
    (x y : A) (after before : List Word) → said x ++ after ≡ said y ++ before → (said x ≡ said y) × (after ≡ before)

abbrev pub IsOpen : {A : Type 0} → (A → List Word) → Type 0
IsOpen {A} said = (x : A) (after before : List Word) → said x ++ after ≡ sign Close ∷ before → ⊥

abbrev pub separator_word : Separator → Word
separator_word Comma = sign CommaSign
separator_word Or = text (codes "or")

abbrev pub applied : {A : Type 0} → (A → List Word) → Name × List A → List Word
applied said p = name p.0 ∷ listed said p.1
