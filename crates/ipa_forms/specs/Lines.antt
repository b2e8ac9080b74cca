-- Lines, read by their first word.
--
--   keyword_text k            the bytes of a keyword
--   keyword_alone k           the one word of a keyword
--   rule_alone r              the one word of a rule
--   limit l                   what ends a `bound` line: the variable that is counted, the most that there may be, and
--                             what is picked
--   NoWhole said all          the words are no part of this kind
--   IsWhole said all found    the words are the part found, or no part of this kind
--   AreNames all ns           the words are these names, one or more
--   NoneFor k all             behind the keyword, these words complete no form
--   IsFormRead k all found    behind the keyword, these words complete the form found, or none
use Rattle.std.specs.Prelude.{◌≡◌, ℕ, ◌<◌, List, [], ◌∷◌, ◌++◌, length, map, codes, Option, MatchOption}
use Rattle.ipa_spec.specs.declared.names.Name.{Name}
use Rattle.ipa_spec.specs.declared.predicates.Rule.{Rule}
use Rattle.ipa_spec.specs.declared.bounds.Pick.{Pick}
use Rattle.ipa_text.specs.declared.tokens.TokenKind.TheVariants.{Colon}
use Rattle.ipa_forms.specs.Words.{Word, text, number, sign}
use Rattle.ipa_forms.specs.Forms.{name, name_alone, number_alone, place, typed_name, names, typed, literal, alternatives, rule_word, pick_words, IsSaid}
use Rattle.ipa_forms.specs.Parts.{applied}
use Rattle.ipa_forms.specs.declared.forms.Typed.{Typed}
use Rattle.ipa_forms.specs.declared.forms.LiteralForm.{LiteralForm}
use Rattle.ipa_forms.specs.declared.forms.Form.{Form}
use Rattle.ipa_forms.specs.declared.keywords.Keyword.{Keyword}
use Rattle.ipa_forms.specs.declared.keywords.Keyword.TheVariants.{Sort, Const, Pred, Clause, Op, Need, Add, Del, Bound, Drops, Elem, Base, Replicas, Session, Do, Show}

abbrev pub keyword_text : Keyword → List ℕ
keyword_text Sort = codes "sort"
keyword_text Const = codes "const"
keyword_text Pred = codes "pred"
keyword_text Clause = codes "clause"
keyword_text Op = codes "op"
keyword_text Need = codes "need"
keyword_text Add = codes "add"
keyword_text Del = codes "del"
keyword_text Bound = codes "bound"
keyword_text Drops = codes "drops"
keyword_text Elem = codes "elem"
keyword_text Base = codes "base"
keyword_text Replicas = codes "replicas"
keyword_text Session = codes "session"
keyword_text Do = codes "do"
keyword_text Show = codes "show"

abbrev pub keyword_alone : Keyword → List Word
keyword_alone k = text (keyword_text k) ∷ []

abbrev pub rule_alone : Rule → List Word
rule_alone rule = rule_word rule ∷ []

abbrev pub limit : Name × ℕ × Pick → List Word
limit l = text (codes "counts") ∷ name l.0 ∷ text (codes "most") ∷ number l.1 ∷ pick_words l.2

abbrev pub NoWhole : {A : Type 0} → (A → List Word) → List Word → Type 0
NoWhole {A} said all = (x : A) → all ≡ said x → ⊥

abbrev pub IsWhole : {A : Type 0} → (A → List Word) → List Word → Option A → Type 0
IsWhole said all found = MatchOption found (NoWhole said all) (λ x. all ≡ said x)

pub record AreNames (all : List Word) (ns : List Name) : Type 0 where
  pub some : 0 < length ns
  pub words_are : all ≡ map name ns

abbrev pub NoneFor : Keyword → List Word → Type 0
NoneFor Sort all = NoWhole name_alone all
NoneFor Const all = NoWhole typed_name all
NoneFor Pred all = (n : Name) (sorts : List Name) (rule : Rule) → all ≡ name n ∷ names sorts ++ rule_word rule ∷ [] → ⊥
NoneFor Clause all =
    (n : Name) (vars : List Typed) (literals : List LiteralForm) → 0 < length literals →
    all ≡ name n ∷ typed vars ++ sign Colon ∷ alternatives literals → ⊥
NoneFor Op all = NoWhole (applied typed_name) all
NoneFor Need all = NoWhole literal all
NoneFor Add all = NoWhole (applied place) all
NoneFor Del all = NoWhole (applied place) all
NoneFor Bound all =
    (n p : Name) (vars : List Name) (counted : Name) (most : ℕ) (pick : Pick) →
    all ≡ name n ∷ name p ∷ names vars ++ text (codes "counts") ∷ name counted ∷ text (codes "most") ∷ number most
    ∷ pick_words pick → ⊥
NoneFor Drops all = NoWhole (applied place) all
NoneFor Elem all = (sort : Name) (elements : List Name) → 0 < length elements → all ≡ name sort ∷ map name elements → ⊥
NoneFor Base all = NoWhole (applied name_alone) all
NoneFor Replicas all = NoWhole number_alone all
NoneFor Session all = NoWhole number_alone all
NoneFor Do all = NoWhole (applied name_alone) all
NoneFor Show all = NoWhole (applied place) all

abbrev pub IsFormRead : Keyword → List Word → Option Form → Type 0
IsFormRead k all found = MatchOption found (NoneFor k all) (IsSaid (text (keyword_text k) ∷ all))
