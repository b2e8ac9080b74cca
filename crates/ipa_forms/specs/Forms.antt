-- The forms of lines, by the words that each is said in.
--
--   name n                   the word that the name n is
--   name_alone n, number_alone n   the one word of a name, and of a number
--   place p                  the word of an argument: a name, or `*`
--   listed words xs          the words of each of xs, in parentheses and with commas between them
--   names ns                 names in parentheses
--   places ps                arguments in parentheses
--   typed vs                 variables with their sorts in parentheses
--   literal l                the words of a literal
--   alternatives ls          literals with `or` between them
--   pick_words p             what ends a `bound` line: nothing where the greatest fact is picked
--   words_of form            the words of a form
--   HasMembers form          a clause has one literal or more, and so has `elem` elements
--   IsSaid words form        these words say the form
--   HasForm line ts form     the line, cut into ts, has this form
--   is_existential line ts   the first word is `clause`, and a later word is `exists`
use Rattle.std.specs.Prelude.{◌≡◌, ℕ, ◌<◌, Bool, false, ◌&&◌, List, [], ◌∷◌, ◌++◌, length, map, take, codes, Option, None, Some}
use Rattle.std.specs.List.{join_by, list_any}
use Rattle.std.specs.Str.{bytes_eq}
use Rattle.ipa_spec.specs.declared.names.Name.{Name}
use Rattle.ipa_spec.specs.declared.predicates.Rule.{Rule}
use Rattle.ipa_spec.specs.declared.predicates.Rule.TheVariants.{AddWins, RemoveWins}
use Rattle.ipa_spec.specs.declared.bounds.Pick.{Pick}
use Rattle.ipa_spec.specs.declared.bounds.Pick.TheVariants.{Greatest, Youngest}
use Rattle.ipa_text.specs.declared.tokens.Token.{Token}
use Rattle.ipa_text.specs.declared.tokens.TokenKind.TheVariants.{Open, Close, Comma, Colon, Star, Equal, Unequal}
use Rattle.ipa_forms.specs.Words.{Word, text, number, sign, words_in}
use Rattle.ipa_forms.specs.declared.forms.Typed.{Typed}
use Rattle.ipa_forms.specs.declared.forms.AtomForm.{AtomForm}
use Rattle.ipa_forms.specs.declared.forms.LiteralForm.{LiteralForm}
use Rattle.ipa_forms.specs.declared.forms.LiteralForm.TheVariants.{Holds, Fails, Same, Differ}
use Rattle.ipa_forms.specs.declared.forms.Form.{Form}
use Rattle.ipa_forms.specs.declared.forms.Form.TheVariants.{Sort, Const, Pred, Clause, Op, Need, Add, Del, Bound, Drops, Elem, Base, Replicas, Session, Do, Show}

abbrev pub name : Name → Word
name n = text (take n.len n.bytes)

abbrev pub name_alone : Name → List Word
name_alone n = name n ∷ []

abbrev pub number_alone : ℕ → List Word
number_alone n = number n ∷ []

abbrev pub place : Option Name → List Word
place None = sign Star ∷ []
place (Some n) = name n ∷ []

abbrev pub typed_name : Typed → List Word
typed_name v = name v.name ∷ sign Colon ∷ name v.sort ∷ []

abbrev pub listed : {A : Type 0} → (A → List Word) → List A → List Word
listed words xs = sign Open ∷ join_by words (sign Comma ∷ []) xs ++ sign Close ∷ []

abbrev pub names : List Name → List Word
names ns = listed name_alone ns

abbrev pub places : List (Option Name) → List Word
places ps = listed place ps

abbrev pub typed : List Typed → List Word
typed vs = listed typed_name vs

abbrev pub atom : AtomForm → List Word
atom a = name a.predicate ∷ names a.args

abbrev pub literal : LiteralForm → List Word
literal (Holds a) = atom a
literal (Fails a) = text (codes "not") ∷ atom a
literal (Same x y) = name x ∷ sign Equal ∷ name y ∷ []
literal (Differ x y) = name x ∷ sign Unequal ∷ name y ∷ []

abbrev pub alternatives : List LiteralForm → List Word
alternatives ls = join_by literal (text (codes "or") ∷ []) ls

abbrev pub rule_word : Rule → Word
rule_word AddWins = text (codes "addwins")
rule_word RemoveWins = text (codes "remwins")

abbrev pub pick_words : Pick → List Word
pick_words Greatest = []
pick_words Youngest = text (codes "youngest") ∷ []

abbrev pub words_of : Form → List Word
words_of (Sort n) = text (codes "sort") ∷ name n ∷ []
words_of (Const c) = text (codes "const") ∷ typed_name c
words_of (Pred n sorts rule) = text (codes "pred") ∷ name n ∷ names sorts ++ rule_word rule ∷ []
words_of (Clause n vars literals) = text (codes "clause") ∷ name n ∷ typed vars ++ sign Colon ∷ alternatives literals
words_of (Op n params) = text (codes "op") ∷ name n ∷ typed params
words_of (Need l) = text (codes "need") ∷ literal l
words_of (Add p args) = text (codes "add") ∷ name p ∷ places args
words_of (Del p args) = text (codes "del") ∷ name p ∷ places args
words_of (Bound n p vars counted most pick) =
    text (codes "bound") ∷ name n ∷ name p ∷ names vars
    ++ text (codes "counts") ∷ name counted ∷ text (codes "most") ∷ number most ∷ pick_words pick
words_of (Drops p args) = text (codes "drops") ∷ name p ∷ places args
words_of (Elem sort elements) = text (codes "elem") ∷ name sort ∷ map name elements
words_of (Base p elements) = text (codes "base") ∷ name p ∷ names elements
words_of (Replicas k) = text (codes "replicas") ∷ number k ∷ []
words_of (Session k) = text (codes "session") ∷ number k ∷ []
words_of (Do operation elements) = text (codes "do") ∷ name operation ∷ names elements
words_of (Show p ps) = text (codes "show") ∷ name p ∷ places ps

abbrev pub HasMembers : Form → Type 0
HasMembers (Clause n vars literals) = 0 < length literals
HasMembers (Elem sort elements) = 0 < length elements
HasMembers _ = Unit {0}

pub record IsSaid (words : List Word) (form : Form) : Type 0 where
  pub words_are : words ≡ words_of form
  pub members : HasMembers form

abbrev pub HasForm : List ℕ → List Token → Form → Type 0
HasForm line tokens form = IsSaid (words_in line tokens) form

abbrev pub is_text : List ℕ → Word → Bool
is_text bytes (text other) = bytes_eq other bytes
is_text bytes _ = false

abbrev pub says_exists : List Word → Bool
says_exists [] = false
says_exists (first ∷ later) = is_text (codes "clause") first && list_any (is_text (codes "exists")) later

abbrev pub is_existential : List ℕ → List Token → Bool
is_existential line tokens = says_exists (words_in line tokens)
