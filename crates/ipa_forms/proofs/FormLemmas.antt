-- A line has a form only by its keyword and what completes it.
use Rattle.std.proofs.Common.{◌≡◌, ℕ, Bool, true, false, cond, List, [], ◌∷◌, Option, None, Some, Result, Ok, Err, IfOk, MatchOption, drop, refl, sym, subst, ap, ◌∙◌}
use Rattle.std.specs.List.{find}
use Rattle.std.specs.Str.{bytes_eq}
use Rattle.std.proofs.lemmas.Slice.Eq.{bytes_eq-Decides}
use Rattle.ipa_text.specs.declared.tokens.TokenKind.{TokenKind}
use Rattle.ipa_text.specs.declared.tokens.TokenKind.TheVariants.{Word as WordKind}
use Rattle.ipa_forms.specs.Words.{Word, text, word_of}
use Rattle.ipa_forms.specs.Forms.{IsSaid}
use Rattle.ipa_forms.specs.Parts.{HasNone, IsFirst}
use Rattle.ipa_forms.specs.Lines.{keyword_alone, keyword_text, IsFormRead, NoneFor}
use Rattle.ipa_forms.specs.declared.forms.Form.{Form}
use Rattle.ipa_forms.specs.declared.forms.Form.TheVariants.{Sort, Const, Pred, Clause, Op, Need, Add, Del, Bound, Drops, Elem, Base, Replicas, Session, Do, Show}
use Rattle.ipa_forms.specs.declared.keywords.TheConstants.{KEYWORDS}
use Rattle.ipa_forms.specs.declared.keywords.Keyword.{Keyword}
use Rattle.ipa_forms.specs.declared.keywords.Keyword.TheVariants as keys

-- the keyword that is written like this
abbrev pub written : List ℕ → Option Keyword
written bytes = find (λ k. bytes_eq (keyword_text k) bytes) KEYWORDS

find_passes : {A : Type 0} (p : A → Bool) (xs : List A) (x : A) → find p xs ≡ Some x → p x ≡ true
find_passes p [] x e = cc
find_passes p (y ∷ ys) x e = go (p y) refl e (find_passes p ys x)
  where
    go : (b : Bool) → p y ≡ b → cond b (Some y) (find p ys) ≡ Some x → (find p ys ≡ Some x → p x ≡ true) → p x ≡ true
    go true passes same later = let here : y ≡ x = cc in ap p (sym here) ∙ passes
    go false passes same later = later same

pub text-written : (bytes : List ℕ) (k : Keyword) → written bytes ≡ Some k → bytes ≡ keyword_text k
text-written bytes k e = sym ((bytes_eq-Decides (keyword_text k) bytes).0 (find_passes (λ l. bytes_eq (keyword_text l) bytes) KEYWORDS k e))

written-text : (k : Keyword) → written (keyword_text k) ≡ Some k
written-text keys.Sort = refl
written-text keys.Const = refl
written-text keys.Pred = refl
written-text keys.Clause = refl
written-text keys.Op = refl
written-text keys.Need = refl
written-text keys.Add = refl
written-text keys.Del = refl
written-text keys.Bound = refl
written-text keys.Drops = refl
written-text keys.Elem = refl
written-text keys.Base = refl
written-text keys.Replicas = refl
written-text keys.Session = refl
written-text keys.Do = refl
written-text keys.Show = refl

-- each keyword is written in its own way
pub same_keyword : (k l : Keyword) → keyword_text k ≡ keyword_text l → k ≡ l
same_keyword k l e = let same : Some k ≡ Some l = sym (written-text k) ∙ ap written e ∙ written-text l in cc

-- the first word is the keyword that is written there
pub keyword_first : (all left : List Word) (kind : TokenKind) (bytes : List ℕ) (k : Keyword) → IsFirst all kind bytes → kind ≡ WordKind → left ≡ drop 1 all → bytes ≡ keyword_text k → all ≡ text (keyword_text k) ∷ left
keyword_first all left kind bytes k first is_word passed same =
    let front : all ≡ text bytes ∷ first.later = first.words_are ∙ ap (λ other. word_of other bytes ∷ first.later) is_word in
    let rest : left ≡ first.later = passed ∙ ap (drop 1) front in
    cc

-- a line without a keyword has no form
pub no_keyword : (all : List Word) → HasNone keyword_alone all → (f : Form) → IsSaid all f → ⊥
no_keyword all none (Sort n) h = none keys.Sort _ h.words_are
no_keyword all none (Const c) h = none keys.Const _ h.words_are
no_keyword all none (Pred n sorts rule) h = none keys.Pred _ h.words_are
no_keyword all none (Clause n vars literals) h = none keys.Clause _ h.words_are
no_keyword all none (Op n params) h = none keys.Op _ h.words_are
no_keyword all none (Need l) h = none keys.Need _ h.words_are
no_keyword all none (Add p args) h = none keys.Add _ h.words_are
no_keyword all none (Del p args) h = none keys.Del _ h.words_are
no_keyword all none (Bound n p vars counted most pick) h = none keys.Bound _ h.words_are
no_keyword all none (Drops p args) h = none keys.Drops _ h.words_are
no_keyword all none (Elem sort elements) h = none keys.Elem _ h.words_are
no_keyword all none (Base p elements) h = none keys.Base _ h.words_are
no_keyword all none (Replicas k) h = none keys.Replicas _ h.words_are
no_keyword all none (Session k) h = none keys.Session _ h.words_are
no_keyword all none (Do operation elements) h = none keys.Do _ h.words_are
no_keyword all none (Show p places) h = none keys.Show _ h.words_are

-- where a keyword is one that this form begins with, nothing completes the form
at_keyword : (k l : Keyword) (all rest : List Word) → NoneFor k all → text (keyword_text k) ∷ all ≡ text (keyword_text l) ∷ rest → NoneFor l all × (all ≡ rest)
at_keyword k l all rest none e =
    let texts : keyword_text k ≡ keyword_text l = cc in
    let P : Keyword → Type 0 = λ key. NoneFor key all in
    (subst P (same_keyword k l texts) none, cc)

-- where nothing completes a form of this keyword, the line has no form
pub no_form : (k : Keyword) (all : List Word) → NoneFor k all → (f : Form) → IsSaid (text (keyword_text k) ∷ all) f → ⊥
no_form k all none (Sort n) h = let at = at_keyword k keys.Sort all _ none h.words_are in at.0 n at.1
no_form k all none (Const c) h = let at = at_keyword k keys.Const all _ none h.words_are in at.0 c at.1
no_form k all none (Pred n sorts rule) h = let at = at_keyword k keys.Pred all _ none h.words_are in at.0 n sorts rule at.1
no_form k all none (Clause n vars literals) h = let at = at_keyword k keys.Clause all _ none h.words_are in at.0 n vars literals h.members at.1
no_form k all none (Op n params) h = let at = at_keyword k keys.Op all _ none h.words_are in at.0 (n, params) at.1
no_form k all none (Need l) h = let at = at_keyword k keys.Need all _ none h.words_are in at.0 l at.1
no_form k all none (Add p args) h = let at = at_keyword k keys.Add all _ none h.words_are in at.0 (p, args) at.1
no_form k all none (Del p args) h = let at = at_keyword k keys.Del all _ none h.words_are in at.0 (p, args) at.1
no_form k all none (Bound n p vars counted most pick) h = let at = at_keyword k keys.Bound all _ none h.words_are in at.0 n p vars counted most pick at.1
no_form k all none (Drops p args) h = let at = at_keyword k keys.Drops all _ none h.words_are in at.0 (p, args) at.1
no_form k all none (Elem sort elements) h = let at = at_keyword k keys.Elem all _ none h.words_are in at.0 sort elements h.members at.1
no_form k all none (Base p elements) h = let at = at_keyword k keys.Base all _ none h.words_are in at.0 (p, elements) at.1
no_form k all none (Replicas n) h = let at = at_keyword k keys.Replicas all _ none h.words_are in at.0 n at.1
no_form k all none (Session n) h = let at = at_keyword k keys.Session all _ none h.words_are in at.0 n at.1
no_form k all none (Do operation elements) h = let at = at_keyword k keys.Do all _ none h.words_are in at.0 (operation, elements) at.1
no_form k all none (Show p places) h = let at = at_keyword k keys.Show all _ none h.words_are in at.0 (p, places) at.1

abbrev pub IsFormOf : List Word → Option Form → Type 0
IsFormOf all found = MatchOption found ((f : Form) → IsSaid all f → ⊥) (IsSaid all)

completed : (k : Keyword) (all rest : List Word) → all ≡ text (keyword_text k) ∷ rest → (found : Option Form) → IsFormRead k rest found → IsFormOf all found
completed k all rest e None h = λ f said. no_form k rest h f (let P : List Word → Type 0 = λ ws. IsSaid ws f in subst P e said)
completed k all rest e (Some f) h = let P : List Word → Type 0 = λ ws. IsSaid ws f in subst P (sym e) h

-- what completes the keyword's line is the form of the line
pub form_read : {E : Type 0} (k : Keyword) (all rest : List Word) → all ≡ text (keyword_text k) ∷ rest → (r : Result (Option Form) E) → IfOk r (IsFormRead k rest) → IfOk r (IsFormOf all)
form_read k all rest e (Ok found) h = completed k all rest e found h
form_read k all rest e (Err error) h = tt
