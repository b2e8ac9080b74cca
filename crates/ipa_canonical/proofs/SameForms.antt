-- The forms that the lines of a canonical text have.
--
--   same_names    names of the same bytes are the same
--   same_forms    lines that say some forms say no others
use Rattle.std.proofs.Common.{◌≡◌, ℕ, List, [], ◌∷◌, map, true, refl, sym, ap, subst, ◌∙◌, codes, take}
use Rattle.std.specs.List.{AllByRecursion}
use Rattle.std.proofs.lemmas.Slice.Eq.{bytes_eq-Decides}
use Rattle.ipa_spec.specs.Faults.{same_name}
use Rattle.ipa_spec.specs.declared.names.Name.{Name}
use Rattle.ipa_text.specs.Lines.{line_text}
use Rattle.ipa_text.specs.Tokens.{IsCutInto}
use Rattle.ipa_text.specs.declared.numbering.Line.{Line}
use Rattle.ipa_text.specs.declared.tokens.Token.{Token}
use Rattle.ipa_forms.specs.Words.{text}
use Rattle.ipa_forms.specs.Forms.{HasForm, HasMembers}
use Rattle.ipa_forms.specs.Layout.{line_of, HasNumbers}
use Rattle.ipa_forms.specs.declared.forms.Form.{Form}
use Rattle.ipa_forms.specs.declared.forms.Form.TheVariants.{Sort}
use Rattle.ipa_reader.specs.Documents.{Says, SayEach}
use Rattle.ipa_canonical.specs.Sentences.{IsSaidBy}

abbrev pub OneForm : Type 0
OneForm = (line : List ℕ) (ts : List Token) (f g : Form) → HasForm line ts f → HasForm line ts g → f ≡ g

abbrev pub OneCut : Type 0
OneCut = (line : List ℕ) (ts others : List Token) → IsCutInto line ts → IsCutInto line others → ts ≡ others

abbrev pub ReadsBack : Type 0
ReadsBack = (f : Form) → HasMembers f → HasNumbers f → (ts : List Token) × IsCutInto (line_of f) ts × HasForm (line_of f) ts f

pub same_names : OneForm → ReadsBack → (a b : Name) → same_name a b ≡ true → a ≡ b
same_names one back a b h =
    let bytes : take a.len a.bytes ≡ take b.len b.bytes = (bytes_eq-Decides (take a.len a.bytes) (take b.len b.bytes)).0 h in
    let there = back (Sort a) tt tt in
    let other : HasForm (line_of (Sort a)) there.0 (Sort b) = record { words_are = there.2.words_are ∙ ap (λ t. text (codes "sort") ∷ text t ∷ []) bytes; members = tt } in
    let same : Sort a ≡ Sort b = one (line_of (Sort a)) there.0 (Sort a) (Sort b) there.2 other in
    cc

same_form : OneCut → OneForm → (line other : List ℕ) (f g : Form) → line ≡ other → Says line f → IsSaidBy other g → f ≡ g
same_form cut one line other f g e h k =
    let there : IsSaidBy line g = subst (λ t. IsSaidBy t g) (sym e) k in
    let tokens : h.tokens ≡ there.tokens = cut line h.tokens there.tokens h.cut there.cut in
    one line there.tokens f g (subst (λ ts. HasForm line ts f) tokens h.form_is) there.form_is

pub same_forms : OneCut → OneForm → (bytes : List ℕ) (lines : List Line) (fs gs : List Form) → SayEach bytes lines fs → map (line_text bytes) lines ≡ map line_of gs → AllByRecursion (λ f. IsSaidBy (line_of f) f) gs → fs ≡ gs
same_forms cut one bytes [] [] [] h e k = refl
same_forms cut one bytes [] [] (g ∷ gs) h e k = absurd (cc)
same_forms cut one bytes [] (f ∷ fs) gs h e k = absurd h
same_forms cut one bytes (l ∷ lines) [] gs h e k = absurd h
same_forms cut one bytes (l ∷ lines) (f ∷ fs) [] h e k = absurd (cc)
same_forms cut one bytes (l ∷ lines) (f ∷ fs) (g ∷ gs) h e k =
    let head : line_text bytes l ≡ line_of g = cc in
    let tail : map (line_text bytes) lines ≡ map line_of gs = cc in
    λ i. same_form cut one (line_text bytes l) (line_of g) f g head h.0 k.0 i ∷ same_forms cut one bytes lines fs gs h.1 tail k.1 i
