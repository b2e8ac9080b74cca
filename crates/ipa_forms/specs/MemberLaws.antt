-- What may stand in a list: where each ends, and that none begins with `)`.
use Rattle.std.proofs.Common.{◌≡◌, ℕ, take, subst, List, ◌∷◌, ◌++◌, None, Some, true, false, refl, sym, ap, ◌∙◌, codes}
use Rattle.std.proofs.lemmas.Bool.{false≢true}
use Rattle.ipa_spec.specs.Names.{is_name}
use Rattle.ipa_spec.specs.declared.names.Name.{Name}
use Rattle.ipa_forms.specs.Words.{Word, text}
use Rattle.ipa_forms.specs.Forms.{name, name_alone, place, typed_name, names, atom, literal}
use Rattle.ipa_forms.specs.Parts.{IsOpen, IsUnmixed}
use Rattle.ipa_forms.specs.declared.forms.AtomForm.{AtomForm}
use Rattle.ipa_forms.specs.declared.forms.LiteralForm.TheVariants.{Holds, Fails, Same, Differ}
use Rattle.ipa_forms.specs.ListingLaws.{IsUnmixed-listed}

no_name : is_name (codes "not") ≡ false
unfolding is_name
no_name = refl

-- `not` is no name
pub not_name : (n : Name) → name n ≡ text (codes "not") → ⊥
not_name n e =
    let P : List ℕ → Type 0 = λ bytes. is_name bytes ≡ true in
    let same : take n.len n.bytes ≡ codes "not" = cc in
    false≢true (sym no_name ∙ subst P same n.named)

pub IsUnmixed-name_alone : IsUnmixed name_alone
IsUnmixed-name_alone x y after before e = (cc, cc)

pub IsOpen-name_alone : IsOpen name_alone
IsOpen-name_alone x after before e = cc

pub IsUnmixed-place : IsUnmixed place
IsUnmixed-place None None after before e = (cc, cc)
IsUnmixed-place None (Some y) after before e = cc
IsUnmixed-place (Some x) None after before e = cc
IsUnmixed-place (Some x) (Some y) after before e = (cc, cc)

pub IsOpen-place : IsOpen place
IsOpen-place None after before e = cc
IsOpen-place (Some x) after before e = cc

pub IsUnmixed-typed_name : IsUnmixed typed_name
IsUnmixed-typed_name x y after before e = (cc, cc)

pub IsOpen-typed_name : IsOpen typed_name
IsOpen-typed_name x after before e = cc

same_atoms : (a b : AtomForm) (after before : List Word) → atom a ++ after ≡ atom b ++ before →
    (atom a ≡ atom b) × (after ≡ before)
same_atoms a b after before e =
    let head : name a.predicate ≡ name b.predicate = cc in
    let tail : names a.args ++ after ≡ names b.args ++ before = cc in
    let cut = IsUnmixed-listed name_alone IsUnmixed-name_alone IsOpen-name_alone a.args b.args after before tail in
    (cc (head, cut.0), cut.1)

pub IsUnmixed-literal : IsUnmixed literal
IsUnmixed-literal (Holds a) (Holds b) after before e = same_atoms a b after before e
IsUnmixed-literal (Holds a) (Fails b) after before e = absurd (not_name a.predicate (cc))
IsUnmixed-literal (Holds a) (Same y z) after before e = cc
IsUnmixed-literal (Holds a) (Differ y z) after before e = cc
IsUnmixed-literal (Fails a) (Holds b) after before e = absurd (not_name b.predicate (cc))
IsUnmixed-literal (Fails a) (Fails b) after before e =
    let tail : atom a ++ after ≡ atom b ++ before = cc in
    let cut = same_atoms a b after before tail in
    (ap (λ t. text (codes "not") ∷ t) cut.0, cut.1)
IsUnmixed-literal (Fails a) (Same y z) after before e = absurd (not_name y (cc))
IsUnmixed-literal (Fails a) (Differ y z) after before e = absurd (not_name y (cc))
IsUnmixed-literal (Same x w) (Holds b) after before e = cc
IsUnmixed-literal (Same x w) (Fails b) after before e = absurd (not_name x (cc))
IsUnmixed-literal (Same x w) (Same y z) after before e = (cc, cc)
IsUnmixed-literal (Same x w) (Differ y z) after before e = cc
IsUnmixed-literal (Differ x w) (Holds b) after before e = cc
IsUnmixed-literal (Differ x w) (Fails b) after before e = absurd (not_name x (cc))
IsUnmixed-literal (Differ x w) (Same y z) after before e = cc
IsUnmixed-literal (Differ x w) (Differ y z) after before e = (cc, cc)

pub IsOpen-literal : IsOpen literal
IsOpen-literal (Holds a) after before e = cc
IsOpen-literal (Fails a) after before e = cc
IsOpen-literal (Same x y) after before e = cc
IsOpen-literal (Differ x y) after before e = cc
