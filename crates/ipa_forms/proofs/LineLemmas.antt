-- Where words complete no line.
use Rattle.std.proofs.Common.{◌≡◌, ◌<◌, List, [], ◌∷◌, ◌++◌, length, map, refl, subst, sym, ◌∙◌, append-nil, codes}
use Rattle.ipa_spec.specs.declared.names.Name.{Name}
use Rattle.ipa_text.specs.declared.tokens.TokenKind.TheVariants.{Colon}
use Rattle.ipa_forms.specs.Words.{Word, text, sign}
use Rattle.ipa_forms.specs.Forms.{name, name_alone, typed_name, listed, literal, alternatives}
use Rattle.ipa_forms.specs.Parts.{applied, HasNone, IsJoined, IsOpen, IsUnmixed, Lacks}
use Rattle.ipa_forms.specs.Lines.{limit, rule_alone, NoneFor, NoWhole}
use Rattle.ipa_forms.specs.JoiningLaws.{joined_once}
use Rattle.ipa_forms.specs.ListingLaws.{IsUnmixed-listed}
use Rattle.ipa_forms.specs.MemberLaws.{IsOpen-name_alone, IsOpen-typed_name, IsUnmixed-literal, IsUnmixed-name_alone, IsUnmixed-typed_name}
use Rattle.ipa_forms.specs.declared.forms.Typed.{Typed}
use Rattle.ipa_forms.specs.declared.forms.LiteralForm.{LiteralForm}
use Rattle.ipa_forms.specs.declared.keywords.Keyword.TheVariants.{Pred, Clause, Bound}

module _ {A : Type 0} (said : A → List Word) where
  pub none_whole : (all : List Word) → HasNone said all → NoWhole said all
  none_whole all none x e = none x [] (e ∙ sym (append-nil (said x)))

  -- something stands behind the part
  pub no_end : IsUnmixed said → (all left : List Word) (x : A) → all ≡ said x ++ left → (left ≡ [] → ⊥) → NoWhole said all
  no_end unmixed all left x e more y h = more ((unmixed x y left [] (sym e ∙ h ∙ sym (append-nil (said y)))).1)

  pub IsUnmixed-applied : IsUnmixed said → IsOpen said → IsUnmixed (applied said)
  IsUnmixed-applied unmixed opens p q after before e =
      let head : name p.0 ≡ name q.0 = cc in
      let tail : listed said p.1 ++ after ≡ listed said q.1 ++ before = cc in
      let cut = IsUnmixed-listed said unmixed opens p.1 q.1 after before tail in
      (cc (head, cut.0), cut.1)

names_unmixed : IsUnmixed (applied name_alone)
names_unmixed = IsUnmixed-applied name_alone IsUnmixed-name_alone IsOpen-name_alone

typed_unmixed : IsUnmixed (applied typed_name)
typed_unmixed = IsUnmixed-applied typed_name IsUnmixed-typed_name IsOpen-typed_name

pub no_pred_head : (all : List Word) → HasNone (applied name_alone) all → NoneFor Pred all
no_pred_head all none n sorts rule h = none (n, sorts) _ h

pub no_pred_rule : (all left : List Word) (p : Name × List Name) → all ≡ applied name_alone p ++ left → NoWhole rule_alone left → NoneFor Pred all
no_pred_rule all left p e none n sorts rule h = none rule ((names_unmixed p (n, sorts) left (rule_alone rule) (sym e ∙ h)).1)

pub no_clause_head : (all : List Word) → HasNone (applied typed_name) all → NoneFor Clause all
no_clause_head all none n vars literals some h = none (n, vars) _ h

pub no_clause_colon : (all left : List Word) (p : Name × List Typed) → all ≡ applied typed_name p ++ left → Lacks (sign Colon) left → NoneFor Clause all
no_clause_colon all left p e lacks n vars literals some h = lacks _ ((typed_unmixed p (n, vars) left (sign Colon ∷ alternatives literals) (sym e ∙ h)).1)

-- the literals of a clause end with the line
to_end : (literals : List LiteralForm) → 0 < length literals → IsJoined literal (text (codes "or")) (alternatives literals) literals []
to_end literals some = record { some = some; words_are = sym (append-nil (alternatives literals)); ended = λ later h. absurd (cc) }

behind_colon : (all left : List Word) (p : Name × List Typed) → all ≡ applied typed_name p ++ (sign Colon ∷ left) → (n : Name) (vars : List Typed) (literals : List LiteralForm) → all ≡ name n ∷ (listed typed_name vars ++ sign Colon ∷ alternatives literals) → left ≡ alternatives literals
behind_colon all left p e n vars literals h =
    let same = (typed_unmixed p (n, vars) (sign Colon ∷ left) (sign Colon ∷ alternatives literals) (sym e ∙ h)).1 in
    cc (same)

pub no_clause_literals : (all left : List Word) (p : Name × List Typed) → all ≡ applied typed_name p ++ (sign Colon ∷ left) → ((ls : List LiteralForm) (rest : List Word) → IsJoined literal (text (codes "or")) left ls rest → ⊥) → NoneFor Clause all
no_clause_literals all left p e none n vars literals some h =
    let P : List Word → Type 0 = λ ws. IsJoined literal (text (codes "or")) ws literals [] in
    none literals [] (subst P (sym (behind_colon all left p e n vars literals h)) (to_end literals some))

pub no_clause_end : (all left : List Word) (p : Name × List Typed) → all ≡ applied typed_name p ++ (sign Colon ∷ left) → (ls : List LiteralForm) (rest : List Word) → IsJoined literal (text (codes "or")) left ls rest → (rest ≡ [] → ⊥) → NoneFor Clause all
no_clause_end all left p e ls rest joined more n vars literals some h =
    let P : List Word → Type 0 = λ ws. IsJoined literal (text (codes "or")) ws literals [] in
    let other = subst P (sym (behind_colon all left p e n vars literals h)) (to_end literals some) in
    more ((joined_once literal (text (codes "or")) IsUnmixed-literal ls literals left rest [] joined other).1)

pub no_bound_head : (all left : List Word) (m : Name) → all ≡ name m ∷ left → HasNone (applied name_alone) left → NoneFor Bound all
no_bound_head all left m e none n p vars counted most pick h = none (p, vars) (limit (counted, most, pick)) (cc)

pub no_bound_limit : (all left rest : List Word) (m : Name) (q : Name × List Name) → all ≡ name m ∷ left → left ≡ applied name_alone q ++ rest → NoWhole limit rest → NoneFor Bound all
no_bound_limit all left rest m q e f none n p vars counted most pick h =
    let tail : left ≡ applied name_alone (p, vars) ++ limit (counted, most, pick) = cc in
    none (counted, most, pick) ((names_unmixed q (p, vars) rest (limit (counted, most, pick)) (sym f ∙ tail)).1)

-- behind these names stands something that is no name
pub no_names : (xs : List Name) (all left : List Word) → all ≡ map name xs ++ left → (left ≡ [] → ⊥) → HasNone name_alone left → (ns : List Name) → all ≡ map name ns → ⊥
no_names [] all left e more none [] h = more (sym e ∙ h)
no_names [] all left e more none (n ∷ ns) h = none n (map name ns) (sym e ∙ h)
no_names (x ∷ xs) all left e more none [] h = cc
no_names (x ∷ xs) all left e more none (n ∷ ns) h = no_names xs (map name xs ++ left) left refl more none ns (cc)
