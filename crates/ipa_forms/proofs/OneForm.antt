-- The words of a form determine it.
use Rattle.std.proofs.Common.{◌≡◌, drop, List, [], ◌∷◌, ◌++◌, Option, None, Some, map, refl, sym, ap, ◌∙◌, append_assoc, codes}
use Rattle.std.proofs.lemmas.Bool.{false≢true}
use Rattle.std.specs.Str.{bytes_eq}
use Rattle.std.specs.List.{flat_map, join_by}
use Rattle.ipa_spec.specs.NameLaws.{one_name}
use Rattle.ipa_spec.specs.declared.names.Name.{Name}
use Rattle.ipa_spec.specs.declared.predicates.Rule.{Rule}
use Rattle.ipa_spec.specs.declared.predicates.Rule.TheVariants.{AddWins, RemoveWins}
use Rattle.ipa_spec.specs.declared.bounds.Pick.{Pick}
use Rattle.ipa_spec.specs.declared.bounds.Pick.TheVariants.{Greatest, Youngest}
use Rattle.ipa_text.specs.declared.tokens.TokenKind.TheVariants.{Close, Colon, Comma}
use Rattle.ipa_forms.specs.Words.{Word, text, number, sign}
use Rattle.ipa_forms.specs.Forms.{name, name_alone, place, typed_name, listed, atom, literal, alternatives, rule_word, pick_words, words_of}
use Rattle.ipa_forms.specs.Parts.{IsOpen, IsUnmixed}
use Rattle.ipa_forms.specs.Lines.{keyword_text}
use Rattle.ipa_forms.specs.ListingLaws.{same_inside}
use Rattle.ipa_forms.specs.MemberLaws.{not_name, IsOpen-literal, IsOpen-name_alone, IsOpen-place, IsOpen-typed_name, IsUnmixed-literal, IsUnmixed-name_alone, IsUnmixed-place, IsUnmixed-typed_name}
use Rattle.ipa_forms.specs.declared.forms.Typed.{Typed}
use Rattle.ipa_forms.specs.declared.forms.AtomForm.{AtomForm}
use Rattle.ipa_forms.specs.declared.forms.LiteralForm.TheVariants.{Holds, Fails, Same, Differ}
use Rattle.ipa_forms.specs.declared.forms.Form.{Form}
use Rattle.ipa_forms.specs.declared.forms.Form.TheVariants.{Sort, Const, Pred, Clause, Op, Need, Add, Del, Bound, Drops, Elem, Base, Replicas, Session, Do, Show}
use Rattle.ipa_forms.specs.declared.keywords.Keyword.{Keyword}
use Rattle.ipa_forms.specs.declared.keywords.Keyword.TheVariants as keys
use Rattle.ipa_forms.proofs.FormLemmas.{same_keyword}

pub same_name : (n m : Name) → name n ≡ name m → n ≡ m
same_name n m e = one_name n m (cc)

-- the words of a part determine it
abbrev pub Determines : {A : Type 0} → (A → List Word) → Type 0
Determines {A} said = (x y : A) → said x ≡ said y → x ≡ y

module _ {A : Type 0} (said : A → List Word) (between : Word) where
  same_later : IsUnmixed said → Determines said → (xs ys : List A) → flat_map (λ x. (between ∷ []) ++ said x) xs ≡ flat_map (λ x. (between ∷ []) ++ said x) ys → xs ≡ ys
  same_later unmixed determines [] [] e = refl
  same_later unmixed determines [] (y ∷ ys) e = absurd (cc)
  same_later unmixed determines (x ∷ xs) [] e = absurd (cc)
  same_later unmixed determines (x ∷ xs) (y ∷ ys) e =
      let tail : said x ++ flat_map (λ z. (between ∷ []) ++ said z) xs ≡ said y ++ flat_map (λ z. (between ∷ []) ++ said z) ys = cc in
      let cut = unmixed x y _ _ tail in
      let head = determines x y cut.0 in
      let later = same_later unmixed determines xs ys cut.1 in
      cc

  no_empty : IsOpen said → (x : A) (after : List Word) → [] ≡ said x ++ after → ⊥
  no_empty opens x after e =
      opens x (after ++ sign Close ∷ []) [] (sym (append_assoc (said x) after (sign Close ∷ [])) ∙ ap (λ t. t ++ sign Close ∷ []) (sym e))

  pub same_joined : IsUnmixed said → IsOpen said → Determines said → (xs ys : List A) → join_by said (between ∷ []) xs ≡ join_by said (between ∷ []) ys → xs ≡ ys
  same_joined unmixed opens determines [] [] e = refl
  same_joined unmixed opens determines [] (y ∷ ys) e = absurd (no_empty opens y _ e)
  same_joined unmixed opens determines (x ∷ xs) [] e = absurd (no_empty opens x _ (sym e))
  same_joined unmixed opens determines (x ∷ xs) (y ∷ ys) e =
      let cut = unmixed x y (flat_map (λ z. (between ∷ []) ++ said z) xs) (flat_map (λ z. (between ∷ []) ++ said z) ys) e in
      let head = determines x y cut.0 in
      let later = same_later unmixed determines xs ys cut.1 in
      cc

module _ {A : Type 0} (said : A → List Word) where
  pub same_listed : IsUnmixed said → IsOpen said → Determines said → (xs ys : List A) (after before : List Word) → listed said xs ++ after ≡ listed said ys ++ before → (xs ≡ ys) × (after ≡ before)
  same_listed unmixed opens determines xs ys after before e =
      let tail : (join_by said (sign Comma ∷ []) xs ++ sign Close ∷ []) ++ after ≡ (join_by said (sign Comma ∷ []) ys ++ sign Close ∷ []) ++ before = cc in
      let same = same_inside said unmixed opens xs ys after before (sym (append_assoc (join_by said (sign Comma ∷ []) xs) (sign Close ∷ []) after) ∙ tail ∙ append_assoc (join_by said (sign Comma ∷ []) ys) (sign Close ∷ []) before) in
      (same_joined said (sign Comma) unmixed opens determines xs ys same.0, same.1)

same_alone : Determines name_alone
same_alone x y e = same_name x y (cc)

same_place : Determines place
same_place None None e = refl
same_place None (Some y) e = absurd (cc)
same_place (Some x) None e = absurd (cc)
same_place (Some x) (Some y) e = ap Some (same_name x y (cc))

same_typed : Determines typed_name
same_typed x y e =
    let names = same_name x.name y.name (cc) in
    let sorts = same_name x.sort y.sort (cc) in
    λ i. record { name = names i; sort = sorts i }

names_same : (xs ys : List Name) (after before : List Word) → listed name_alone xs ++ after ≡ listed name_alone ys ++ before → (xs ≡ ys) × (after ≡ before)
names_same = same_listed name_alone IsUnmixed-name_alone IsOpen-name_alone same_alone

places_same : (xs ys : List (Option Name)) (after before : List Word) → listed place xs ++ after ≡ listed place ys ++ before → (xs ≡ ys) × (after ≡ before)
places_same = same_listed place IsUnmixed-place IsOpen-place same_place

typed_same : (xs ys : List Typed) (after before : List Word) → listed typed_name xs ++ after ≡ listed typed_name ys ++ before → (xs ≡ ys) × (after ≡ before)
typed_same = same_listed typed_name IsUnmixed-typed_name IsOpen-typed_name same_typed

same_atom : (a b : AtomForm) → atom a ≡ atom b → a ≡ b
same_atom a b e =
    let predicates = same_name a.predicate b.predicate (cc) in
    let tail : listed name_alone a.args ≡ listed name_alone b.args = cc in
    let args = (names_same a.args b.args [] [] (ap (λ t. t ++ []) tail)).0 in
    λ i. record { predicate = predicates i; args = args i }

same_literal : Determines literal
same_literal (Holds a) (Holds b) e = ap Holds (same_atom a b e)
same_literal (Holds a) (Fails b) e = absurd (not_name a.predicate (cc))
same_literal (Holds a) (Same y z) e = absurd (cc)
same_literal (Holds a) (Differ y z) e = absurd (cc)
same_literal (Fails a) (Holds b) e = absurd (not_name b.predicate (cc))
same_literal (Fails a) (Fails b) e = ap Fails (same_atom a b (cc))
same_literal (Fails a) (Same y z) e = absurd (not_name y (cc))
same_literal (Fails a) (Differ y z) e = absurd (not_name y (cc))
same_literal (Same x w) (Holds b) e = absurd (cc)
same_literal (Same x w) (Fails b) e = absurd (not_name x (cc))
same_literal (Same x w) (Same y z) e = let a = same_name x y (cc) in let b = same_name w z (cc) in cc
same_literal (Same x w) (Differ y z) e = absurd (cc)
same_literal (Differ x w) (Holds b) e = absurd (cc)
same_literal (Differ x w) (Fails b) e = absurd (not_name x (cc))
same_literal (Differ x w) (Same y z) e = absurd (cc)
same_literal (Differ x w) (Differ y z) e = let a = same_name x y (cc) in let b = same_name w z (cc) in cc

addwins≢remwins : codes "addwins" ≡ codes "remwins" → ⊥
addwins≢remwins e = false≢true (ap (λ bytes. bytes_eq bytes (codes "addwins")) (sym e))

same_rule : (r s : Rule) → rule_word r ≡ rule_word s → r ≡ s
same_rule AddWins AddWins e = refl
same_rule AddWins RemoveWins e = absurd (addwins≢remwins (cc))
same_rule RemoveWins AddWins e = absurd (addwins≢remwins (sym (cc)))
same_rule RemoveWins RemoveWins e = refl

same_pick : (p q : Pick) → pick_words p ≡ pick_words q → p ≡ q
same_pick Greatest Greatest e = refl
same_pick Greatest Youngest e = absurd (cc)
same_pick Youngest Greatest e = absurd (cc)
same_pick Youngest Youngest e = refl

same_names : (xs ys : List Name) → map name xs ≡ map name ys → xs ≡ ys
same_names [] [] e = refl
same_names [] (y ∷ ys) e = absurd (cc)
same_names (x ∷ xs) [] e = absurd (cc)
same_names (x ∷ xs) (y ∷ ys) e =
    let head = same_name x y (cc) in
    let later = same_names xs ys (cc) in
    cc

-- the keyword of a form
abbrev key : Form → Keyword
key (Sort n) = keys.Sort
key (Const c) = keys.Const
key (Pred n sorts rule) = keys.Pred
key (Clause n vars literals) = keys.Clause
key (Op n params) = keys.Op
key (Need l) = keys.Need
key (Add p args) = keys.Add
key (Del p args) = keys.Del
key (Bound n p vars counted most pick) = keys.Bound
key (Drops p args) = keys.Drops
key (Elem sort elements) = keys.Elem
key (Base p elements) = keys.Base
key (Replicas k) = keys.Replicas
key (Session k) = keys.Session
key (Do operation elements) = keys.Do
key (Show p places) = keys.Show

-- what stands behind the keyword
abbrev behind : Form → List Word
behind f = drop 1 (words_of f)

keyed : (f : Form) → words_of f ≡ text (keyword_text (key f)) ∷ behind f
keyed (Sort n) = refl
keyed (Const c) = refl
keyed (Pred n sorts rule) = refl
keyed (Clause n vars literals) = refl
keyed (Op n params) = refl
keyed (Need l) = refl
keyed (Add p args) = refl
keyed (Del p args) = refl
keyed (Bound n p vars counted most pick) = refl
keyed (Drops p args) = refl
keyed (Elem sort elements) = refl
keyed (Base p elements) = refl
keyed (Replicas k) = refl
keyed (Session k) = refl
keyed (Do operation elements) = refl
keyed (Show p places) = refl

same_key : (f g : Form) → words_of f ≡ words_of g → key f ≡ key g
same_key f g e =
    let whole = sym (keyed f) ∙ e ∙ keyed g in
    same_keyword (key f) (key g) (cc)

-- a name, and parts in parentheses
same_applied : {A : Type 0} (said : A → List Word) → IsUnmixed said → IsOpen said → Determines said → (n m : Name) (xs ys : List A) → name n ∷ listed said xs ≡ name m ∷ listed said ys → (n ≡ m) × (xs ≡ ys)
same_applied said unmixed opens determines n m xs ys e =
    let tail : listed said xs ≡ listed said ys = cc in
    (same_name n m (cc), (same_listed said unmixed opens determines xs ys [] [] (ap (λ t. t ++ []) tail)).0)

same_places : (n m : Name) (xs ys : List (Option Name)) → name n ∷ listed place xs ≡ name m ∷ listed place ys → (n ≡ m) × (xs ≡ ys)
same_places = same_applied place IsUnmixed-place IsOpen-place same_place

same_facts : (n m : Name) (xs ys : List Name) → name n ∷ listed name_alone xs ≡ name m ∷ listed name_alone ys → (n ≡ m) × (xs ≡ ys)
same_facts = same_applied name_alone IsUnmixed-name_alone IsOpen-name_alone same_alone

-- forms of one keyword, by what stands behind it
same_behind : (f g : Form) → key f ≡ key g → behind f ≡ behind g → f ≡ g
same_behind (Sort n) (Sort m) k e = ap Sort (same_name n m (cc))
same_behind (Sort n) _ k e = absurd (cc)
same_behind (Const v) (Const w) k e = ap Const (same_typed v w e)
same_behind (Const v) _ k e = absurd (cc)
same_behind (Pred n sorts rule) (Pred m others other) k e =
    let tail : listed name_alone sorts ++ rule_word rule ∷ [] ≡ listed name_alone others ++ rule_word other ∷ [] = cc in
    let cut = names_same sorts others (rule_word rule ∷ []) (rule_word other ∷ []) tail in
    let names = same_name n m (cc) in
    let lists = cut.0 in
    let rules = same_rule rule other (cc (cut.1)) in
    cc
same_behind (Pred n sorts rule) _ k e = absurd (cc)
same_behind (Clause n vars ls) (Clause m others ks) k e =
    let tail : listed typed_name vars ++ sign Colon ∷ alternatives ls ≡ listed typed_name others ++ sign Colon ∷ alternatives ks = cc in
    let cut = typed_same vars others (sign Colon ∷ alternatives ls) (sign Colon ∷ alternatives ks) tail in
    let names = same_name n m (cc) in
    let lists = cut.0 in
    let later : alternatives ls ≡ alternatives ks = cc (cut.1) in
    let literals = same_joined literal (text (codes "or")) IsUnmixed-literal IsOpen-literal same_literal ls ks later in
    cc
same_behind (Clause n vars ls) _ k e = absurd (cc)
same_behind (Op n params) (Op m others) k e =
    let same = same_applied typed_name IsUnmixed-typed_name IsOpen-typed_name same_typed n m params others e in
    cc (same.0, same.1)
same_behind (Op n params) _ k e = absurd (cc)
same_behind (Need l) (Need m) k e = ap Need (same_literal l m e)
same_behind (Need l) _ k e = absurd (cc)
same_behind (Add p args) (Add q others) k e = let same = same_places p q args others e in cc (same.0, same.1)
same_behind (Add p args) _ k e = absurd (cc)
same_behind (Del p args) (Del q others) k e = let same = same_places p q args others e in cc (same.0, same.1)
same_behind (Del p args) _ k e = absurd (cc)
same_behind (Bound n p vars counted most pick) (Bound m q others other limit picked) k e =
    let tail : listed name_alone vars ++ text (codes "counts") ∷ name counted ∷ text (codes "most") ∷ number most ∷ pick_words pick ≡ listed name_alone others ++ text (codes "counts") ∷ name other ∷ text (codes "most") ∷ number limit ∷ pick_words picked = cc in
    let cut = names_same vars others (text (codes "counts") ∷ name counted ∷ text (codes "most") ∷ number most ∷ pick_words pick) (text (codes "counts") ∷ name other ∷ text (codes "most") ∷ number limit ∷ pick_words picked) tail in
    let names = same_name n m (cc) in
    let predicates = same_name p q (cc) in
    let lists = cut.0 in
    let later = cut.1 in
    let counts = same_name counted other (cc) in
    let limits : most ≡ limit = cc in
    let picks = same_pick pick picked (cc (later)) in
    cc
same_behind (Bound n p vars counted most pick) _ k e = absurd (cc)
same_behind (Drops p args) (Drops q others) k e = let same = same_places p q args others e in cc (same.0, same.1)
same_behind (Drops p args) _ k e = absurd (cc)
same_behind (Elem n elements) (Elem m others) k e =
    let sorts = same_name n m (cc) in
    let lists = same_names elements others (cc) in
    cc
same_behind (Elem n elements) _ k e = absurd (cc)
same_behind (Base p elements) (Base q others) k e = let same = same_facts p q elements others e in cc (same.0, same.1)
same_behind (Base p elements) _ k e = absurd (cc)
same_behind (Replicas n) (Replicas m) k e = cc
same_behind (Replicas n) _ k e = absurd (cc)
same_behind (Session n) (Session m) k e = cc
same_behind (Session n) _ k e = absurd (cc)
same_behind (Do p elements) (Do q others) k e = let same = same_facts p q elements others e in cc (same.0, same.1)
same_behind (Do p elements) _ k e = absurd (cc)
same_behind (Show p ps) (Show q others) k e = let same = same_places p q ps others e in cc (same.0, same.1)
same_behind (Show p ps) _ k e = absurd (cc)

-- the words of a form determine it
pub same_form : (f g : Form) → words_of f ≡ words_of g → f ≡ g
same_form f g e = same_behind f g (same_key f g e) (ap (drop 1) e)
