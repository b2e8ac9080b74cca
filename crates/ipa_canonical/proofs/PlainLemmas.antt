-- A canonical line is no existential clause, since no name is `exists`.
--
--   says_exists   whether a word is `exists`
--   plain         no words of a form begin with `clause` and say `exists` behind it
use Rattle.std.proofs.Common.{◌≡◌, ℕ, Bool, true, false, List, [], ◌∷◌, ◌++◌, take, refl, sym, subst, ◌∙◌, codes}
use Rattle.std.specs.List.{flat_map, join_by, list_any}
use Rattle.std.specs.Str.{bytes_eq}
use Rattle.std.proofs.lemmas.Bool.{or_from, false≢true}
use Rattle.std.proofs.lemmas.List.Folds.{list_any-append}
use Rattle.std.proofs.lemmas.Slice.Eq.{bytes_eq-Decides}
use Rattle.ipa_spec.specs.Names.{is_name}
use Rattle.ipa_spec.specs.declared.names.Name.{Name}
use Rattle.ipa_text.specs.declared.tokens.TokenKind.TheVariants.{Close, Comma}
use Rattle.ipa_forms.specs.Words.{Word, text, sign}
use Rattle.ipa_forms.specs.Forms.{name, name_alone, typed_name, listed, atom, literal, words_of, is_text, says_exists}
use Rattle.ipa_forms.specs.declared.forms.Typed.{Typed}
use Rattle.ipa_forms.specs.declared.forms.AtomForm.{AtomForm}
use Rattle.ipa_forms.specs.declared.forms.LiteralForm.{LiteralForm}
use Rattle.ipa_forms.specs.declared.forms.LiteralForm.TheVariants.{Holds, Fails, Same, Differ}
use Rattle.ipa_forms.specs.declared.forms.Form.{Form}
use Rattle.ipa_forms.specs.declared.forms.Form.TheVariants.{Sort, Const, Pred, Clause, Op, Need, Add, Del, Bound, Drops, Elem, Base, Replicas, Session, Do, Show}

abbrev some_exists : List Word → Bool
some_exists ws = list_any (is_text (codes "exists")) ws

none_true : (b : Bool) → (b ≡ true → ⊥) → b ≡ false
none_true false h = refl
none_true true h = absurd (h refl)

no_name : is_name (codes "exists") ≡ false
unfolding is_name
no_name = refl

-- `exists` is no name
name_plain : (n : Name) → is_text (codes "exists") (name n) ≡ false
name_plain n = none_true (bytes_eq (take n.len n.bytes) (codes "exists")) (λ e.
    let same = (bytes_eq-Decides (take n.len n.bytes) (codes "exists")).0 e in
    let P : List ℕ → Type 0 = λ bytes. is_name bytes ≡ true in
    false≢true (sym no_name ∙ subst P same n.named))

both : (xs ys : List Word) → some_exists xs ≡ false → some_exists ys ≡ false → some_exists (xs ++ ys) ≡ false
both xs ys h k = list_any-append (is_text (codes "exists")) xs ys ∙ or_from _ _ h k

module _ {A : Type 0} (said : A → List Word) (each : (x : A) → some_exists (said x) ≡ false) where
  led_plain : (between : Word) → is_text (codes "exists") between ≡ false → (xs : List A) → some_exists (flat_map (λ x. (between ∷ []) ++ said x) xs) ≡ false
  led_plain between h [] = refl
  led_plain between h (x ∷ xs) = both (between ∷ said x) _ (or_from _ _ h (each x)) (led_plain between h xs)

  joined_plain : (between : Word) → is_text (codes "exists") between ≡ false → (xs : List A) → some_exists (join_by said (between ∷ []) xs) ≡ false
  joined_plain between h [] = refl
  joined_plain between h (x ∷ xs) = both (said x) _ (each x) (led_plain between h xs)

  listed_plain : (xs : List A) → some_exists (listed said xs) ≡ false
  listed_plain xs = both (join_by said (sign Comma ∷ []) xs) (sign Close ∷ []) (joined_plain (sign Comma) refl xs) refl

names_plain : (n : Name) → some_exists (name_alone n) ≡ false
names_plain n = or_from _ _ (name_plain n) refl

typed_plain : (v : Typed) → some_exists (typed_name v) ≡ false
typed_plain v = or_from _ _ (name_plain v.name) (or_from _ _ (name_plain v.sort) refl)

atom_plain : (a : AtomForm) → some_exists (atom a) ≡ false
atom_plain a = or_from _ _ (name_plain a.predicate) (listed_plain name_alone names_plain a.args)

literal_plain : (l : LiteralForm) → some_exists (literal l) ≡ false
literal_plain (Holds a) = atom_plain a
literal_plain (Fails a) = atom_plain a
literal_plain (Same x y) = or_from _ _ (name_plain x) (or_from _ _ (name_plain y) refl)
literal_plain (Differ x y) = or_from _ _ (name_plain x) (or_from _ _ (name_plain y) refl)

pub plain : (f : Form) → says_exists (words_of f) ≡ false
plain (Sort n) = refl
plain (Const c) = refl
plain (Pred n sorts rule) = refl
plain (Clause n vars ls) =
    or_from _ _ (name_plain n) (both (listed typed_name vars) _ (listed_plain typed_name typed_plain vars) (joined_plain literal literal_plain (text (codes "or")) refl ls))
plain (Op n params) = refl
plain (Need l) = refl
plain (Add p args) = refl
plain (Del p args) = refl
plain (Bound n p vars counted most pick) = refl
plain (Drops p args) = refl
plain (Elem sort elements) = refl
plain (Base p elements) = refl
plain (Replicas k) = refl
plain (Session k) = refl
plain (Do operation elements) = refl
plain (Show p places) = refl
