-- The canonical line of a form is cut into the words of the form.
--
--   said s                   the word that is spelled so
--   Reads after_run ws text  the text is written of readable spellings of these words, where a run may stand before it
--   Prints said shown        what is printed of a part reads as the part's words
use Rattle.std.proofs.Common.{◌≡◌, ℕ, suc, ◌<◌, ◌^◌, Bool, true, false, cond, List, [], ◌∷◌, ◌++◌, Option, None, Some, length, map, replicate, codes, IsTrue, refl, sym, subst, ap, ◌∙◌, append_assoc, append-nil, arith}
use Rattle.std.proofs.lemmas.Bool.{and_from, and_parts, false≢true}
use Rattle.std.specs.List.{flat_map, join_by}
use Rattle.std.specs.Fmt.{decimal}
use Rattle.std.specs.Str.Parse.{digits_value}
use Rattle.ipa_spec.specs.Names.{is_name, begins_with_letter}
use Rattle.ipa_spec.specs.declared.names.Name.{Name}
use Rattle.ipa_spec.specs.declared.predicates.Rule.{Rule}
use Rattle.ipa_spec.specs.declared.predicates.Rule.TheVariants.{AddWins, RemoveWins}
use Rattle.ipa_spec.specs.declared.bounds.Pick.{Pick}
use Rattle.ipa_spec.specs.declared.bounds.Pick.TheVariants.{Greatest, Youngest}
use Rattle.ipa_text.specs.Tokens.{is_run, text_of, IsCutInto, IsOfKind}
use Rattle.ipa_text.specs.Words.{is_word, is_number, number_of, starts_with_letter}
use Rattle.ipa_text.specs.Spellings.{Spelling, bytes_of, tokens_from, AreReadableAfter}
use Rattle.ipa_text.specs.declared.tokens.Token.{Token}
use Rattle.ipa_text.specs.declared.tokens.TokenKind.{TokenKind}
use Rattle.ipa_text.specs.declared.tokens.TokenKind.TheVariants as kinds
use Rattle.ipa_forms.specs.Words.{Word, text, number, sign, word_of}
use Rattle.ipa_forms.specs.Forms.{name, name_alone, place, typed_name, listed, literal, alternatives, rule_word, pick_words, words_of, HasForm, HasMembers}
use Rattle.ipa_forms.specs.Layout.{name_text, place_text, typed_text, listed_text, applied_text, literal_text, rule_text, pick_text, line_of, HasNumbers}
use Rattle.ipa_forms.specs.declared.forms.Typed.{Typed}
use Rattle.ipa_forms.specs.declared.forms.LiteralForm.{LiteralForm}
use Rattle.ipa_forms.specs.declared.forms.LiteralForm.TheVariants.{Holds, Fails, Same, Differ}
use Rattle.ipa_forms.specs.declared.forms.Form.{Form}
use Rattle.ipa_forms.specs.declared.forms.Form.TheVariants.{Sort, Const, Pred, Clause, Op, Need, Add, Del, Bound, Drops, Elem, Base, Replicas, Session, Do, Show}

abbrev pub said : Spelling → Word
said s = word_of s.kind s.text

pub record Reads (after_run : Bool) (ws : List Word) (shown : List ℕ) : Type 0 where
  pub spellings : List Spelling
  pub readable : AreReadableAfter after_run spellings
  pub words_are : map said spellings ≡ ws
  pub text_is : bytes_of spellings ≡ shown

at_end : (b : Bool) → Reads b [] []
at_end b = record { spellings = []; readable = tt; words_are = refl; text_is = refl }

weaker : (ws : List Word) (t : List ℕ) → Reads true ws t → Reads false ws t
weaker ws t r = record { spellings = r.spellings; readable = go r.spellings r.readable; words_are = r.words_are; text_is = r.text_is }
  where
    go : (ss : List Spelling) → AreReadableAfter true ss → AreReadableAfter false ss
    go [] h = tt
    go (s ∷ ss) h = (h.0, λ after run. absurd (false≢true after), h.2)

-- a token with some spaces before it
token : (b : Bool) (gap : ℕ) (kind : TokenKind) (bytes : List ℕ) (ws : List Word) (t : List ℕ) → IsOfKind kind bytes → (IsTrue b → IsTrue (is_run kind) → 0 < gap) → Reads (is_run kind) ws t → Reads b (word_of kind bytes ∷ ws) (replicate gap 32 ++ (bytes ++ t))
token b gap kind bytes ws t of_kind apart r = record {
  spellings = record { kind = kind; text = bytes; gap = gap } ∷ r.spellings;
  readable = (of_kind, apart, r.readable);
  words_are = ap (λ later. word_of kind bytes ∷ later) r.words_are;
  text_is = ap (λ later. replicate gap 32 ++ (bytes ++ later)) r.text_is;
}

-- one more space before it
spaced : (b : Bool) (ws : List Word) (t : List ℕ) → 0 < length ws → Reads false ws t → Reads b ws (32 ∷ t)
spaced b ws t some r = go r.spellings r.readable r.words_are r.text_is
  where
    go : (ss : List Spelling) → AreReadableAfter false ss → map said ss ≡ ws → bytes_of ss ≡ t → Reads b ws (32 ∷ t)
    go [] readable words_are text_is = absurd (omega (arith, ap length words_are))
    go (s ∷ ss) readable words_are text_is = record {
      spellings = record { kind = s.kind; text = s.text; gap = suc s.gap } ∷ ss;
      readable = (readable.0, λ after run. omega arith, readable.2);
      words_are = words_are;
      text_is = ap (λ later. 32 ∷ later) text_is;
    }

moved : (b : Bool) (ws vs : List Word) (t u : List ℕ) → ws ≡ vs → t ≡ u → Reads b vs u → Reads b ws t
moved b ws vs t u w e r = record { spellings = r.spellings; readable = r.readable; words_are = r.words_are ∙ sym w; text_is = r.text_is ∙ sym e }

starts_with_letter-name : (bytes : List ℕ) → starts_with_letter bytes ≡ begins_with_letter bytes
starts_with_letter-name [] = refl
starts_with_letter-name (b ∷ bytes) = refl

is_word-from : (bytes : List ℕ) → is_name bytes ≡ true → is_word bytes ≡ true
unfolding is_name
is_word-from bytes h =
    let named = and_parts _ _ ((and_parts _ _ h).0) in
    let letters = and_parts _ _ named.0 in
    and_from _ _ (and_from _ _ (starts_with_letter-name bytes ∙ letters.0) named.1) letters.1

-- a word directly behind what is no run
word_front : (bytes : List ℕ) (ws : List Word) (t : List ℕ) → is_word bytes ≡ true → Reads true ws t → Reads false (text bytes ∷ ws) (bytes ++ t)
word_front bytes ws t h r = token false 0 kinds.Word bytes ws t h (λ after run. absurd (false≢true after)) r

name_front : (n : Name) (ws : List Word) (t : List ℕ) → Reads true ws t → Reads false (name n ∷ ws) (name_text n ++ t)
name_front n ws t r = word_front (name_text n) ws t (is_word-from (name_text n) n.named) r

sign_front : (b : Bool) (kind : TokenKind) (bytes : List ℕ) (ws : List Word) (t : List ℕ) → is_run kind ≡ false → IsOfKind kind bytes → Reads false ws t → Reads b (word_of kind bytes ∷ ws) (bytes ++ t)
sign_front b kind bytes ws t mark of_kind r =
    let P : Bool → Type 0 = λ c. Reads c ws t in
    token b 0 kind bytes ws t of_kind (λ after run. absurd (false≢true (sym mark ∙ run))) (subst P (sym mark) r)

number_parts : (digits : List ℕ) (n : ℕ) → number_of digits ≡ Some n → (is_number digits ≡ true) × (digits_value 10 digits ≡ n)
number_parts digits n e = go (is_number digits) refl e
  where
    go : (b : Bool) → is_number digits ≡ b → cond b (Some (digits_value 10 digits)) None ≡ Some n → (is_number digits ≡ true) × (digits_value 10 digits ≡ n)
    go true is same = (is, cc)
    go false is same = cc

-- what is printed of each number below 2 ^ 32 is read as that number
abbrev pub IsPrinted : Type 0
IsPrinted = (n : ℕ) → n < 2 ^ 32 → number_of (decimal n) ≡ Some n

number_front : IsPrinted → (n : ℕ) → n < 2 ^ 32 → (ws : List Word) (t : List ℕ) → Reads true ws t → Reads false (number n ∷ ws) (decimal n ++ t)
number_front printed n h ws t r =
    let parts = number_parts (decimal n) n (printed n h) in
    let all = token false 0 kinds.Number (decimal n) ws t parts.0 (λ after run. absurd (false≢true after)) r in
    moved false (number n ∷ ws) (number (digits_value 10 (decimal n)) ∷ ws) (decimal n ++ t) (decimal n ++ t) (ap (λ k. number k ∷ ws) (sym parts.1)) refl all

-- where a part may end with a run
abbrev pub Prints : {A : Type 0} → (A → List Word) → (A → List ℕ) → Type 0
Prints {A} said shown = (x : A) (ws : List Word) (t : List ℕ) → Reads true ws t → Reads false (said x ++ ws) (shown x ++ t)

Prints-name : Prints name_alone name_text
Prints-name n ws t r = name_front n ws t r

Prints-place : Prints place place_text
Prints-place None ws t r = sign_front false kinds.Star (codes "*") ws t refl refl (weaker ws t r)
Prints-place (Some n) ws t r = name_front n ws t r

Prints-typed : Prints typed_name typed_text
Prints-typed v ws t r =
    let sort = name_front v.sort ws t r in
    let colon = sign_front true kinds.Colon (codes ":") _ _ refl refl sort in
    let all = name_front v.name _ _ colon in
    moved false _ _ (typed_text v ++ t) (name_text v.name ++ (58 ∷ (name_text v.sort ++ t))) refl (simp append_assoc) all

-- a separator, written so, may stand behind each part and before each
abbrev Separates : Word → List ℕ → Type 0
Separates between shown = (ws : List Word) (t : List ℕ) → 0 < length ws → Reads false ws t → Reads true (between ∷ ws) (shown ++ t)

Separates-comma : Separates (sign kinds.Comma) (codes ",")
Separates-comma ws t some r = sign_front true kinds.Comma (codes ",") ws t refl refl r

Separates-or : Separates (text (codes "or")) (codes " or ")
Separates-or ws t some r = spaced true _ _ (omega arith) (word_front (codes "or") ws (32 ∷ t) refl (spaced true ws t some r))

-- a part has a word
abbrev HasWord : {A : Type 0} → (A → List Word) → Type 0
HasWord {A} said = (x : A) (ws : List Word) → 0 < length (said x ++ ws)

HasWord-literal : HasWord literal
HasWord-literal (Holds a) ws = omega arith
HasWord-literal (Fails a) ws = omega arith
HasWord-literal (Same x y) ws = omega arith
HasWord-literal (Differ x y) ws = omega arith

HasWord-place : HasWord place
HasWord-place None ws = omega arith
HasWord-place (Some n) ws = omega arith

module _ {A : Type 0} (words : A → List Word) (shown : A → List ℕ) (prints : Prints words shown) (has_word : HasWord words) where
  reads_later : (between : Word) (gap : List ℕ) → Separates between gap → (xs : List A) (ws : List Word) (t : List ℕ) → Reads true ws t → Reads true (flat_map (λ x. (between ∷ []) ++ words x) xs ++ ws) (flat_map (λ x. gap ++ shown x) xs ++ t)
  reads_later between gap separates [] ws t r = r
  reads_later between gap separates (x ∷ xs) ws t r =
      let later = reads_later between gap separates xs ws t r in
      let all = separates _ _ (has_word x _) (prints x _ _ later) in
      moved true _ _ _ _ (simp append_assoc) (simp append_assoc) all

  reads_joined : (between : Word) (gap : List ℕ) → Separates between gap → (xs : List A) (ws : List Word) (t : List ℕ) → Reads true ws t → Reads false (join_by words (between ∷ []) xs ++ ws) (join_by shown gap xs ++ t)
  reads_joined between gap separates [] ws t r = weaker ws t r
  reads_joined between gap separates (x ∷ xs) ws t r =
      let later = reads_later between gap separates xs ws t r in
      moved false _ _ _ _ (append_assoc (words x) _ ws) (append_assoc (shown x) _ t) (prints x _ _ later)

  reads_listed : (b : Bool) (xs : List A) (ws : List Word) (t : List ℕ) → Reads false ws t → Reads b (listed words xs ++ ws) (listed_text shown xs ++ t)
  reads_listed b xs ws t r =
      let close = sign_front true kinds.Close (codes ")") ws t refl refl r in
      let inside = reads_joined (sign kinds.Comma) (codes ",") Separates-comma xs _ _ close in
      let all = sign_front b kinds.Open (codes "(") _ _ refl refl inside in
      moved b _ _ _ _ (ap (λ later. sign kinds.Open ∷ later) (append_assoc (join_by words (sign kinds.Comma ∷ []) xs) (sign kinds.Close ∷ []) ws)) (ap (λ later. 40 ∷ later) (append_assoc (join_by shown (codes ",") xs) (codes ")") t)) all

  reads_applied : (n : Name) (xs : List A) (ws : List Word) (t : List ℕ) → Reads false ws t → Reads false (name n ∷ (listed words xs ++ ws)) (applied_text shown n xs ++ t)
  reads_applied n xs ws t r =
      moved false _ _ _ _ refl (append_assoc (name_text n) (listed_text shown xs) t) (name_front n _ _ (reads_listed true xs ws t r))

HasWord-name : HasWord name_alone
HasWord-name n ws = omega arith

HasWord-typed : HasWord typed_name
HasWord-typed v ws = omega arith

names_applied : (n : Name) (xs : List Name) (ws : List Word) (t : List ℕ) → Reads false ws t → Reads false (name n ∷ (listed name_alone xs ++ ws)) (applied_text name_text n xs ++ t)
names_applied = reads_applied name_alone name_text Prints-name HasWord-name

typed_applied : (n : Name) (xs : List Typed) (ws : List Word) (t : List ℕ) → Reads false ws t → Reads false (name n ∷ (listed typed_name xs ++ ws)) (applied_text typed_text n xs ++ t)
typed_applied = reads_applied typed_name typed_text Prints-typed HasWord-typed

places_applied : (n : Name) (xs : List (Option Name)) (ws : List Word) (t : List ℕ) → Reads false ws t → Reads false (name n ∷ (listed place xs ++ ws)) (applied_text place_text n xs ++ t)
places_applied = reads_applied place place_text Prints-place HasWord-place

-- a name, a sign with spaces around it, and a name
reads_pair : (x y : Name) (kind : TokenKind) (bytes : List ℕ) (ws : List Word) (t : List ℕ) → is_run kind ≡ false → IsOfKind kind bytes → Reads true ws t → Reads false (name x ∷ word_of kind bytes ∷ name y ∷ ws) (name_text x ++ (32 ∷ (bytes ++ (32 ∷ (name_text y ++ t)))))
reads_pair x y kind bytes ws t mark of_kind r =
    let second = spaced false _ _ (omega arith) (name_front y ws t r) in
    let between = spaced true _ _ (omega arith) (sign_front false kind bytes _ _ mark of_kind second) in
    name_front x _ _ between

-- a word and a space before what follows
keyworded : (bytes : List ℕ) (ws : List Word) (t : List ℕ) → is_word bytes ≡ true → 0 < length ws → Reads false ws t → Reads false (text bytes ∷ ws) (bytes ++ (32 ∷ t))
keyworded bytes ws t is some r = word_front bytes ws (32 ∷ t) is (spaced true ws t some r)

Prints-literal : Prints literal literal_text
Prints-literal (Holds a) ws t r = names_applied a.predicate a.args ws t (weaker ws t r)
Prints-literal (Fails a) ws t r = keyworded (codes "not") _ _ refl (omega arith) (names_applied a.predicate a.args ws t (weaker ws t r))
Prints-literal (Same x y) ws t r =
    moved false _ _ _ _ refl (simp append_assoc) (reads_pair x y kinds.Equal (codes "=") ws t refl refl r)
Prints-literal (Differ x y) ws t r =
    moved false _ _ _ _ refl (simp append_assoc) (reads_pair x y kinds.Unequal (codes "!=") ws t refl refl r)

reads_elements : (ns : List Name) (ws : List Word) (t : List ℕ) → Reads true ws t → Reads true (map name ns ++ ws) (flat_map (λ n. codes " " ++ name_text n) ns ++ t)
reads_elements [] ws t r = r
reads_elements (n ∷ ns) ws t r =
    moved true _ _ _ _ refl (simp append_assoc) (spaced true _ _ (omega arith) (name_front n _ _ (reads_elements ns ws t r)))

-- at the end of the line
whole : (b : Bool) (ws : List Word) (t : List ℕ) → Reads b (ws ++ []) (t ++ []) → Reads b ws t
whole b ws t r = moved b ws (ws ++ []) t (t ++ []) (sym (append-nil ws)) (sym (append-nil t)) r

some_words : (ls : List LiteralForm) → 0 < length ls → 0 < length (alternatives ls)
some_words [] h = h
some_words (l ∷ ls) h = HasWord-literal l _

reads_rule : (rule : Rule) → Reads false (rule_word rule ∷ []) (rule_text rule)
reads_rule AddWins = word_front (codes "addwins") [] [] refl (at_end true)
reads_rule RemoveWins = word_front (codes "remwins") [] [] refl (at_end true)

reads_pick : (pick : Pick) → Reads true (pick_words pick) (pick_text pick)
reads_pick Greatest = at_end true
reads_pick Youngest = spaced true _ _ (omega arith) (word_front (codes "youngest") [] [] refl (at_end true))

-- a number at the end of the line
number_last : IsPrinted → (n : ℕ) → n < 2 ^ 32 → Reads false (number n ∷ []) (decimal n)
number_last printed n h = whole false (number n ∷ []) (decimal n) (number_front printed n h [] [] (at_end true))

call_of_names : (bytes : List ℕ) (n : Name) (xs : List Name) → is_word bytes ≡ true → Reads false (text bytes ∷ name n ∷ listed name_alone xs) (bytes ++ (32 ∷ applied_text name_text n xs))
call_of_names bytes n xs is =
    keyworded bytes _ _ is (omega arith) (whole false (name n ∷ listed name_alone xs) (applied_text name_text n xs) (names_applied n xs [] [] (at_end false)))

call_of_places : (bytes : List ℕ) (n : Name) (xs : List (Option Name)) → is_word bytes ≡ true → Reads false (text bytes ∷ name n ∷ listed place xs) (bytes ++ (32 ∷ applied_text place_text n xs))
call_of_places bytes n xs is =
    keyworded bytes _ _ is (omega arith) (whole false (name n ∷ listed place xs) (applied_text place_text n xs) (places_applied n xs [] [] (at_end false)))

regroup : (a b c d e f g h i : List ℕ) → (((((((a ++ b) ++ c) ++ d) ++ e) ++ f) ++ g) ++ h) ++ i ≡ a ++ (b ++ (c ++ (d ++ (e ++ (f ++ (g ++ (h ++ i)))))))
regroup a b c d e f g h i = simp append_assoc

a_word : (l : LiteralForm) → 0 < length (literal l)
a_word l = omega (arith, HasWord-literal l [], ap length (append-nil (literal l)))

-- the canonical line of a form is written of the form's words
pub reads_form : IsPrinted → (f : Form) → HasMembers f → HasNumbers f → Reads false (words_of f) (line_of f)
reads_form printed (Sort n) members numbers =
    keyworded (codes "sort") (name n ∷ []) (name_text n) refl (omega arith) (whole false (name n ∷ []) (name_text n) (name_front n [] [] (at_end true)))
reads_form printed (Const c) members numbers =
    let sort = whole false (name c.sort ∷ []) (name_text c.sort) (name_front c.sort [] [] (at_end true)) in
    let colon = sign_front true kinds.Colon (codes ":") _ _ refl refl (spaced false _ _ (omega arith) sort) in
    moved false _ _ _ _ refl (simp append_assoc) (keyworded (codes "const") _ _ refl (omega arith) (name_front c.name _ _ colon))
reads_form printed (Pred n sorts rule) members numbers =
    let end = spaced false (rule_word rule ∷ []) (rule_text rule) (omega arith) (reads_rule rule) in
    moved false _ _ _ _ refl (simp append_assoc) (keyworded (codes "pred") _ _ refl (omega arith) (names_applied n sorts _ _ end))
reads_form printed (Clause n vars ls) members numbers =
    let last = whole false (alternatives ls) (join_by literal_text (codes " or ") ls) (reads_joined literal literal_text Prints-literal HasWord-literal (text (codes "or")) (codes " or ") Separates-or ls [] [] (at_end true)) in
    let colon = sign_front false kinds.Colon (codes ":") _ _ refl refl (spaced false _ _ (some_words ls members) last) in
    moved false _ _ _ _ refl (simp append_assoc) (keyworded (codes "clause") _ _ refl (omega arith) (typed_applied n vars _ _ colon))
reads_form printed (Op n params) members numbers =
    keyworded (codes "op") _ _ refl (omega arith) (whole false (name n ∷ listed typed_name params) (applied_text typed_text n params) (typed_applied n params [] [] (at_end false)))
reads_form printed (Need l) members numbers =
    keyworded (codes "need") _ _ refl (a_word l) (whole false (literal l) (literal_text l) (Prints-literal l [] [] (at_end true)))
reads_form printed (Add p args) members numbers = call_of_places (codes "add") p args refl
reads_form printed (Del p args) members numbers = call_of_places (codes "del") p args refl
reads_form printed (Bound n p vars counted most pick) members numbers =
    let limit = keyworded (codes "most") _ _ refl (omega arith) (number_front printed most numbers _ _ (reads_pick pick)) in
    let counts = name_front counted _ _ (spaced true _ _ (omega arith) limit) in
    let end = spaced false _ _ (omega arith) (keyworded (codes "counts") _ _ refl (omega arith) counts) in
    let predicate = spaced true _ _ (omega arith) (names_applied p vars _ _ end) in
    let grouped = regroup (codes "bound ") (name_text n) (codes " ") (applied_text name_text p vars) (codes " counts ") (name_text counted) (codes " most ") (decimal most) (pick_text pick) in
    moved false _ _ _ _ refl grouped (keyworded (codes "bound") _ _ refl (omega arith) (name_front n _ _ predicate))
reads_form printed (Drops p args) members numbers = call_of_places (codes "drops") p args refl
reads_form printed (Elem n elements) members numbers =
    let end = whole true (map name elements) (flat_map (λ m. codes " " ++ name_text m) elements) (reads_elements elements [] [] (at_end true)) in
    keyworded (codes "elem") _ _ refl (omega arith) (name_front n _ _ end)
reads_form printed (Base p elements) members numbers = call_of_names (codes "base") p elements refl
reads_form printed (Replicas k) members numbers = keyworded (codes "replicas") _ _ refl (omega arith) (number_last printed k numbers)
reads_form printed (Session k) members numbers = keyworded (codes "session") _ _ refl (omega arith) (number_last printed k numbers)
reads_form printed (Do o elements) members numbers = call_of_names (codes "do") o elements refl
reads_form printed (Show p ps) members numbers = call_of_places (codes "show") p ps refl

-- the words of tokens whose kinds and bytes are those of the spellings
pub words_in-spelled : (line : List ℕ) (ts : List Token) (ss : List Spelling) → map (text_of line) ts ≡ map (λ s. s.text) ss → map (λ token. token.kind) ts ≡ map (λ s. s.kind) ss → map (λ token. word_of token.kind (text_of line token)) ts ≡ map said ss
words_in-spelled line [] [] texts kind = refl
words_in-spelled line [] (s ∷ ss) texts kind = absurd (cc)
words_in-spelled line (t ∷ ts) [] texts kind = absurd (cc)
words_in-spelled line (t ∷ ts) (s ∷ ss) texts kind =
    let head : text_of line t ≡ s.text = cc in
    let its : t.kind ≡ s.kind = cc in
    let later = words_in-spelled line ts ss (cc) (cc) in
    cc (ap (word_of t.kind) head, ap (λ k. word_of k s.text) its, later)

-- the line is cut into the words of the form
pub said_back : (f : Form) (r : Reads false (words_of f) (line_of f)) → HasMembers f →
    IsCutInto (bytes_of r.spellings) (tokens_from 0 r.spellings) →
    map (text_of (bytes_of r.spellings)) (tokens_from 0 r.spellings) ≡ map (λ s. s.text) r.spellings →
    map (λ token. token.kind) (tokens_from 0 r.spellings) ≡ map (λ s. s.kind) r.spellings →
    (ts : List Token) × IsCutInto (line_of f) ts × HasForm (line_of f) ts f
said_back f r members cut texts kind =
    let line = bytes_of r.spellings in
    let ts = tokens_from 0 r.spellings in
    let said_there : HasForm line ts f = record { words_are = words_in-spelled line ts r.spellings texts kind ∙ r.words_are; members = members } in
    let P : List ℕ → Type 0 = λ bytes. IsCutInto bytes ts × HasForm bytes ts f in
    let both = subst P r.text_is (cut, said_there) in
    (ts, both.0, both.1)
