-- The line of some pieces is cut into the words of their parts.
--
--   keyword_name k      the name that is written like the keyword
--   part_of p           the part that a piece is read as
--   HasNumber p         a number of the piece is below 2 ^ 32
--   spelled gap p       how a piece is spelled behind a gap
--   spelled_line ps     how a line of pieces is spelled
use Rattle.std.proofs.Common.{◌≡◌, ℕ, zero, suc, ◌+◌, ◌-◌, ◌<◌, ◌≤◌, ◌^◌, Bool, true, false, cond, List, [], ◌∷◌, ◌++◌, None, Some, length, map, replicate, codes, IsTrue, refl, sym, subst, ap, ◌∙◌, append_assoc, append-nil, arith}
use Rattle.std.specs.List.{flat_map, join_by, slice_index}
use Rattle.std.specs.Fmt.{decimal}
use Rattle.std.specs.Str.Parse.{digits_value}
use Rattle.std.proofs.lemmas.Bool.{and_from, and_parts, false≢true}
use Rattle.std.proofs.lemmas.List.{map-append, take_at, length-append, length-replicate, get_or-append-add}
use Rattle.ipa_spec.specs.Names.{is_name, begins_with_letter}
use Rattle.ipa_spec.specs.declared.names.Name.{Name}
use Rattle.ipa_text.specs.Tokens.{text_of, IsCutInto}
use Rattle.ipa_text.specs.Words.{is_word, is_number, number_of, starts_with_letter}
use Rattle.ipa_text.specs.Spellings.{Spelling, bytes_of, tokens_from, AreReadable, AreReadableAfter}
use Rattle.ipa_text.specs.declared.tokens.Token.{Token}
use Rattle.ipa_text.specs.declared.tokens.TokenKind.{TokenKind}
use Rattle.ipa_text.specs.declared.tokens.TokenKind.TheVariants as kinds
use Rattle.ipa_forms.specs.Words.{text, number, sign, word_of, words_in}
use Rattle.ipa_forms.specs.Words.{Word as LineWord}
use Rattle.ipa_forms.specs.Forms.{name, name_alone}
use Rattle.ipa_forms.specs.Layout.{name_text}
use Rattle.ipa_journal.specs.Pieces.{keyword_text, piece_text, gap_text, line_text}
use Rattle.ipa_journal.specs.Parts.{part_words, words_of, HasParts}
use Rattle.ipa_journal.specs.declared.keywords.Keyword.{Keyword}
use Rattle.ipa_journal.specs.declared.keywords.Keyword.TheVariants as keys
use Rattle.ipa_journal.specs.declared.parts.Part.{Part}
use Rattle.ipa_journal.specs.declared.parts.Part.TheVariants as parts
use Rattle.ipa_journal.specs.declared.pieces.Piece.{Piece}
use Rattle.ipa_journal.specs.declared.pieces.Piece.TheVariants.{Key, Word, Number, Group}

abbrev pub filled : List ℕ → List ℕ
filled bytes = bytes ++ replicate (24 - length bytes) 0

zeros : (n k : ℕ) → slice_index (replicate n 0) k ≡ 0
zeros zero k = refl
zeros (suc n) zero = refl
zeros (suc n) (suc k) = zeros n k

pub past_bytes : (bytes : List ℕ) (k : ℕ) → length bytes ≤ k → slice_index (filled bytes) k ≡ 0
past_bytes bytes k l =
    let at : k ≡ length bytes + (k - length bytes) = omega arith in
    ap (slice_index (filled bytes)) at
    ∙ get_or-append-add bytes (replicate (24 - length bytes) 0) (k - length bytes) 0
    ∙ zeros (24 - length bytes) (k - length bytes)

-- the name of these bytes
abbrev pub named : (bytes : List ℕ) → length bytes ≤ 24 → is_name bytes ≡ true → Name
named bytes short is = record {
  bytes = filled bytes;
  len = length bytes;
  full = omega (arith, length-append bytes (replicate (24 - length bytes) 0), length-replicate {A = ℕ} (24 - length bytes) 0);
  sized = short;
  named = subst (λ b. is_name b ≡ true) (sym (take_at bytes (replicate (24 - length bytes) 0) (length bytes) refl)) is;
  padded = past_bytes bytes;
}

pub is_name-keyword : (k : Keyword) → is_name (keyword_text k) ≡ true
unfolding is_name
is_name-keyword keys.Journal = refl
is_name-keyword keys.Sessions = refl
is_name-keyword keys.Bounds = refl
is_name-keyword keys.Greatest = refl
is_name-keyword keys.Youngest = refl
is_name-keyword keys.Nothing = refl
is_name-keyword keys.Tx = refl
is_name-keyword keys.Cut = refl
is_name-keyword keys.Do = refl
is_name-keyword keys.Drop = refl
is_name-keyword keys.Out = refl
is_name-keyword keys.Commit = refl
is_name-keyword keys.Refused = refl
is_name-keyword keys.Shown = refl
is_name-keyword keys.Within = refl
is_name-keyword keys.Need = refl
is_name-keyword keys.Clause = refl
is_name-keyword keys.Over = refl
is_name-keyword keys.Final = refl
is_name-keyword keys.End = refl

pub short-keyword : (k : Keyword) → length (keyword_text k) ≤ 24
short-keyword keys.Journal = omega arith
short-keyword keys.Sessions = omega arith
short-keyword keys.Bounds = omega arith
short-keyword keys.Greatest = omega arith
short-keyword keys.Youngest = omega arith
short-keyword keys.Nothing = omega arith
short-keyword keys.Tx = omega arith
short-keyword keys.Cut = omega arith
short-keyword keys.Do = omega arith
short-keyword keys.Drop = omega arith
short-keyword keys.Out = omega arith
short-keyword keys.Commit = omega arith
short-keyword keys.Refused = omega arith
short-keyword keys.Shown = omega arith
short-keyword keys.Within = omega arith
short-keyword keys.Need = omega arith
short-keyword keys.Clause = omega arith
short-keyword keys.Over = omega arith
short-keyword keys.Final = omega arith
short-keyword keys.End = omega arith

abbrev pub keyword_name : Keyword → Name
keyword_name k = named (keyword_text k) (short-keyword k) (is_name-keyword k)

pub keyword_name-text : (k : Keyword) → name_text (keyword_name k) ≡ keyword_text k
keyword_name-text k = take_at (keyword_text k) (replicate (24 - length (keyword_text k)) 0) (length (keyword_text k)) refl

abbrev pub part_of : Piece → Part
part_of (Key k) = parts.Word (keyword_name k)
part_of (Word n) = parts.Word n
part_of (Number n) = parts.Number n
part_of (Group ns) = parts.Group ns

abbrev pub HasNumber : Piece → Type 0
HasNumber (Number n) = n < 2 ^ 32
HasNumber (Key k) = Unit {0}
HasNumber (Word n) = Unit {0}
HasNumber (Group ns) = Unit {0}

abbrev pub HaveNumbers : List Piece → Type 0
HaveNumbers [] = Unit {0}
HaveNumbers (p ∷ ps) = HasNumber p × HaveNumbers ps

abbrev pub spelling : TokenKind → ℕ → List ℕ → Spelling
spelling kind gap bytes = record { kind = kind; text = bytes; gap = gap }

abbrev pub spelled_name : Name → Spelling
spelled_name n = spelling kinds.Word 0 (name_text n)

abbrev pub comma_name : Name → List Spelling
comma_name n = spelling kinds.Comma 0 (codes ",") ∷ spelled_name n ∷ []

abbrev pub close : List Spelling
close = spelling kinds.Close 0 (codes ")") ∷ []

abbrev pub spelled_names : List Name → List Spelling
spelled_names [] = close
spelled_names (n ∷ ns) = spelled_name n ∷ flat_map comma_name ns ++ close

abbrev pub spelled : ℕ → Piece → List Spelling
spelled gap (Key k) = spelling kinds.Word gap (keyword_text k) ∷ []
spelled gap (Word n) = spelling kinds.Word gap (name_text n) ∷ []
spelled gap (Number n) = spelling kinds.Number gap (decimal n) ∷ []
spelled gap (Group ns) = spelling kinds.Open 0 (codes "(") ∷ spelled_names ns

abbrev pub spelled_line : List Piece → List Spelling
spelled_line [] = []
spelled_line (p ∷ ps) = spelled 0 p ++ flat_map (spelled 1) ps

-- what is printed of each number below 2 ^ 32 is read as that number
abbrev pub IsPrinted : Type 0
IsPrinted = (n : ℕ) → n < 2 ^ 32 → number_of (decimal n) ≡ Some n

-- the bytes of spellings, one after the other
pub bytes_of-append : (ss us : List Spelling) → bytes_of (ss ++ us) ≡ bytes_of ss ++ bytes_of us
bytes_of-append [] us = refl
bytes_of-append (s ∷ ss) us =
    ap (λ t. replicate s.gap 32 ++ (s.text ++ t)) (bytes_of-append ss us)
    ∙ ap (λ t. replicate s.gap 32 ++ t) (sym (append_assoc s.text (bytes_of ss) (bytes_of us)))
    ∙ sym (append_assoc (replicate s.gap 32) (s.text ++ bytes_of ss) (bytes_of us))

later_bytes : (ns : List Name) →
    bytes_of (flat_map comma_name ns ++ close) ≡ flat_map (λ n. codes "," ++ name_text n) ns ++ codes ")"
later_bytes [] = refl
later_bytes (n ∷ ns) =
    ap (λ t. 44 ∷ t) (ap (λ t. name_text n ++ t) (later_bytes ns)
    ∙ sym (append_assoc (name_text n) (flat_map (λ m. codes "," ++ name_text m) ns) (codes ")")))

names_bytes : (ns : List Name) → bytes_of (spelled_names ns) ≡ join_by name_text (codes ",") ns ++ codes ")"
names_bytes [] = refl
names_bytes (n ∷ ns) =
    ap (λ t. name_text n ++ t) (later_bytes ns)
    ∙ sym (append_assoc (name_text n) (flat_map (λ m. codes "," ++ name_text m) ns) (codes ")"))

first_bytes : (p : Piece) → bytes_of (spelled 0 p) ≡ piece_text p
first_bytes (Key k) = append-nil (keyword_text k)
first_bytes (Word n) = append-nil (name_text n)
first_bytes (Number n) = append-nil (decimal n)
first_bytes (Group ns) = ap (λ t. 40 ∷ t) (names_bytes ns)

gapped_bytes : (p : Piece) → bytes_of (spelled 1 p) ≡ gap_text p ++ piece_text p
gapped_bytes (Key k) = ap (λ t. 32 ∷ t) (append-nil (keyword_text k))
gapped_bytes (Word n) = ap (λ t. 32 ∷ t) (append-nil (name_text n))
gapped_bytes (Number n) = ap (λ t. 32 ∷ t) (append-nil (decimal n))
gapped_bytes (Group ns) = ap (λ t. 40 ∷ t) (names_bytes ns)

behind_bytes : (ps : List Piece) →
    bytes_of (flat_map (spelled 1) ps) ≡ flat_map (λ p. gap_text p ++ piece_text p) ps
behind_bytes [] = refl
behind_bytes (p ∷ ps) =
    bytes_of-append (spelled 1 p) (flat_map (spelled 1) ps)
    ∙ ap (λ t. t ++ bytes_of (flat_map (spelled 1) ps)) (gapped_bytes p)
    ∙ ap (λ t. (gap_text p ++ piece_text p) ++ t) (behind_bytes ps)

pub line_bytes : (ps : List Piece) → bytes_of (spelled_line ps) ≡ line_text ps
line_bytes [] = refl
line_bytes (p ∷ ps) =
    bytes_of-append (spelled 0 p) (flat_map (spelled 1) ps)
    ∙ ap (λ t. t ++ bytes_of (flat_map (spelled 1) ps)) (first_bytes p)
    ∙ ap (λ t. piece_text p ++ t) (behind_bytes ps)

abbrev said : Spelling → LineWord
said s = word_of s.kind s.text

number_parts : (digits : List ℕ) (n : ℕ) → number_of digits ≡ Some n → (is_number digits ≡ true) × (digits_value 10 digits ≡ n)
number_parts digits n e = go (is_number digits) refl e
  where
    go : (b : Bool) → is_number digits ≡ b → cond b (Some (digits_value 10 digits)) None ≡ Some n → (is_number digits ≡ true) × (digits_value 10 digits ≡ n)
    go true is same = (is, cc)
    go false is same = cc

later_words : (ns : List Name) →
    map said (flat_map comma_name ns ++ close) ≡ flat_map (λ n. (sign kinds.Comma ∷ []) ++ name_alone n) ns ++ sign kinds.Close ∷ []
later_words [] = refl
later_words (n ∷ ns) = ap (λ ws. sign kinds.Comma ∷ name n ∷ ws) (later_words ns)

names_words : (ns : List Name) →
    map said (spelled_names ns) ≡ join_by name_alone (sign kinds.Comma ∷ []) ns ++ sign kinds.Close ∷ []
names_words [] = refl
names_words (n ∷ ns) = ap (λ ws. name n ∷ ws) (later_words ns)

module _ (printed : IsPrinted) where
  -- the words of a piece, and those of what stands behind it
  piece_words : (gap : ℕ) (p : Piece) → HasNumber p → (ss : List Spelling) →
      map said (spelled gap p ++ ss) ≡ part_words (part_of p) ++ map said ss
  piece_words gap (Key k) h ss = ap (λ bytes. text bytes ∷ map said ss) (sym (keyword_name-text k))
  piece_words gap (Word n) h ss = refl
  piece_words gap (Number n) h ss = ap (λ k. number k ∷ map said ss) (number_parts (decimal n) n (printed n h)).1
  piece_words gap (Group ns) h ss =
      ap (λ ws. sign kinds.Open ∷ ws) (map-append said (spelled_names ns) ss)
      ∙ ap (λ ws. sign kinds.Open ∷ (ws ++ map said ss)) (names_words ns)

  behind_words : (ps : List Piece) → HaveNumbers ps → map said (flat_map (spelled 1) ps) ≡ words_of (map part_of ps)
  behind_words [] h = refl
  behind_words (p ∷ ps) h =
      piece_words 1 p h.0 (flat_map (spelled 1) ps)
      ∙ ap (λ ws. part_words (part_of p) ++ ws) (behind_words ps h.1)

  pub line_words : (ps : List Piece) → HaveNumbers ps → map said (spelled_line ps) ≡ words_of (map part_of ps)
  line_words [] h = refl
  line_words (p ∷ ps) h =
      piece_words 0 p h.0 (flat_map (spelled 1) ps)
      ∙ ap (λ ws. part_words (part_of p) ++ ws) (behind_words ps h.1)

  weaker : (ss : List Spelling) → AreReadableAfter true ss → AreReadableAfter false ss
  weaker [] h = tt
  weaker (s ∷ ss) h = (h.0, λ after run. absurd (false≢true after), h.2)

  starts_with_letter-name : (bytes : List ℕ) → starts_with_letter bytes ≡ begins_with_letter bytes
  starts_with_letter-name [] = refl
  starts_with_letter-name (b ∷ bytes) = refl

  is_word-name : (bytes : List ℕ) → is_name bytes ≡ true → is_word bytes ≡ true
  unfolding is_name
  is_word-name bytes h =
      let short = and_parts _ _ ((and_parts _ _ h).0) in
      let letters = and_parts _ _ short.0 in
      and_from _ _ (and_from _ _ (starts_with_letter-name bytes ∙ letters.0) short.1) letters.1

  word-name : (n : Name) → is_word (name_text n) ≡ true
  word-name n = is_word-name (name_text n) n.named

  later_readable : (ns : List Name) (ss : List Spelling) → AreReadableAfter true ss →
      AreReadableAfter true ((flat_map comma_name ns ++ close) ++ ss)
  later_readable [] ss h = (refl, λ after run. absurd (false≢true run), weaker ss h)
  later_readable (n ∷ ns) ss h =
      (refl, λ after run. absurd (false≢true run), (word-name n, λ after run. absurd (false≢true after), later_readable ns ss h))

  names_readable : (ns : List Name) (ss : List Spelling) → AreReadableAfter true ss →
      AreReadableAfter false (spelled_names ns ++ ss)
  names_readable [] ss h = (refl, λ after run. absurd (false≢true run), weaker ss h)
  names_readable (n ∷ ns) ss h = (word-name n, λ after run. absurd (false≢true after), later_readable ns ss h)

  piece_readable : (b : Bool) (gap : ℕ) (p : Piece) → HasNumber p → (IsTrue b → 0 < gap) → (ss : List Spelling) →
      AreReadableAfter true ss → AreReadableAfter b (spelled gap p ++ ss)
  piece_readable b gap (Key k) h apart ss later = (is_word-name (keyword_text k) (is_name-keyword k), λ after run. apart after, later)
  piece_readable b gap (Word n) h apart ss later = (word-name n, λ after run. apart after, later)
  piece_readable b gap (Number n) h apart ss later =
      ((number_parts (decimal n) n (printed n h)).0, λ after run. apart after, later)
  piece_readable b gap (Group ns) h apart ss later =
      (refl, λ after run. absurd (false≢true run), names_readable ns ss later)

  behind_readable : (ps : List Piece) → HaveNumbers ps → AreReadableAfter true (flat_map (spelled 1) ps)
  behind_readable [] h = tt
  behind_readable (p ∷ ps) h =
      piece_readable true 1 p h.0 (λ after. omega arith) (flat_map (spelled 1) ps) (behind_readable ps h.1)

  pub line_readable : (ps : List Piece) → HaveNumbers ps → AreReadable (spelled_line ps)
  line_readable [] h = tt
  line_readable (p ∷ ps) h =
      piece_readable false 0 p h.0 (λ after. absurd (false≢true after)) (flat_map (spelled 1) ps) (behind_readable ps h.1)

-- the words of tokens whose kinds and bytes are those of the spellings
words_in-spelled : (line : List ℕ) (ts : List Token) (ss : List Spelling) → map (text_of line) ts ≡ map (λ s. s.text) ss → map (λ token. token.kind) ts ≡ map (λ s. s.kind) ss → words_in line ts ≡ map said ss
words_in-spelled line [] [] texts kind = refl
words_in-spelled line [] (s ∷ ss) texts kind = absurd (cc)
words_in-spelled line (t ∷ ts) [] texts kind = absurd (cc)
words_in-spelled line (t ∷ ts) (s ∷ ss) texts kind =
    let head : text_of line t ≡ s.text = cc in
    let its : t.kind ≡ s.kind = cc in
    let later = words_in-spelled line ts ss (cc) (cc) in
    cc (ap (word_of t.kind) head, ap (λ k. word_of k s.text) its, later)

-- a line that is written of spellings is cut into just them
pub record Cuts : Type 0 where
  pub cut : (ss : List Spelling) → AreReadable ss → IsCutInto (bytes_of ss) (tokens_from 0 ss)
  pub texts : (ss : List Spelling) → map (text_of (bytes_of ss)) (tokens_from 0 ss) ≡ map (λ s. s.text) ss
  pub kinds_are : (ss : List Spelling) → map (λ t. t.kind) (tokens_from 0 ss) ≡ map (λ s. s.kind) ss

-- the line of some pieces has their parts
pub has_parts : IsPrinted → Cuts → (ps : List Piece) → HaveNumbers ps → HasParts (line_text ps) (map part_of ps)
has_parts printed cuts ps h =
    let ss = spelled_line ps in
    let there : HasParts (bytes_of ss) (map part_of ps) = record {
      tokens = tokens_from 0 ss;
      cut = cuts.cut ss (line_readable printed ps h);
      words_are =
          words_in-spelled (bytes_of ss) (tokens_from 0 ss) ss (cuts.texts ss) (cuts.kinds_are ss)
          ∙ line_words printed ps h;
    } in
    subst (λ bytes. HasParts bytes (map part_of ps)) (line_bytes ps) there
