-- What is written of tokens and lines is read as them.
use Rattle.std.proofs.Common.{◌≡◌, ℕ, suc, zero, ◌+◌, ◌-◌, ◌<◌, ◌≤◌, Bool, true, false, List, [], ◌∷◌, ◌++◌, map, replicate, length, get_or, take, drop, sym, refl, ap, ◌∙◌, subst, ⊎_elim, arith, length-drop, length-append, get_or-drop, add-zero}
use Rattle.std.specs.List.{filter, All}
use Rattle.std.specs.Str.Lines.{strip_carriage_return}
use Rattle.std.proofs.lemmas.Bool.{false≢true, false_from_ne_true, cases_lt}
use Rattle.std.proofs.lemmas.List.{append_assoc, drop-drop, drop_at, take_at, length-replicate, get_or-replicate, get_or_append_left, append-nil, map-append}
use Rattle.std.proofs.lemmas.List.Elements.{All-head, All-tail, filter-append}
use Rattle.std.proofs.lemmas.List.Splits.{slice_split_at}
use Rattle.ipa_text.specs.Bytes.{is_blank, is_name_byte, is_line_feed}
use Rattle.ipa_text.specs.Tokens.{IsOfKind, is_run, IsToken, AreBlanks, IsCut, IsCutInto, text_of}
use Rattle.ipa_text.specs.Lines.{pieces, has_content, line_at, numbered, lines_of, line_text}
use Rattle.ipa_text.specs.Spellings.{Spelling, bytes_of, tokens_from, AreReadable, AreReadableAfter, ended, HasNoLineFeed}
use Rattle.ipa_text.proofs.LineTextLemmas.{texts_are}
use Rattle.ipa_text.specs.declared.tokens.TokenKind.{TokenKind}
use Rattle.ipa_text.specs.declared.tokens.TokenKind.TheVariants.{Word, Number, Open, Close, Comma, Colon, Star, Equal, Unequal}

-- no mark begins with a letter, a digit or an underscore
mark_no_name : (kind : TokenKind) (text more : List ℕ) → IsOfKind kind text → is_run kind ≡ false → is_name_byte (get_or (text ++ more) 0 0) ≡ false
mark_no_name Word text more of_kind no_run = absurd (false≢true (sym no_run))
mark_no_name Number text more of_kind no_run = absurd (false≢true (sym no_run))
mark_no_name Open text more of_kind no_run = ap (λ xs. is_name_byte (get_or (xs ++ more) 0 0)) of_kind
mark_no_name Close text more of_kind no_run = ap (λ xs. is_name_byte (get_or (xs ++ more) 0 0)) of_kind
mark_no_name Comma text more of_kind no_run = ap (λ xs. is_name_byte (get_or (xs ++ more) 0 0)) of_kind
mark_no_name Colon text more of_kind no_run = ap (λ xs. is_name_byte (get_or (xs ++ more) 0 0)) of_kind
mark_no_name Star text more of_kind no_run = ap (λ xs. is_name_byte (get_or (xs ++ more) 0 0)) of_kind
mark_no_name Equal text more of_kind no_run = ap (λ xs. is_name_byte (get_or (xs ++ more) 0 0)) of_kind
mark_no_name Unequal text more of_kind no_run = ap (λ xs. is_name_byte (get_or (xs ++ more) 0 0)) of_kind

-- a space doesn't, either
spaced_front : (gap : ℕ) (more : List ℕ) → 0 < gap → is_name_byte (get_or (replicate gap 32 ++ more) 0 0) ≡ false
spaced_front zero more some = absurd (omega arith)
spaced_front (suc gap) more some = refl

-- what is written directly behind a run doesn't go on with it
ends_run : (ss : List Spelling) → AreReadableAfter true ss → is_name_byte (get_or (bytes_of ss) 0 0) ≡ false
ends_run [] readable = refl
ends_run (s ∷ ss) readable =
    ⊎_elim
    (λ spaced. spaced_front s.gap (s.text ++ bytes_of ss) spaced)
    (λ close.
    let none : s.gap ≡ 0 = omega arith in
    subst (λ n. is_name_byte (get_or (replicate n 32 ++ (s.text ++ bytes_of ss)) 0 0) ≡ false) (sym none)
    (mark_no_name s.kind s.text (bytes_of ss) readable.0 (false_from_ne_true (is_run s.kind) (λ run. let gap = readable.1 refl run in omega arith))))
    (cases_lt 0 s.gap)

-- where the first token stands, and what is behind it
pub record IsWrittenAt (line : List ℕ) (at : ℕ) (s : Spelling) (ss : List Spelling) : Type 0 where
  pub blanks : AreBlanks line at (at + s.gap)
  pub here : drop (at + s.gap) line ≡ s.text ++ bytes_of ss
  pub behind : drop (at + s.gap + length s.text) line ≡ bytes_of ss
  pub within : at + s.gap + length s.text ≤ length line

written_parts : (line : List ℕ) (at : ℕ) (s : Spelling) (ss : List Spelling) → at ≤ length line → drop at line ≡ bytes_of (s ∷ ss) → IsWrittenAt line at s ss
written_parts line at s ss within left =
    let here : drop (at + s.gap) line ≡ s.text ++ bytes_of ss = sym (drop-drop s.gap at line) ∙ ap (drop s.gap) left ∙ drop_at (replicate s.gap 32) (s.text ++ bytes_of ss) s.gap (length-replicate s.gap 32) in
    let gap : List ℕ = replicate s.gap 32 in
    let spaces : length gap ≡ s.gap = length-replicate s.gap 32 in
    let size : length line - at ≡ length (gap ++ (s.text ++ bytes_of ss)) = sym (length-drop at line) ∙ ap length left in
    let parts : length (gap ++ (s.text ++ bytes_of ss)) ≡ length gap + length (s.text ++ bytes_of ss) = length-append gap (s.text ++ bytes_of ss) in
    let more = length-append s.text (bytes_of ss) in
    record {
      blanks = record {
        ordered = omega arith;
        blank = λ k low high.
            let joined : at + (k - at) ≡ k = omega arith in
            let read : get_or line k 0 ≡ 32 =
            ap (λ n. get_or line n 0) (sym joined) ∙ sym (get_or-drop at line (k - at) 0) ∙ ap (λ xs. get_or xs (k - at) 0) left
            ∙ get_or_append_left (replicate s.gap 32) (s.text ++ bytes_of ss) 0 (k - at) (omega arith) ∙ get_or-replicate s.gap (k - at) 32 0 (omega arith) in
            ap is_blank read;
      };
      here = here;
      behind = sym (drop-drop (length s.text) (at + s.gap) line) ∙ ap (drop (length s.text)) here ∙ drop_at s.text (bytes_of ss) (length s.text) refl;
      within = omega arith;
    }

-- the first token's bytes
written_text : (line : List ℕ) (at : ℕ) (s : Spelling) (ss : List Spelling) → IsWrittenAt line at s ss → text_of line (record { start = at + s.gap; end = at + s.gap + length s.text; kind = s.kind }) ≡ s.text
written_text line at s ss parts =
    let width : at + s.gap + length s.text - (at + s.gap) ≡ length s.text = omega arith in
    ap (λ n. take n (drop (at + s.gap) line)) width ∙ ap (take (length s.text)) parts.here ∙ take_at s.text (bytes_of ss) (length s.text) refl

written_token : (line : List ℕ) (at : ℕ) (s : Spelling) (ss : List Spelling) → IsWrittenAt line at s ss → IsOfKind s.kind s.text → (is_run s.kind ≡ true → is_name_byte (get_or (bytes_of ss) 0 0) ≡ false) → IsToken line (record { start = at + s.gap; end = at + s.gap + length s.text; kind = s.kind })
written_token line at s ss parts of_kind ends = record {
  ordered = omega arith;
  within = parts.within;
  of_kind = subst (IsOfKind s.kind) (sym (written_text line at s ss parts)) of_kind;
  longest = λ run before_end.
      let first : get_or line (at + s.gap + length s.text) 0 ≡ get_or (bytes_of ss) 0 0 =
      ap (λ n. get_or line n 0) (sym (add-zero (at + s.gap + length s.text))) ∙ sym (get_or-drop (at + s.gap + length s.text) line 0 0) ∙ ap (λ xs. get_or xs 0 0) parts.behind in
      ap is_name_byte first ∙ ends run;
}

-- a line that is written from `at` on is cut into its tokens there
pub written_cut : (line : List ℕ) (at : ℕ) (after_run : Bool) (ss : List Spelling) → at ≤ length line → drop at line ≡ bytes_of ss → AreReadableAfter after_run ss → IsCut line at (tokens_from at ss) (length line)
written_cut line at after_run [] within left readable =
    let size : length line - at ≡ 0 = sym (length-drop at line) ∙ ap length left in
    record { ordered = within; blank = λ k low high. absurd (omega arith) }
written_cut line at after_run (s ∷ ss) within left readable =
    let parts = written_parts line at s ss within left in
    (parts.blanks, written_token line at s ss parts readable.0 (λ run. ends_run ss (subst (λ b. AreReadableAfter b ss) run readable.2)), written_cut line (at + s.gap + length s.text) (is_run s.kind) ss parts.within parts.behind readable.2)

-- and they have the bytes that were written
written_texts : (line : List ℕ) (at : ℕ) (ss : List Spelling) → at ≤ length line → drop at line ≡ bytes_of ss → map (text_of line) (tokens_from at ss) ≡ map (λ s. s.text) ss
written_texts line at [] within left = refl
written_texts line at (s ∷ ss) within left =
    let parts = written_parts line at s ss within left in
    let first = written_text line at s ss parts in
    let later = written_texts line (at + s.gap + length s.text) ss parts.within parts.behind in
    λ i. first i ∷ later i

pub written_is_cut : (ss : List Spelling) → AreReadable ss → IsCutInto (bytes_of ss) (tokens_from 0 ss)
written_is_cut ss readable = written_cut (bytes_of ss) 0 false ss (omega arith) refl readable

pub written_texts_are : (ss : List Spelling) → map (text_of (bytes_of ss)) (tokens_from 0 ss) ≡ map (λ s. s.text) ss
written_texts_are ss = written_texts (bytes_of ss) 0 ss (omega arith) refl

written_kinds : (at : ℕ) (ss : List Spelling) → map (λ t. t.kind) (tokens_from at ss) ≡ map (λ s. s.kind) ss
written_kinds at [] = refl
written_kinds at (s ∷ ss) = ap (λ kinds. s.kind ∷ kinds) (written_kinds (at + s.gap + length s.text) ss)

pub written_kinds_are : (ss : List Spelling) → map (λ t. t.kind) (tokens_from 0 ss) ≡ map (λ s. s.kind) ss
written_kinds_are ss = written_kinds 0 ss

-- a text of ended lines is cut at their ends
ended_pieces : (texts : List (List ℕ)) → All HasNoLineFeed texts → pieces (ended texts) ≡ texts ++ [] ∷ []
ended_pieces [] none = refl
ended_pieces (text ∷ texts) none =
    ap pieces (append_assoc text (10 ∷ []) (ended texts))
    ∙ slice_split_at is_line_feed text 10 (ended texts) (All-head HasNoLineFeed text texts none) refl
    ∙ ap (λ parts. text ∷ parts) (ended_pieces texts (All-tail HasNoLineFeed text texts none))

-- the empty piece at the end is no line
numbered_end : (number start : ℕ) (texts : List (List ℕ)) → numbered number start (texts ++ [] ∷ []) ≡ numbered number start texts
numbered_end number start [] = refl
numbered_end number start (text ∷ texts) = ap (λ lines. line_at number start (strip_carriage_return text) ++ lines) (numbered_end (number + 1) (start + length text + 1) texts)

pub ended_lines : (texts : List (List ℕ)) → All HasNoLineFeed texts → lines_of (ended texts) ≡ numbered 1 0 texts
ended_lines texts none = ap (numbered 1 0) (ended_pieces texts none) ∙ numbered_end 1 0 texts

-- the empty piece at the end has no content
content_end : (texts : List (List ℕ)) → filter has_content (map strip_carriage_return (texts ++ [] ∷ [])) ≡ filter has_content (map strip_carriage_return texts)
content_end texts =
    ap (filter has_content) (map-append strip_carriage_return texts ([] ∷ []))
    ∙ filter-append has_content (map strip_carriage_return texts) ([] ∷ [])
    ∙ append-nil (filter has_content (map strip_carriage_return texts))

pub ended_texts : (texts : List (List ℕ)) → All HasNoLineFeed texts → map (line_text (ended texts)) (lines_of (ended texts)) ≡ filter has_content (map strip_carriage_return texts)
ended_texts texts none =
    texts_are (ended texts) ∙ ap (λ parts. filter has_content (map strip_carriage_return parts)) (ended_pieces texts none) ∙ content_end texts
