-- One turn of the search for the next line.
use Rattle.std.proofs.Common.{◌≡◌, ℕ, ◌+◌, ◌-◌, ◌^◌, ◌<◌, ◌≤◌, true, false, not, eqb, List, [], ◌∷◌, ◌++◌, length, sym, ap, ◌∙◌, ◌⊎◌, inl, inr, ⊎_elim, arith, length-drop}
use Rattle.std.specs.List.{position_or_len, before_first, after_first}
use Rattle.std.specs.Str.Lines.{strip_carriage_return}
use Rattle.std.proofs.lemmas.Bool.{false≢true, false_from_ne_true, cases_lt, cond-true, cond-false}
use Rattle.std.proofs.lemmas.List.{take_all, drop_all, length-take-le}
use Rattle.std.proofs.lemmas.List.Elements.{All-from_get_or}
use Rattle.std.proofs.lemmas.List.Splits.{slice_split_first, slice_split_none}
use Rattle.std.proofs.lemmas.List.Sums.{position_or_len_is, fails_before_first, prefix_len-le-length}
use Rattle.memchr.specs.Find.{NoneBefore, Nowhere, Passes, is_byte}
use Rattle.ipa_text.specs.Bytes.{is_line_feed}
use Rattle.ipa_text.specs.Lines.{pieces, has_content, line_at, numbered, lines_from}
use Rattle.ipa_text.specs.declared.numbering.Line.{Line}

-- where the first line feed is, as the search tells
pub feed_at : (bytes : List ℕ) (at : ℕ) → NoneBefore (Passes (is_byte 10) bytes) 0 (length bytes) at → Passes (is_byte 10) bytes at → position_or_len is_line_feed bytes ≡ at
feed_at bytes at first here =
    let inside = first.high in
    position_or_len_is is_line_feed bytes at 0 (omega arith) (λ k below. false_from_ne_true _ (first.before k (omega arith) below)) (λ _. here)

pub feed_none : (bytes : List ℕ) → Nowhere (Passes (is_byte 10) bytes) 0 (length bytes) → position_or_len is_line_feed bytes ≡ length bytes
feed_none bytes none =
    position_or_len_is is_line_feed bytes (length bytes) 0 (omega arith) (λ k below. false_from_ne_true _ (none k (omega arith) below)) (λ past. absurd (omega arith))

-- the bytes behind the first line feed
abbrev pub behind : List ℕ → List ℕ
behind bytes = after_first is_line_feed bytes

-- the bytes before it
abbrev pub in_front : List ℕ → List ℕ
in_front bytes = before_first is_line_feed bytes

-- what the line there has
abbrev pub front_text : List ℕ → List ℕ
front_text bytes = strip_carriage_return (in_front bytes)

-- the first piece ends at a line feed, or is all
pub record HasMore (bytes : List ℕ) : Type 0 where
  pub first : pieces bytes ≡ in_front bytes ∷ pieces (behind bytes)
  pub sizes : length (in_front bytes) + 1 + length (behind bytes) ≡ length bytes

pub record IsLast (bytes : List ℕ) : Type 0 where
  pub alone : pieces bytes ≡ in_front bytes ∷ []
  pub nothing : behind bytes ≡ []

pub first_piece : (bytes : List ℕ) → HasMore bytes ⊎ IsLast bytes
first_piece bytes =
    let place : ℕ = position_or_len is_line_feed bytes in
    let piece : length (in_front bytes) ≡ place = length-take-le place bytes (prefix_len-le-length (λ b. not (is_line_feed b)) bytes) in
    let rest : length (behind bytes) ≡ length bytes - (place + 1) = length-drop (place + 1) bytes in
    ⊎_elim
    (λ inside. inl (record { first = slice_split_first is_line_feed bytes 0 inside; sizes = omega arith }))
    (λ past. inr (record {
      alone = slice_split_none is_line_feed bytes (All-from_get_or (λ b. is_line_feed b ≡ false) bytes 0 (λ k inside. fails_before_first is_line_feed bytes k 0 (omega arith))) ∙ ap (λ xs. xs ∷ []) (sym (take_all place bytes past));
      nothing = drop_all (place + 1) bytes (omega arith);
    }))
    (cases_lt place (length bytes))

-- the lines in some bytes: the one in the first piece, and those behind it
pub lines_step : (number start : ℕ) (bytes : List ℕ) → lines_from number start bytes ≡ line_at number start (front_text bytes) ++ lines_from (number + 1) (start + (length bytes - length (behind bytes))) (behind bytes)
lines_step number start bytes =
    let later : ℕ = start + (length bytes - length (behind bytes)) in
    ⊎_elim
    (λ more.
    let sizes = more.sizes in
    let next : start + length (in_front bytes) + 1 ≡ later = omega arith in
    ap (numbered number start) more.first ∙ ap (λ n. line_at number start (front_text bytes) ++ lines_from (number + 1) n (behind bytes)) next)
    (λ last. ap (numbered number start) last.alone ∙ ap (λ xs. line_at number start (front_text bytes) ++ xs) (sym (ap (lines_from (number + 1) later) last.nothing)))
    (first_piece bytes)

-- what the loop keeps: these are the lines that are left, and the numbers have room
pub record IsAt (all : List Line) (number start : ℕ) (rest : List ℕ) : Type 0 where
  pub lines : all ≡ lines_from number start rest
  pub numbers : number + length rest ≤ 2 ^ 31
  pub starts : start + length rest ≤ 2 ^ 31

-- one turn, from the parts that the code has
turn : (all : List Line) (number start : ℕ) (bytes piece rest text : List ℕ) → IsAt all number start bytes → piece ≡ before_first is_line_feed bytes → rest ≡ after_first is_line_feed bytes → text ≡ strip_carriage_return piece → all ≡ line_at number start text ++ lines_from (number + 1) (start + (length bytes - length rest)) rest
turn all number start bytes piece rest text at piece_is rest_is text_is =
    at.lines ∙ lines_step number start bytes
    ∙ ap (λ xs. line_at number start (strip_carriage_return (before_first is_line_feed bytes)) ++ lines_from (number + 1) (start + (length bytes - length xs)) xs) (sym rest_is)
    ∙ ap (λ xs. line_at number start xs ++ lines_from (number + 1) (start + (length bytes - length rest)) rest) (sym (text_is ∙ ap strip_carriage_return piece_is))

-- a line with content is the next
pub turn_gives : (all : List Line) (number start : ℕ) (bytes piece rest text : List ℕ) → IsAt all number start bytes → piece ≡ before_first is_line_feed bytes → rest ≡ after_first is_line_feed bytes → text ≡ strip_carriage_return piece → has_content text ≡ true → all ≡ record { number = number; start = start; end = start + length text } ∷ lines_from (number + 1) (start + (length bytes - length rest)) rest
turn_gives all number start bytes piece rest text at piece_is rest_is text_is content =
    turn all number start bytes piece rest text at piece_is rest_is text_is
    ∙ ap (λ xs. xs ++ lines_from (number + 1) (start + (length bytes - length rest)) rest) (cond-true (has_content text) _ _ content)

-- one without content is passed over
pub turn_passes : (all : List Line) (number start : ℕ) (bytes piece rest text : List ℕ) → IsAt all number start bytes → piece ≡ before_first is_line_feed bytes → rest ≡ after_first is_line_feed bytes → text ≡ strip_carriage_return piece → has_content text ≡ false → length rest < length bytes → IsAt all (number + 1) (start + (length bytes - length rest)) rest
turn_passes all number start bytes piece rest text at piece_is rest_is text_is empty shorter =
    let numbers = at.numbers in
    let starts = at.starts in
    record {
      lines = turn all number start bytes piece rest text at piece_is rest_is text_is
          ∙ ap (λ xs. xs ++ lines_from (number + 1) (start + (length bytes - length rest)) rest) (cond-false (has_content text) _ _ empty);
      numbers = omega arith;
      starts = omega arith;
    }

pub some_left : (xs : List ℕ) → eqb (length xs) 0 ≡ false → 0 < length xs
some_left [] h = absurd (false≢true (sym h))
some_left (x ∷ xs) h = omega arith

-- the first of some is one more than the others
pub longer : (all rest : List Line) (first : Line) → all ≡ first ∷ rest → length rest < length all
longer all rest first h = let size : length all ≡ length (first ∷ rest) = ap length h in omega arith
