-- The places that the search for lines comes to, and the line at each.
use Rattle.std.proofs.Common.{◌≡◌, ℕ, suc, zero, ◌+◌, ◌-◌, ◌<◌, ◌≤◌, Bool, true, not, cond, eqb, List, [], ◌++◌, length, get_or, take, drop, sym, refl, ap, ◌∙◌, subst, inl, inr, ⊎_elim, arith, add-one, length-drop, get_or-drop}
use Rattle.std.specs.List.{count_by, position_or_len, before_first}
use Rattle.std.specs.Str.Lines.{strip_carriage_return}
use Rattle.std.proofs.Math.Seq.{take-add}
use Rattle.std.proofs.lemmas.Bool.{cases_lt, cond_both}
use Rattle.std.proofs.lemmas.List.{take-take, take_min, drop_all, drop-drop, nil_from_length, length-take, length-take-le}
use Rattle.std.proofs.lemmas.List.Sums.{count_by_more_yes, count_by_more_no, sum_by-append, fails_before_first, passes_at_first, prefix_len-le-length}
use Rattle.ipa_text.specs.Bytes.{is_line_feed}
use Rattle.ipa_text.specs.Lines.{has_content, lines_from, StartsLine, IsLine}
use Rattle.ipa_text.proofs.LineLemmas.{behind, front_text}

-- the last byte is a carriage return
abbrev ends_in_return : List ℕ → Bool
ends_in_return xs = eqb (get_or xs (length xs - 1) 0) 13

-- a front of some bytes is as many of them as it has
front_again : (n : ℕ) (ys : List ℕ) → take (length (take n ys)) ys ≡ take n ys
front_again n ys = ap (λ m. take m ys) (length-take n ys) ∙ take_min n ys

-- what `strip_carriage_return` leaves of a front is a front
strip_again : (n : ℕ) (ys : List ℕ) → n ≤ length ys → take (length (strip_carriage_return (take n ys))) ys ≡ strip_carriage_return (take n ys)
strip_again n ys within =
    let size : length (take n ys) ≡ n = length-take-le n ys within in
    let shorter : take (length (take n ys) - 1) (take n ys) ≡ take (length (take n ys) - 1) ys = take-take (length (take n ys) - 1) n ys (omega arith) in
    cond_both (ends_in_return (take n ys)) (take (length (take n ys) - 1) (take n ys)) (take n ys) (λ xs. take (length xs) ys ≡ xs)
    (λ _. subst (λ xs. take (length xs) ys ≡ xs) (sym shorter) (front_again (length (take n ys) - 1) ys))
    (λ _. front_again n ys)

strip_shorter : (xs : List ℕ) → length (strip_carriage_return xs) ≤ length xs
strip_shorter xs =
    cond_both (ends_in_return xs) (take (length xs - 1) xs) xs (λ ys. length ys ≤ length xs) (λ _. let size = length-take (length xs - 1) xs in omega arith) (λ _. omega arith)

-- no line feed stands before the first
count_before : (rest : List ℕ) (n : ℕ) → n ≤ position_or_len is_line_feed rest → count_by is_line_feed (take n rest) ≡ 0
count_before rest zero within = refl
count_before rest (suc n) within =
    let most = prefix_len-le-length (λ b. not (is_line_feed b)) rest in
    ap (λ m. count_by is_line_feed (take m rest)) (sym (add-one n))
    ∙ count_by_more_no is_line_feed rest n 0 (omega arith) (fails_before_first is_line_feed rest n 0 (omega arith))
    ∙ count_before rest n (omega arith)

-- a place that the search comes to: a line starts there, if anything is left
pub record IsPlace (bytes : List ℕ) (number start : ℕ) (rest : List ℕ) : Type 0 where
  pub left : rest ≡ drop start bytes
  pub starts : 0 < length rest → StartsLine bytes start
  pub counted : 0 < length rest → number ≡ 1 + count_by is_line_feed (take start bytes)

pub first_place : (bytes : List ℕ) → IsPlace bytes 1 0 bytes
first_place bytes = record { left = refl; starts = λ _. inl refl; counted = λ _. refl }

-- behind a line feed
next_inside : (bytes : List ℕ) (number start : ℕ) (rest : List ℕ) (n : ℕ) → IsPlace bytes number start rest → n ≡ position_or_len is_line_feed rest → n < length rest → IsPlace bytes (number + 1) (start + (n + 1)) (drop (n + 1) rest)
next_inside bytes number start rest n place is inside =
    let here : is_line_feed (get_or rest n 0) ≡ true = subst (λ k. is_line_feed (get_or rest k 0) ≡ true) (sym is) (passes_at_first is_line_feed rest 0 (omega arith)) in
    let before : start + (n + 1) - 1 ≡ start + n = omega arith in
    let read : get_or bytes (start + (n + 1) - 1) 0 ≡ get_or rest n 0 = ap (λ k. get_or bytes k 0) before ∙ sym (get_or-drop start bytes n 0) ∙ ap (λ xs. get_or xs n 0) (sym place.left) in
    let one : count_by is_line_feed (take (n + 1) rest) ≡ 0 + 1 = count_by_more_yes is_line_feed rest n 0 inside here ∙ ap (λ k. k + 1) (count_before rest n (omega arith)) in
    let joined : count_by is_line_feed (take (start + (n + 1)) bytes) ≡ count_by is_line_feed (take start bytes) + count_by is_line_feed (take (n + 1) rest)
    = ap (count_by is_line_feed) (take-add start (n + 1) bytes ∙ ap (λ xs. take start bytes ++ take (n + 1) xs) (sym place.left)) ∙ sum_by-append (λ b. cond (is_line_feed b) 1 0) (take start bytes) (take (n + 1) rest) in
    let counted : number ≡ 1 + count_by is_line_feed (take start bytes) = place.counted (omega arith) in
    record {
      left = ap (drop (n + 1)) place.left ∙ drop-drop (n + 1) start bytes;
      starts = λ _. inr (omega arith, ap is_line_feed read ∙ here);
      counted = λ _. omega arith;
    }

-- where no line feed is left, nothing is
next_past : (bytes : List ℕ) (number start : ℕ) (rest : List ℕ) → IsPlace bytes number start rest → length rest ≤ position_or_len is_line_feed rest → IsPlace bytes (number + 1) (start + (length rest - length (behind rest))) (behind rest)
next_past bytes number start rest place past =
    let nothing : behind rest ≡ [] = drop_all (position_or_len is_line_feed rest + 1) rest (omega arith) in
    let none : length (behind rest) ≡ 0 = ap length nothing in
    let size : length rest ≡ length bytes - start = ap length place.left ∙ length-drop start bytes in
    record {
      left = nothing ∙ sym (drop_all (start + (length rest - length (behind rest))) bytes (omega arith));
      starts = λ some. absurd (omega arith);
      counted = λ some. absurd (omega arith);
    }

pub next_place : (bytes : List ℕ) (number start : ℕ) (rest : List ℕ) → IsPlace bytes number start rest → IsPlace bytes (number + 1) (start + (length rest - length (behind rest))) (behind rest)
next_place bytes number start rest place =
    let n : ℕ = position_or_len is_line_feed rest in
    let size : length (behind rest) ≡ length rest - (n + 1) = length-drop (n + 1) rest in
    ⊎_elim
    (λ inside.
    let width : n + 1 ≡ length rest - length (behind rest) = omega arith in
    subst (λ w. IsPlace bytes (number + 1) (start + w) (behind rest)) width (next_inside bytes number start rest n place refl inside))
    (λ past. next_past bytes number start rest place past)
    (cases_lt n (length rest))

-- the line at a place is a line of the text
pub place_line : (bytes : List ℕ) (number start : ℕ) (rest : List ℕ) → IsPlace bytes number start rest → 0 < length rest → has_content (front_text rest) ≡ true → IsLine bytes (record { number = number; start = start; end = start + length (front_text rest) })
place_line bytes number start rest place some content =
    let n : ℕ = position_or_len is_line_feed rest in
    let most : n ≤ length rest = prefix_len-le-length (λ b. not (is_line_feed b)) rest in
    let size : length rest ≡ length bytes - start = ap length place.left ∙ length-drop start bytes in
    let piece : length (before_first is_line_feed rest) ≡ n = length-take-le n rest most in
    let shorter = strip_shorter (before_first is_line_feed rest) in
    let width : start + length (front_text rest) - start ≡ length (front_text rest) = omega arith in
    let text : take (start + length (front_text rest) - start) (drop start bytes) ≡ front_text rest = ap (λ m. take m (drop start bytes)) width ∙ ap (take (length (front_text rest))) (sym place.left) ∙ strip_again n rest most in
    record {
      starts = place.starts some;
      number = place.counted some;
      ordered = omega arith;
      within = omega arith;
      text = text ∙ ap front_text place.left;
      content = ap has_content text ∙ content;
    }

-- where nothing is left, no line is
pub none_left : (number start : ℕ) (rest : List ℕ) → length rest ≤ 0 → lines_from number start rest ≡ []
none_left number start rest empty = ap (lines_from number start) (nil_from_length rest (omega arith))

-- fewer bytes are left behind a line
pub behind_shorter : (rest : List ℕ) → 0 < length rest → length (behind rest) < length rest
behind_shorter rest some = let size = length-drop (position_or_len is_line_feed rest + 1) rest in omega arith
