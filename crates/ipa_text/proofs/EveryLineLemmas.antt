-- The lines of a text are just those that `IsLine` tells, in the order of their numbers.
use Rattle.std.proofs.Common.{◌≡◌, ℕ, suc, zero, ◌+◌, ◌-◌, ◌<◌, ◌≤◌, true, not, cond, List, [], ◌∷◌, ◌++◌, map, length, get_or, take, drop, sym, refl, ap, ◌∙◌, subst, ⊎_elim, arith, length-drop, length-append, get_or-drop}
use Rattle.std.specs.List.{count_by, position_or_len, All, Contains}
use Rattle.std.specs.List.Sorted.{IsStrictlyIncreasing}
use Rattle.std.proofs.lemmas.Bool.{false≢true, cases_lt, cases_eq, cases_Bool, cond-true, cond-false, cond_both, and_from, lt-ltb, not_from_false}
use Rattle.std.proofs.lemmas.List.{drop_all, length-take-le}
use Rattle.std.proofs.lemmas.List.Elements.{All-nil, All-cons, All-append, All-same, All-weaker, Contains-append_right}
use Rattle.std.proofs.lemmas.List.Sums.{sum_by-take-drop, get_or-le-sum_by, fails_before_first, prefix_len-le-length}
use Rattle.ipa_text.specs.Bytes.{is_line_feed}
use Rattle.ipa_text.specs.Lines.{has_content, line_at, lines_from, lines_of, ends_open, last_line, IsLine}
use Rattle.ipa_text.specs.declared.numbering.Line.{Line}
use Rattle.ipa_text.proofs.PlaceLemmas.{IsPlace, first_place, next_place, place_line, none_left, behind_shorter}
use Rattle.ipa_text.proofs.LineLemmas.{behind, front_text, lines_step}

each_at : (bytes : List ℕ) (number start : ℕ) (rest : List ℕ) → IsPlace bytes number start rest → 0 < length rest → All (IsLine bytes) (line_at number start (front_text rest))
each_at bytes number start rest place some =
    ⊎_elim
    (λ content. All-same (IsLine bytes) _ _ (cond-true _ _ _ content) (All-cons (IsLine bytes) _ [] (place_line bytes number start rest place some content) (All-nil (IsLine bytes))))
    (λ empty. All-same (IsLine bytes) _ _ (cond-false _ _ _ empty) (All-nil (IsLine bytes)))
    (cases_Bool (has_content (front_text rest)))

each_from : (bytes : List ℕ) (fuel number start : ℕ) (rest : List ℕ) → length rest ≤ fuel → IsPlace bytes number start rest → All (IsLine bytes) (lines_from number start rest)
each_from bytes zero number start rest small place = All-same (IsLine bytes) _ _ (none_left number start rest small) (All-nil (IsLine bytes))
each_from bytes (suc fuel) number start rest small place =
    ⊎_elim
    (λ some.
    let shorter = behind_shorter rest some in
    All-same (IsLine bytes) _ _ (lines_step number start rest)
    (All-append (IsLine bytes) _ _ (each_at bytes number start rest place some) (each_from bytes fuel (number + 1) (start + (length rest - length (behind rest))) (behind rest) (omega arith) (next_place bytes number start rest place))))
    (λ empty. All-same (IsLine bytes) _ _ (none_left number start rest empty) (All-nil (IsLine bytes)))
    (cases_lt 0 (length rest))

pub each_line : (bytes : List ℕ) → All (IsLine bytes) (lines_of bytes)
each_line bytes = each_from bytes (length bytes) 1 0 bytes (omega arith) (first_place bytes)

-- a line that starts at this place is the one in its first piece
same_line : (bytes : List ℕ) (number start : ℕ) (rest : List ℕ) (l : Line) → IsPlace bytes number start rest → 0 < length rest → IsLine bytes l → l.start ≡ start → line_at number start (front_text rest) ≡ l ∷ []
same_line bytes number start rest l place some line here =
    let ordered = line.ordered in
    let within = line.within in
    let text : take (l.end - l.start) (drop l.start bytes) ≡ front_text rest = line.text ∙ ap (λ k. front_text (drop k bytes)) here ∙ ap front_text (sym place.left) in
    let left : length (drop l.start bytes) ≡ length bytes - l.start = length-drop l.start bytes in
    let size : l.end - l.start ≡ length (front_text rest) = sym (length-take-le (l.end - l.start) (drop l.start bytes) (omega arith)) ∙ ap length text in
    let number_is : number ≡ l.number = place.counted some ∙ sym (line.number ∙ ap (λ k. 1 + count_by is_line_feed (take k bytes)) here) in
    let end_is : start + length (front_text rest) ≡ l.end = omega arith in
    let content : has_content (front_text rest) ≡ true = ap has_content (sym text) ∙ line.content in
    cond-true (has_content (front_text rest)) _ _ content ∙ (λ i. record { number = number_is i; start = sym here i; end = end_is i } ∷ [])

-- a line behind this place is behind its first line feed
line_behind : (bytes : List ℕ) (number start : ℕ) (rest : List ℕ) (l : Line) → IsPlace bytes number start rest → IsLine bytes l → l.start ≤ length bytes → start < l.start → start + (length rest - length (behind rest)) ≤ l.start
line_behind bytes number start rest l place line inside later =
    let n : ℕ = position_or_len is_line_feed rest in
    let most : n ≤ length rest = prefix_len-le-length (λ b. not (is_line_feed b)) rest in
    let size : length rest ≡ length bytes - start = ap length place.left ∙ length-drop start bytes in
    let after : length (behind rest) ≡ length rest - (n + 1) = length-drop (n + 1) rest in
    let k : ℕ = l.start - 1 - start in
    let joined : start + k ≡ l.start - 1 = omega arith in
    ⊎_elim
    (λ first. absurd (omega arith))
    (λ feed.
    let read : get_or rest k 0 ≡ get_or bytes (l.start - 1) 0 = ap (λ xs. get_or xs k 0) place.left ∙ get_or-drop start bytes k 0 ∙ ap (λ j. get_or bytes j 0) joined in
    ⊎_elim
    (λ before. absurd (false≢true (sym (fails_before_first is_line_feed rest k 0 before) ∙ ap is_line_feed read ∙ feed.1)))
    (λ from_it. omega arith)
    (cases_lt k n))
    line.starts

take_nil : (n : ℕ) → take {A = ℕ} n [] ≡ []
take_nil zero = refl
take_nil (suc n) = refl

line_inside : (bytes : List ℕ) (l : Line) → IsLine bytes l → l.start < length bytes
line_inside bytes l line =
    let ordered = line.ordered in
    let within = line.within in
    ⊎_elim
    (λ inside. inside)
    (λ past.
    let none : take (l.end - l.start) (drop l.start bytes) ≡ [] = ap (take (l.end - l.start)) (drop_all l.start bytes past) ∙ take_nil (l.end - l.start) in
    absurd (false≢true (sym (ap has_content none) ∙ line.content)))
    (cases_lt l.start (length bytes))

-- something is left where a line is still to come
some_to_come : (bytes : List ℕ) (number start : ℕ) (rest : List ℕ) (l : Line) → IsPlace bytes number start rest → IsLine bytes l → start ≤ l.start → 0 < length rest
some_to_come bytes number start rest l place line from =
    let inside = line_inside bytes l line in
    let size : length rest ≡ length bytes - start = ap length place.left ∙ length-drop start bytes in
    omega arith

every_from : (bytes : List ℕ) (fuel number start : ℕ) (rest : List ℕ) → length rest ≤ fuel → IsPlace bytes number start rest → (l : Line) → IsLine bytes l → start ≤ l.start → Contains (lines_from number start rest) l
every_from bytes zero number start rest small place l line from = let some = some_to_come bytes number start rest l place line from in absurd (omega arith)
every_from bytes (suc fuel) number start rest small place l line from =
    let some = some_to_come bytes number start rest l place line from in
    let shorter = behind_shorter rest some in
    let inside = line_inside bytes l line in
    let later : ℕ = start + (length rest - length (behind rest)) in
    let step = lines_step number start rest in
    ⊎_elim
    (λ here. subst (λ xs. Contains xs l) (sym (step ∙ ap (λ xs. xs ++ lines_from (number + 1) later (behind rest)) (same_line bytes number start rest l place some line here))) (0, omega arith, refl))
    (λ elsewhere.
    let next = every_from bytes fuel (number + 1) later (behind rest) (omega arith) (next_place bytes number start rest place) l line (line_behind bytes number start rest l place line (omega arith) (omega arith)) in
    subst (λ xs. Contains xs l) (sym step) (Contains-append_right (line_at number start (front_text rest)) (lines_from (number + 1) later (behind rest)) l next))
    (cases_eq l.start start)

pub every_line : (bytes : List ℕ) (l : Line) → IsLine bytes l → Contains (lines_of bytes) l
every_line bytes l line = every_from bytes (length bytes) 1 0 bytes (omega arith) (first_place bytes) l line (omega arith)

-- numbers that rise, from one that is below them on
rising_cons : (n : ℕ) (ns : List ℕ) → All (λ m. n < m) ns → IsStrictlyIncreasing ns → IsStrictlyIncreasing (n ∷ ns)
rising_cons n ns above rising zero more = above 0 0 (omega arith)
rising_cons n ns above rising (suc k) more =
    let next : suc (k + 1) ≡ suc k + 1 = omega arith in
    subst (λ j. get_or ns k 0 < get_or (n ∷ ns) j 0) next (rising k (omega arith))

-- the numbers from this one on, in order
pub record AreRising (number : ℕ) (lines : List Line) : Type 0 where
  pub above : All (λ m. number ≤ m) (map (λ l. l.number) lines)
  pub rising : IsStrictlyIncreasing (map (λ l. l.number) lines)

rising_nil : (number : ℕ) → AreRising number []
rising_nil number = record { above = All-nil (λ m. number ≤ m); rising = λ k more. absurd (omega arith) }

rising_step : (number start : ℕ) (text : List ℕ) (later : List Line) → AreRising (number + 1) later → AreRising number (line_at number start text ++ later)
rising_step number start text later rising =
    cond_both (has_content text) (record { number = number; start = start; end = start + length text } ∷ []) [] (λ xs. AreRising number (xs ++ later))
    (λ _. record {
      above = All-cons (λ m. number ≤ m) number (map (λ l. l.number) later) (omega arith) (All-weaker (λ m. number + 1 ≤ m) (λ m. number ≤ m) (λ m h. omega arith) (map (λ l. l.number) later) rising.above);
      rising = rising_cons number (map (λ l. l.number) later) (All-weaker (λ m. number + 1 ≤ m) (λ m. number < m) (λ m h. omega arith) (map (λ l. l.number) later) rising.above) rising.rising;
    })
    (λ _. record {
      above = All-weaker (λ m. number + 1 ≤ m) (λ m. number ≤ m) (λ m h. omega arith) (map (λ l. l.number) later) rising.above;
      rising = rising.rising;
    })

rising_from : (fuel number start : ℕ) (rest : List ℕ) → length rest ≤ fuel → AreRising number (lines_from number start rest)
rising_from zero number start rest small = subst (AreRising number) (sym (none_left number start rest small)) (rising_nil number)
rising_from (suc fuel) number start rest small =
    ⊎_elim
    (λ some.
    let shorter = behind_shorter rest some in
    subst (AreRising number) (sym (lines_step number start rest))
    (rising_step number start (front_text rest) _ (rising_from fuel (number + 1) (start + (length rest - length (behind rest))) (behind rest) (omega arith))))
    (λ empty. subst (AreRising number) (sym (none_left number start rest empty)) (rising_nil number))
    (cases_lt 0 (length rest))

pub in_order : (bytes : List ℕ) → IsStrictlyIncreasing (map (λ l. l.number) (lines_of bytes))
in_order bytes = (rising_from (length bytes) 1 0 bytes (omega arith)).rising

-- no line has a greater number than the last
pub up_to_last : (bytes : List ℕ) (l : Line) → IsLine bytes l → l.number ≤ last_line bytes
up_to_last bytes l line =
    let inside = line_inside bytes l line in
    let number = line.number in
    let parts : count_by is_line_feed (take l.start bytes) + count_by is_line_feed (drop l.start bytes) ≡ count_by is_line_feed bytes = sum_by-take-drop (λ b. cond (is_line_feed b) 1 0) bytes l.start in
    let place : l.start + (length bytes - 1 - l.start) ≡ length bytes - 1 = omega arith in
    let read : get_or (drop l.start bytes) (length bytes - 1 - l.start) 0 ≡ get_or bytes (length bytes - 1) 0 = get_or-drop l.start bytes (length bytes - 1 - l.start) 0 ∙ ap (λ k. get_or bytes k 0) place in
    let left : length (drop l.start bytes) ≡ length bytes - l.start = length-drop l.start bytes in
    ⊎_elim
    (λ feed.
    let is_one : cond {A = ℕ} (is_line_feed (get_or (drop l.start bytes) (length bytes - 1 - l.start) 0)) 1 0 ≡ 1 = cond-true _ 1 0 (ap is_line_feed read ∙ feed) in
    let one : 1 ≤ count_by is_line_feed (drop l.start bytes) = subst (λ n. n ≤ count_by is_line_feed (drop l.start bytes)) is_one (get_or-le-sum_by (λ b. cond (is_line_feed b) 1 0) (drop l.start bytes) (length bytes - 1 - l.start) 0 (omega arith)) in
    omega arith)
    (λ no_feed.
    let open_end : ends_open bytes ≡ true = and_from _ _ (lt-ltb 0 (length bytes) (omega arith)) (not_from_false _ no_feed) in
    let last : cond {A = ℕ} (ends_open bytes) 1 0 ≡ 1 = cond-true (ends_open bytes) 1 0 open_end in
    omega arith)
    (cases_Bool (is_line_feed (get_or bytes (length bytes - 1) 0)))

-- no more lines than bytes
fewer_from : (fuel number start : ℕ) (rest : List ℕ) → length rest ≤ fuel → length (lines_from number start rest) ≤ length rest
fewer_from zero number start rest small = let none : length (lines_from number start rest) ≡ 0 = ap length (none_left number start rest small) in omega arith
fewer_from (suc fuel) number start rest small =
    let later : ℕ = start + (length rest - length (behind rest)) in
    ⊎_elim
    (λ some.
    let shorter = behind_shorter rest some in
    let next = fewer_from fuel (number + 1) later (behind rest) (omega arith) in
    let step : length (lines_from number start rest) ≡ length (line_at number start (front_text rest)) + length (lines_from (number + 1) later (behind rest))
    = ap length (lines_step number start rest) ∙ length-append (line_at number start (front_text rest)) (lines_from (number + 1) later (behind rest)) in
    let one : length (line_at number start (front_text rest)) ≤ 1
    = cond_both (has_content (front_text rest)) (record { number = number; start = start; end = start + length (front_text rest) } ∷ []) [] (λ xs. length xs ≤ 1) (λ _. omega arith) (λ _. omega arith) in
    omega arith)
    (λ empty. let none : length (lines_from number start rest) ≡ 0 = ap length (none_left number start rest empty) in omega arith)
    (cases_lt 0 (length rest))

pub fewer_lines : (bytes : List ℕ) → length (lines_of bytes) ≤ length bytes
fewer_lines bytes = fewer_from (length bytes) 1 0 bytes (omega arith)
