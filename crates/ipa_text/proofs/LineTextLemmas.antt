-- The bytes of the lines are those of the pieces.
use Rattle.std.proofs.Common.{◌≡◌, ℕ, suc, zero, ◌+◌, ◌-◌, ◌<◌, ◌≤◌, cond, List, [], ◌∷◌, ◌++◌, map, length, sym, ap, ◌∙◌, ⊎_elim, arith}
use Rattle.std.specs.Str.Lines.{strip_carriage_return}
use Rattle.std.proofs.lemmas.Bool.{cases_lt, cases_Bool, cond-true, cond-false, cond_both}
use Rattle.std.proofs.lemmas.List.{nil_from_length}
use Rattle.std.proofs.lemmas.List.{map-append}
use Rattle.std.specs.List.{filter}
use Rattle.ipa_text.specs.Lines.{pieces, line_text, has_content, line_at, lines_from, lines_of}
use Rattle.ipa_text.proofs.PlaceLemmas.{IsPlace, first_place, next_place, place_line, none_left, behind_shorter}
use Rattle.ipa_text.proofs.LineLemmas.{behind, in_front, front_text, first_piece, lines_step}

-- the bytes of the lines in some pieces
abbrev content_of : List (List ℕ) → List (List ℕ)
content_of parts = filter has_content (map strip_carriage_return parts)

content_cons : (part : List ℕ) (parts : List (List ℕ)) → content_of (part ∷ parts) ≡ cond (has_content (strip_carriage_return part)) (strip_carriage_return part ∷ []) [] ++ content_of parts
content_cons part parts =
    cond_both (has_content (strip_carriage_return part)) (strip_carriage_return part ∷ content_of parts) (content_of parts)
    (λ xs. xs ≡ cond (has_content (strip_carriage_return part)) (strip_carriage_return part ∷ []) [] ++ content_of parts)
    (λ content. sym (ap (λ xs. xs ++ content_of parts) (cond-true _ (strip_carriage_return part ∷ []) [] content)))
    (λ empty. sym (ap (λ xs. xs ++ content_of parts) (cond-false _ (strip_carriage_return part ∷ []) [] empty)))

content_step : (rest : List ℕ) → content_of (pieces rest) ≡ cond (has_content (front_text rest)) (front_text rest ∷ []) [] ++ content_of (pieces (behind rest))
content_step rest =
    ⊎_elim
    (λ more. ap content_of more.first ∙ content_cons (in_front rest) (pieces (behind rest)))
    (λ last.
    ap content_of last.alone ∙ content_cons (in_front rest) []
    ∙ ap (λ xs. cond (has_content (front_text rest)) (front_text rest ∷ []) [] ++ content_of (pieces xs)) (sym last.nothing))
    (first_piece rest)

-- the bytes of the line at a place
text_at : (bytes : List ℕ) (number start : ℕ) (rest : List ℕ) → IsPlace bytes number start rest → 0 < length rest → map (line_text bytes) (line_at number start (front_text rest)) ≡ cond (has_content (front_text rest)) (front_text rest ∷ []) []
text_at bytes number start rest place some =
    ⊎_elim
    (λ content.
    let line = place_line bytes number start rest place some content in
    ap (map (line_text bytes)) (cond-true (has_content (front_text rest)) _ [] content)
    ∙ ap (λ text. text ∷ []) (line.text ∙ ap front_text (sym place.left))
    ∙ sym (cond-true (has_content (front_text rest)) (front_text rest ∷ []) [] content))
    (λ empty. ap (map (line_text bytes)) (cond-false (has_content (front_text rest)) _ [] empty) ∙ sym (cond-false (has_content (front_text rest)) (front_text rest ∷ []) [] empty))
    (cases_Bool (has_content (front_text rest)))

none_in : (rest : List ℕ) → length rest ≤ 0 → content_of (pieces rest) ≡ []
none_in rest empty = ap (λ xs. content_of (pieces xs)) (nil_from_length rest (omega arith))

texts_from : (bytes : List ℕ) (fuel number start : ℕ) (rest : List ℕ) → length rest ≤ fuel → IsPlace bytes number start rest → map (line_text bytes) (lines_from number start rest) ≡ content_of (pieces rest)
texts_from bytes zero number start rest small place = ap (map (line_text bytes)) (none_left number start rest small) ∙ sym (none_in rest small)
texts_from bytes (suc fuel) number start rest small place =
    let later : ℕ = start + (length rest - length (behind rest)) in
    ⊎_elim
    (λ some.
    let shorter = behind_shorter rest some in
    ap (map (line_text bytes)) (lines_step number start rest)
    ∙ map-append (line_text bytes) (line_at number start (front_text rest)) (lines_from (number + 1) later (behind rest))
    ∙ (λ i. text_at bytes number start rest place some i ++ texts_from bytes fuel (number + 1) later (behind rest) (omega arith) (next_place bytes number start rest place) i)
    ∙ sym (content_step rest))
    (λ empty. ap (map (line_text bytes)) (none_left number start rest empty) ∙ sym (none_in rest empty))
    (cases_lt 0 (length rest))

-- the lines have the bytes of the pieces, those with content
pub texts_are : (bytes : List ℕ) → map (line_text bytes) (lines_of bytes) ≡ filter has_content (map strip_carriage_return (pieces bytes))
texts_are bytes = texts_from bytes (length bytes) 1 0 bytes (omega arith) (first_place bytes)
