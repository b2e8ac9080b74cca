-- More names in the list of a number.
--
--   elements_at-pad an empty list behind the others changes no list
--   with_more-pad   nor what more names give
--   with_more-put   the list is taken out, extended and put back
--   name_new        the name at a place is new where none stands twice
--   pushed          a new name goes last
use Rattle.std.proofs.Common.{◌≡◌, ℕ, ◌<◌, ◌≤◌, Bool, true, false, cond, List, [], ◌∷◌, ◌++◌, length, take, drop, get_or, append_assoc, refl, sym, ap, ◌∙◌, zero, suc, arith}
use Rattle.std.proofs.lemmas.Bool.{false≢true}
use Rattle.indexmap.specs.IndexSet.{insert_key}
use Rattle.ipa_spec.specs.Faults.{same_name, has_repeat}
use Rattle.ipa_names.specs.ListLaws.{repeat_found, split_at}
use Rattle.ipa_names.specs.Naming.{is_among}
use Rattle.ipa_names.specs.NumberLaws.{looked_among}
use Rattle.std.specs.List.{insert, remove, slice_index_or}
use Rattle.ipa_spec.specs.declared.names.Name.{Name}
use Rattle.ipa_reader.specs.Arrangements.{elements_at, with_more}

pub with_more-pad : (n : ℕ) (names : List Name) (xs : List (List Name)) → length xs ≤ n → with_more n names (xs ++ [] ∷ []) ≡ with_more n names xs
with_more-pad zero names [] h = refl
with_more-pad zero names (x ∷ xs) h = absurd (omega arith)
with_more-pad (suc n) names [] h = refl
with_more-pad (suc n) names (x ∷ xs) h = ap (λ rest. x ∷ rest) (with_more-pad n names xs (omega arith))

pub with_more-put : (n : ℕ) (names : List Name) (xs : List (List Name)) (own : List Name) → n < length xs → own ≡ slice_index_or xs n own → insert (remove xs n) n (own ++ names) ≡ with_more n names xs
with_more-put zero names [] own h e = absurd (omega arith)
with_more-put zero names (x ∷ xs) own h e = ap (λ o. (o ++ names) ∷ xs) e
with_more-put (suc n) names [] own h e = absurd (omega arith)
with_more-put (suc n) names (x ∷ xs) own h e = ap (λ rest. x ∷ rest) (with_more-put n names xs own (omega arith) e)

pub elements_at-pad : (n : ℕ) (xs : List (List Name)) → length xs ≤ n → elements_at (xs ++ [] ∷ []) n ≡ elements_at xs n
elements_at-pad zero [] h = refl
elements_at-pad zero (x ∷ xs) h = absurd (omega arith)
elements_at-pad (suc n) [] h = refl
elements_at-pad (suc n) (x ∷ xs) h = elements_at-pad n xs (omega arith)

-- the name at a place is new where none stands twice
pub name_new : (own names : List Name) (n : ℕ) (name : Name) → n < length names → name ≡ get_or names n name → has_repeat (λ x. x) (own ++ names) ≡ false → is_among (own ++ take n names) name ≡ false
name_new own names n name within at once = decide (is_among (own ++ take n names) name) refl
  where
    whole : (own ++ take n names) ++ name ∷ drop (suc n) names ≡ own ++ names
    whole = append_assoc own (take n names) (name ∷ drop (suc n) names) ∙ ap (λ rest. own ++ rest) (ap (λ x. take n names ++ x ∷ drop (suc n) names) at ∙ split_at names n name within)

    decide : (b : Bool) → is_among (own ++ take n names) name ≡ b → b ≡ false
    decide false e = refl
    decide true e = absurd (false≢true (sym once ∙ (ap (has_repeat (λ x. x)) (sym whole) ∙ repeat_found (own ++ take n names) (drop (suc n) names) name e)))

-- a new name goes last
pub pushed : {eq : Name → Name → Bool} → ((one other : Name) → eq one other ≡ same_name other one) → (names : List Name) (name : Name) → is_among names name ≡ false → insert_key eq names name ≡ names ++ name ∷ []
pushed agrees names name new = ap (λ b. cond b names (names ++ name ∷ [])) (looked_among agrees name names ∙ new)
