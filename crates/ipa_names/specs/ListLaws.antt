-- Laws on lists with one more item behind, and with the last item changed.
--
--   at_seam            what stands behind the first items
--   at_push            an item of the longer list is one of the others, or the last
--   each_push, each_last, each_weaken   what holds of each item
--   any_push           a test of some item
--   any_same, any_weaken, any-map   tests that agree
--   repeat_push, repeat-with_last   names of which none stands twice
--   repeat_found       a name that stands among those before it stands twice
--   split_at           the items before a place, the one there, and the others
--   find_at, found_first, found_behind, found_none   what is found first, and where nothing is
--   zip_first          the first of two that stand at a place
--   mapped_more        the items made of the first ones, with one more
--   AllZip-push        a relation of two lists, place by place
--   with_last_is       with the last item changed, the items before it stay
--   with_last_put      the last item is taken off, changed and put back
use Rattle.std.proofs.Common.{◌≡◌, ℕ, ◌+◌, ◌<◌, ◌⊎◌, inl, inr, Bool, true, false, cond, ◌-◌, ◌||◌, List, [], ◌∷◌, ◌++◌, length, map, take, Option, Some, None, refl, sym, ap, subst, ◌∙◌, zero, suc, arith, drop, get_or}
use Rattle.std.specs.List.{slice_get, slice_index_or, list_any, find, zip, AllZip}
use Rattle.std.specs.Option.{option_map}
use Rattle.std.proofs.lemmas.List.{map-append, take_more}
use Rattle.std.proofs.lemmas.Bool.{or_from, or_parts, or_cases, or_left, or_right}
use Rattle.std.proofs.lemmas.Option.{same_Some}
use Rattle.std.proofs.lemmas.List.Folds.{list_any-append}
use Rattle.ipa_spec.specs.Faults.{same_name, has_repeat}
use Rattle.ipa_spec.specs.declared.names.Name.{Name}
use Rattle.ipa_names.specs.Naming.{last_of, with_last}
use Rattle.ipa_names.specs.Soundness.{EachOf}

pub at_seam : {X : Type 0} (xs ys : List X) (x : X) → slice_get (xs ++ x ∷ ys) (length xs) ≡ Some x
at_seam [] ys x = refl
at_seam (z ∷ xs) ys x = at_seam xs ys x

pub at_push : {X : Type 0} (xs : List X) (x : X) (k : ℕ) (y : X) → slice_get (xs ++ x ∷ []) k ≡ Some y →
    ((k < length xs) × (slice_get xs k ≡ Some y)) ⊎ ((k ≡ length xs) × (x ≡ y))
at_push [] x zero y e = inr (refl, same_Some _ _ e)
at_push [] x (suc k) y e = cc
at_push (z ∷ xs) x zero y e = inl (omega arith, e)
at_push (z ∷ xs) x (suc k) y e =
    elim (at_push xs x k y e) [ inl h ↦ inl (omega arith, h.1) | inr h ↦ inr (omega arith, h.1) ]

pub each_push : {X : Type 0} {P : X → Type 0} (xs : List X) (x : X) → EachOf P xs → P x → EachOf P (xs ++ x ∷ [])
each_push {X} {P} xs x h p = record { at = λ k y e. elim (at_push xs x k y e) [ inl g ↦ h.at k y g.1 | inr g ↦ subst P g.1 p ] }

pub each_weaken : {X : Type 0} {P Q : X → Type 0} (xs : List X) → EachOf P xs → ((x : X) → P x → Q x) → EachOf Q xs
each_weaken xs h weaker = record { at = λ k x e. weaker x (h.at k x e) }

-- an item of the list with its last item changed
pub at_last : {X : Type 0} (change : X → X) (xs : List X) (k : ℕ) (y : X) → slice_get (with_last change xs) k ≡ Some y →
    (slice_get xs k ≡ Some y) ⊎ ((x : X) × (slice_get xs k ≡ Some x) × (last_of xs ≡ Some x) × (change x ≡ y))
at_last change [] k y e = cc
at_last change (x ∷ []) zero y e = inr (x, refl, refl, same_Some _ _ e)
at_last change (x ∷ []) (suc k) y e = cc
at_last change (x ∷ z ∷ xs) zero y e = inl e
at_last change (x ∷ z ∷ xs) (suc k) y e = elim (at_last change (z ∷ xs) k y e) [ inl h ↦ inl h | inr h ↦ inr (h.0, h.1, last_more x (z ∷ xs) h.0 (omega arith) h.2, h.3) ]
  where
    last_more : {X : Type 0} (x : X) (xs : List X) (y : X) → 0 < length xs → last_of xs ≡ Some y →
        last_of (x ∷ xs) ≡ Some y
    last_more x [] y h e = absurd (omega arith)
    last_more x (z ∷ xs) y h e =
        let short : suc (length xs) - 1 ≡ length xs = omega arith in
        let long : suc (suc (length xs)) - 1 ≡ suc (length xs) = omega arith in
        let here : slice_get (z ∷ xs) (length xs) ≡ Some y = subst (λ k. slice_get (z ∷ xs) k ≡ Some y) short e in
        subst (λ k. slice_get (x ∷ z ∷ xs) k ≡ Some y) (sym long) here

pub each_last : {X : Type 0} {P : X → Type 0} (change : X → X) (xs : List X) → EachOf P xs →
    ((x : X) → last_of xs ≡ Some x → P x → P (change x)) → EachOf P (with_last change xs)
each_last {X} {P} change xs h changed = record { at = λ k y e. elim (at_last change xs k y e) [ inl g ↦ h.at k y g | inr g ↦ subst P g.3 (changed g.0 g.2 (h.at k g.0 g.1)) ] }

pub length-with_last : {X : Type 0} (change : X → X) (xs : List X) → length (with_last change xs) ≡ length xs
length-with_last change [] = refl
length-with_last change (x ∷ []) = refl
length-with_last change (x ∷ z ∷ xs) = ap suc (length-with_last change (z ∷ xs))

pub any_push : {X : Type 0} (test : X → Bool) (xs : List X) (x : X) → list_any test xs ≡ false → test x ≡ false →
    list_any test (xs ++ x ∷ []) ≡ false
any_push test xs x h e = list_any-append test xs (x ∷ []) ∙ or_from _ _ h (or_from (test x) false e refl)

-- a test that passes on no item, where another passes on none
pub any_weaken : {X : Type 0} (test other : X → Bool) (xs : List X) → list_any test xs ≡ false →
    ((x : X) → test x ≡ false → other x ≡ false) → list_any other xs ≡ false
any_weaken test other [] h weaker = refl
any_weaken test other (x ∷ xs) h weaker = or_from (other x) (list_any other xs) (weaker x (or_parts (test x) (list_any test xs) h).0) (any_weaken test other xs (or_parts (test x) (list_any test xs) h).1 weaker)

-- two tests that agree on each item
pub any_same : {X : Type 0} (test other : X → Bool) (xs : List X) →
    ((n : ℕ) (x : X) → slice_get xs n ≡ Some x → other x ≡ test x) → list_any other xs ≡ list_any test xs
any_same test other [] h = refl
any_same test other (x ∷ xs) h = λ i. h 0 x refl i || any_same test other xs (λ n y e. h (suc n) y e) i

pub any-map : {X Y : Type 0} (test : Y → Bool) (of : X → Y) (xs : List X) →
    list_any test (map of xs) ≡ list_any (λ x. test (of x)) xs
any-map test of [] = refl
any-map test of (x ∷ xs) = ap (λ b. test (of x) || b) (any-map test of xs)

-- a test that the changed last item passes as before
any-with_last : {X : Type 0} (test : X → Bool) (change : X → X) (xs : List X) → ((x : X) → test (change x) ≡ test x) →
    list_any test (with_last change xs) ≡ list_any test xs
any-with_last test change [] same = refl
any-with_last test change (x ∷ []) same = ap (λ b. b || false) (same x)
any-with_last test change (x ∷ z ∷ xs) same = ap (λ b. test x || b) (any-with_last test change (z ∷ xs) same)

-- names of which none stands twice
pub repeat_push : {X : Type 0} (name_of : X → Name) (xs : List X) (x : X) → has_repeat name_of xs ≡ false →
    list_any (λ y. same_name (name_of y) (name_of x)) xs ≡ false → has_repeat name_of (xs ++ x ∷ []) ≡ false
repeat_push name_of [] x h e = refl
repeat_push name_of (y ∷ xs) x h e =
    let first = or_parts (list_any (λ z. same_name (name_of y) (name_of z)) xs) (has_repeat name_of xs) h in
    let again = or_parts (same_name (name_of y) (name_of x)) (list_any (λ z. same_name (name_of z) (name_of x)) xs) e in
    or_from (list_any (λ z. same_name (name_of y) (name_of z)) (xs ++ x ∷ [])) (has_repeat name_of (xs ++ x ∷ [])) (any_push (λ z. same_name (name_of y) (name_of z)) xs x first.0 again.0) (repeat_push name_of xs x first.1 again.1)

pub repeat-with_last : {X : Type 0} (name_of : X → Name) (change : X → X) (xs : List X) →
    ((x : X) → name_of (change x) ≡ name_of x) → has_repeat name_of (with_last change xs) ≡ has_repeat name_of xs
repeat-with_last name_of change [] same = refl
repeat-with_last name_of change (x ∷ []) same = refl
repeat-with_last name_of change (x ∷ z ∷ xs) same = λ i.
    any-with_last (λ y. same_name (name_of x) (name_of y)) change (z ∷ xs) (λ y. ap (same_name (name_of x)) (same y)) i || repeat-with_last name_of change (z ∷ xs) same i

find_step : {X : Type 0} (b : Bool) (y x : X) (rest : Option X) (xs : List X) → cond b (Some y) rest ≡ Some x →
    (rest ≡ Some x → (k : ℕ) × (slice_get xs k ≡ Some x)) → (k : ℕ) × (slice_get (y ∷ xs) k ≡ Some x)
find_step true y x rest xs e later = (0, e)
find_step false y x rest xs e later = let r = later e in (suc r.0, r.1)

-- what is found stands at some place
pub find_at : {X : Type 0} (test : X → Bool) (xs : List X) (x : X) → find test xs ≡ Some x →
    (k : ℕ) × (slice_get xs k ≡ Some x)
find_at test [] x e = cc
find_at test (y ∷ xs) x e = find_step (test y) y x (find test xs) xs e (find_at test xs x)

found_step : {X : Type 0} (b : Bool) (y x : X) (rest more : Option X) → cond b (Some y) rest ≡ Some x →
    (rest ≡ Some x → more ≡ Some x) → cond b (Some y) more ≡ Some x
found_step true y x rest more e later = e
found_step false y x rest more e later = later e

-- what is found first is found first with more behind
pub found_first : {X : Type 0} (test : X → Bool) (xs ys : List X) (x : X) → find test xs ≡ Some x →
    find test (xs ++ ys) ≡ Some x
found_first test [] ys x h = cc
found_first test (y ∷ xs) ys x h =
    found_step (test y) y x (find test xs) (find test (xs ++ ys)) h (found_first test xs ys x)

-- what is found among more items, where it is not among the first
pub found_behind : {X : Type 0} (test : X → Bool) (xs ys : List X) → find test xs ≡ None →
    find test (xs ++ ys) ≡ find test ys
found_behind test [] ys h = refl
found_behind test (x ∷ xs) ys h = step (test x) h (found_behind test xs ys)
  where
    step : (b : Bool) → cond b (Some x) (find test xs) ≡ None →
        (find test xs ≡ None → find test (xs ++ ys) ≡ find test ys) →
        cond b (Some x) (find test (xs ++ ys)) ≡ find test ys
    step true g later = cc
    step false g later = later g

-- where nothing is found no item passes
pub found_none : {X : Type 0} (test : X → Bool) (xs : List X) → find test xs ≡ None → list_any test xs ≡ false
found_none test [] h = refl
found_none test (x ∷ xs) h = step (test x) h (found_none test xs)
  where
    step : (b : Bool) → cond b (Some x) (find test xs) ≡ None → (find test xs ≡ None → list_any test xs ≡ false) →
        (b || list_any test xs) ≡ false
    step true g later = cc
    step false g later = later g

-- the first of two that stand at a place
pub zip_first : {X Y : Type 0} (xs : List X) (ys : List Y) (n : ℕ) (x : X) (y : Y) →
    slice_get (zip xs ys) n ≡ Some (x, y) → slice_get xs n ≡ Some x
zip_first [] ys n x y e = cc
zip_first (a ∷ xs) [] n x y e = cc
zip_first (a ∷ xs) (b ∷ ys) zero x y e = ap (option_map (λ p. p.0)) e
zip_first (a ∷ xs) (b ∷ ys) (suc n) x y e = zip_first xs ys n x y e

-- the items made of the first ones, with one more
pub mapped_more : {X Y : Type 0} (f : X → Y) (xs : List X) (i : ℕ) (x : X) (all now : List Y) (y : Y) → i < length xs →
    x ≡ slice_index_or xs i x → all ≡ map f (take i xs) → y ≡ f x → now ≡ all ++ y ∷ [] → now ≡ map f (take (i + 1) xs)
mapped_more f xs i x all now y lt at before made is =
    let joined : map f (take i xs) ++ f x ∷ [] ≡ map f (take i xs ++ x ∷ []) = sym (map-append f (take i xs) (x ∷ [])) in
    let front : take (i + 1) xs ≡ take i xs ++ x ∷ [] = take_more xs i x lt ∙ ap (λ z. take i xs ++ z ∷ []) (sym at) in
    is ∙ ap (λ a. a ++ y ∷ []) before ∙ ap (λ z. map f (take i xs) ++ z ∷ []) made ∙ joined ∙ ap (map f) (sym front)

pub AllZip-push : {A B : Type 0} (R : A → B → Type 0) (xs : List A) (ys : List B) (x : A) (y : B) → AllZip R xs ys →
    R x y → AllZip R (xs ++ x ∷ []) (ys ++ y ∷ [])
AllZip-push R [] [] x y h r = (r, tt)
AllZip-push R [] (b ∷ ys) x y h r = absurd h
AllZip-push R (a ∷ xs) [] x y h r = absurd h
AllZip-push R (a ∷ xs) (b ∷ ys) x y h r = (h.0, AllZip-push R xs ys x y h.1 r)

pub AllZip-length : {A B : Type 0} (R : A → B → Type 0) (xs : List A) (ys : List B) → AllZip R xs ys →
    length xs ≡ length ys
AllZip-length R [] [] h = refl
AllZip-length R [] (b ∷ ys) h = absurd h
AllZip-length R (a ∷ xs) [] h = absurd h
AllZip-length R (a ∷ xs) (b ∷ ys) h = ap suc (AllZip-length R xs ys h.1)

-- with the last item changed, the items before it stay
pub with_last-append : {X : Type 0} (change : X → X) (xs : List X) (x : X) →
    with_last change (xs ++ x ∷ []) ≡ xs ++ change x ∷ []
with_last-append change [] x = refl
with_last-append change (y ∷ []) x = refl
with_last-append change (y ∷ z ∷ xs) x = ap (λ rest. y ∷ rest) (with_last-append change (z ∷ xs) x)

pub with_last_is : {X : Type 0} (change : X → X) (all xs : List X) (x : X) → all ≡ xs ++ x ∷ [] →
    with_last change all ≡ xs ++ change x ∷ []
with_last_is change all xs x e = ap (with_last change) e ∙ with_last-append change xs x

-- the last item is taken off, changed and put back
pub with_last_put : {X : Type 0} (change : X → X) (all items rest final : List X) (last grown : X) → items ≡ all →
    items ≡ rest ++ last ∷ [] → grown ≡ change last → final ≡ rest ++ grown ∷ [] → final ≡ with_last change all
with_last_put change all items rest final last grown same parts changed is =
    is ∙ ap (λ g. rest ++ g ∷ []) changed ∙ sym (with_last_is change all rest last (sym same ∙ parts))

-- a name that stands among those before it stands twice
pub repeat_found : (xs ys : List Name) (x : Name) → list_any (λ y. same_name y x) xs ≡ true →
    has_repeat (λ name. name) (xs ++ x ∷ ys) ≡ true
repeat_found [] ys x h = cc
repeat_found (z ∷ xs) ys x h = elim (or_cases (same_name z x) (list_any (λ y. same_name y x) xs) h) [
  | inl here ↦ or_left (list_any (λ y. same_name z y) (xs ++ x ∷ ys)) (has_repeat (λ name. name) (xs ++ x ∷ ys)) (list_any-append (λ y. same_name z y) xs (x ∷ ys) ∙ or_right (list_any (λ y. same_name z y) xs) (list_any (λ y. same_name z y) (x ∷ ys)) (or_left (same_name z x) (list_any (λ y. same_name z y) ys) here))
  | inr later ↦ or_right (list_any (λ y. same_name z y) (xs ++ x ∷ ys)) (has_repeat (λ name. name) (xs ++ x ∷ ys)) (repeat_found xs ys x later)
]

pub split_at : {X : Type 0} (xs : List X) (n : ℕ) (d : X) → n < length xs →
    take n xs ++ get_or xs n d ∷ drop (suc n) xs ≡ xs
split_at [] n d h = absurd (omega (arith, h))
split_at (x ∷ xs) zero d h = refl
split_at (x ∷ xs) (suc n) d h = ap (λ ys. x ∷ ys) (split_at xs n d (omega (arith, h)))
