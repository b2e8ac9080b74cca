-- The numbers of names.
--
--   at_number          what is found by its name stands at the name's number
--   number_same        names that are the same have the same number
--   number_below       a name that is there has a number below the count
--   number_within      and so has the place of a name
--   number_found       a name with a number below the count stands there
--   number_absent      a name that is not there has no place
--   number_more        a name that is there keeps its number where more names stand behind
--   same_by_number     names that are there are the same where their numbers are
--   slice_get-mapped   what is mapped at a place
--   looked_among       a name among others, as it is looked up
use Rattle.std.proofs.Common.{◌≡◌, ℕ, ◌+◌, ◌<◌, ◌≤◌, Bool, true, false, cond, not, ◌||◌, ltb, List, [], ◌∷◌, ◌++◌, length, map, take, Option, Some, None, unwrap_or, refl, sym, ap, subst, ◌∙◌, zero, suc, arith}
use Rattle.std.specs.List.{slice_get, list_any, find, prefix_len, position}
use Rattle.std.specs.Option.{option_map, IfSome}
use Rattle.std.specs.Str.{bytes_eq}
use Rattle.std.proofs.lemmas.Bool.{or_parts, ltb-false, ltb-true, le-ltb}
use Rattle.std.proofs.lemmas.Option.{same_Some}
use Rattle.ipa_spec.specs.Faults.{same_name, has_repeat}
use Rattle.ipa_spec.specs.NameLaws.{same_bytes, same_name-refl, one_name}
use Rattle.ipa_spec.specs.declared.names.Name.{Name}
use Rattle.ipa_names.specs.ListLaws.{any-map}
use Rattle.ipa_names.specs.Naming.{is_among, number_in, number_or_count}

pub slice_get-mapped : {X Y : Type 0} (f : X → Y) (xs : List X) (n : ℕ) (x : X) → slice_get xs n ≡ Some x →
    slice_get (map f xs) n ≡ Some (f x)
slice_get-mapped f [] n x e = cc
slice_get-mapped f (y ∷ xs) zero x e = ap (option_map f) e
slice_get-mapped f (y ∷ xs) (suc n) x e = slice_get-mapped f xs n x e

prefix_within : {X : Type 0} (test : X → Bool) (xs : List X) → prefix_len test xs ≤ length xs
prefix_within test [] = omega arith
prefix_within test (x ∷ xs) = step (test x) (prefix_len test xs) (length xs) (prefix_within test xs)
  where
    step : (b : Bool) (n m : ℕ) → n ≤ m → cond b (1 + n) 0 ≤ suc m
    step true n m h = omega arith
    step false n m h = omega arith

-- the number of a name is the count of the names before it that are others
number_is : (names : List Name) (name : Name) →
    number_or_count names name ≡ prefix_len (λ other. not (same_name other name)) names
number_is names name = step (ltb (prefix_len (λ other. not (same_name other name)) names) (length names)) refl
  where
    step : (b : Bool) → ltb (prefix_len (λ other. not (same_name other name)) names) (length names) ≡ b → unwrap_or (cond b (Some (prefix_len (λ other. not (same_name other name)) names)) None) (length names) ≡ prefix_len (λ other. not (same_name other name)) names
    step true e = refl
    step false e = omega (arith, ltb-false (prefix_len (λ other. not (same_name other name)) names) (length names) e, prefix_within (λ other. not (same_name other name)) names)

prefix_step : {X : Type 0} (b : Bool) (y x : X) (rest : Option X) (n : ℕ) (ys : List X) →
    cond b (Some y) rest ≡ Some x → (rest ≡ Some x → slice_get ys n ≡ Some x) →
    slice_get (y ∷ ys) (cond (not b) (1 + n) 0) ≡ Some x
prefix_step true y x rest n ys e later = e
prefix_step false y x rest n ys e later = let more : suc n ≡ 1 + n = omega arith in subst (λ k. slice_get (y ∷ ys) k ≡ Some x) more (later e)

at_prefix : {X : Type 0} (name_of : X → Name) (xs : List X) (name : Name) (x : X) →
    find (λ y. same_name (name_of y) name) xs ≡ Some x →
    slice_get xs (prefix_len (λ other. not (same_name other name)) (map name_of xs)) ≡ Some x
at_prefix name_of [] name x e = cc
at_prefix name_of (y ∷ ys) name x e =
    prefix_step (same_name (name_of y) name) y x (find (λ z. same_name (name_of z) name) ys) (prefix_len (λ other. not (same_name other name)) (map name_of ys)) ys e (at_prefix name_of ys name x)

pub at_number : {X : Type 0} (name_of : X → Name) (xs : List X) (name : Name) (x : X) →
    find (λ y. same_name (name_of y) name) xs ≡ Some x → slice_get xs (number_or_count (map name_of xs) name) ≡ Some x
at_number name_of xs name x e =
    subst (λ n. slice_get xs n ≡ Some x) (sym (number_is (map name_of xs) name)) (at_prefix name_of xs name x e)

pub number_same : (names : List Name) (a b : Name) → same_name a b ≡ true →
    number_or_count names a ≡ number_or_count names b
number_same names a b h = ap (λ bytes. unwrap_or (position (λ other. bytes_eq (take other.len other.bytes) bytes) names) (length names)) (same_bytes a b h)

below_step : (b rest : Bool) (n m : ℕ) → (b || rest) ≡ true → (rest ≡ true → n < m) → cond (not b) (1 + n) 0 < suc m
below_step true rest n m h later = omega arith
below_step false rest n m h later = let l = later h in omega (arith, l)

prefix_below : (names : List Name) (name : Name) → is_among names name ≡ true →
    prefix_len (λ other. not (same_name other name)) names < length names
prefix_below [] name h = cc
prefix_below (n ∷ names) name h = below_step (same_name n name) (is_among names name) (prefix_len (λ other. not (same_name other name)) names) (length names) h (prefix_below names name)

pub number_below : (names : List Name) (name : Name) → is_among names name ≡ true →
    number_or_count names name < length names
number_below names name h = subst (λ n. n < length names) (sym (number_is names name)) (prefix_below names name h)

-- the place of a name is below the count
pub number_within : (names : List Name) (name : Name) → IfSome (number_in names name) (λ n. n < length names)
number_within names name = step (ltb (prefix_len (λ other. not (same_name other name)) names) (length names)) refl
  where
    step : (b : Bool) → ltb (prefix_len (λ other. not (same_name other name)) names) (length names) ≡ b →
        IfSome (cond b (Some (prefix_len (λ other. not (same_name other name)) names)) None) (λ n. n < length names)
    step true e = ltb-true (prefix_len (λ other. not (same_name other name)) names) (length names) e
    step false e = tt

-- a name with a number below the count stands there
pub number_found : (names : List Name) (name : Name) → number_or_count names name < length names →
    number_in names name ≡ Some (number_or_count names name)
number_found names name l = step (number_in names name) l
  where
    step : (found : Option ℕ) → unwrap_or found (length names) < length names →
        found ≡ Some (unwrap_or found (length names))
    step None l = absurd (omega arith)
    step (Some n) l = refl

prefix_whole : (names : List Name) (name : Name) → is_among names name ≡ false →
    prefix_len (λ other. not (same_name other name)) names ≡ length names
prefix_whole [] name h = refl
prefix_whole (n ∷ names) name h =
    let parts = or_parts (same_name n name) (is_among names name) h in
    let before = prefix_whole names name parts.1 in
    ap (λ b. cond (not b) (1 + prefix_len (λ other. not (same_name other name)) names) 0) parts.0
    ∙ omega (arith, before)

-- a name that is not there has no place
pub number_absent : (names : List Name) (name : Name) → is_among names name ≡ false → number_in names name ≡ None
number_absent names name h =
    let whole = prefix_whole names name h in
    let place : ℕ = prefix_len (λ other. not (same_name other name)) names in
    ap (λ b. cond b (Some place) None) (le-ltb place (length names) (omega (arith, whole)))

prefix_more : (names more : List Name) (name : Name) → is_among names name ≡ true →
    prefix_len (λ other. not (same_name other name)) (names ++ more)
    ≡ prefix_len (λ other. not (same_name other name)) names
prefix_more [] more name h = cc
prefix_more (n ∷ names) more name h = step (same_name n name) h (prefix_more names more name)
  where
    step : (b : Bool) → (b || is_among names name) ≡ true →
        (is_among names name ≡ true → prefix_len (λ other. not (same_name other name)) (names ++ more)
        ≡ prefix_len (λ other. not (same_name other name)) names) →
        cond (not b) (1 + prefix_len (λ other. not (same_name other name)) (names ++ more)) 0
        ≡ cond (not b) (1 + prefix_len (λ other. not (same_name other name)) names) 0
    step true g later = refl
    step false g later = ap (λ n. 1 + n) (later g)

-- a name that is there keeps its number where more names stand behind
pub number_more : (names more : List Name) (name : Name) → is_among names name ≡ true →
    number_or_count (names ++ more) name ≡ number_or_count names name
number_more names more name h =
    number_is (names ++ more) name ∙ prefix_more names more name h ∙ sym (number_is names name)

-- what stands at the place of a name
among_at : (names : List Name) (name : Name) → is_among names name ≡ true →
    (x : Name) × (slice_get names (prefix_len (λ other. not (same_name other name)) names) ≡ Some x)
    × (same_name x name ≡ true)
among_at [] name h = cc
among_at (n ∷ names) name h = step (same_name n name) refl h (among_at names name)
  where
    step : (b : Bool) → same_name n name ≡ b → (b || is_among names name) ≡ true →
        (is_among names name ≡ true → (x : Name)
        × (slice_get names (prefix_len (λ other. not (same_name other name)) names) ≡ Some x)
        × (same_name x name ≡ true)) → (x : Name)
        × (slice_get (n ∷ names) (cond (not b) (1 + prefix_len (λ other. not (same_name other name)) names) 0) ≡ Some x)
        × (same_name x name ≡ true)
    step true is h later = (n, refl, is)
    step false is h later =
        let r = later h in
        let place : ℕ = prefix_len (λ other. not (same_name other name)) names in
        let more : suc place ≡ 1 + place = omega arith in
        (r.0, subst (λ k. slice_get (n ∷ names) k ≡ Some r.0) more r.1, r.2)

-- names that are there are the same where their numbers are
pub same_by_number : (names : List Name) (a b : Name) → is_among names a ≡ true → is_among names b ≡ true →
    number_or_count names a ≡ number_or_count names b → same_name a b ≡ true
same_by_number names a b first second e =
    let x = among_at names a first in
    let y = among_at names b second in
    let places = sym (number_is names a) ∙ e ∙ number_is names b in
    let same : x.0 ≡ y.0 = same_Some x.0 y.0 (sym x.1 ∙ ap (slice_get names) places ∙ y.1) in
    let one : x.0 ≡ a = one_name x.0 a (same_bytes x.0 a x.2) in
    let other : y.0 ≡ b = one_name y.0 b (same_bytes y.0 b y.2) in
    subst (λ n. same_name a n ≡ true) (sym one ∙ same ∙ other) (same_name-refl a)

-- names of which none stands twice, made of others that keep their names
pub repeat-map : {X Y : Type 0} (name_of : Y → Name) (of : X → Y) (xs : List X) →
    has_repeat name_of (map of xs) ≡ has_repeat (λ x. name_of (of x)) xs
repeat-map name_of of [] = refl
repeat-map name_of of (x ∷ xs) = λ i. any-map (λ y. same_name (name_of (of x)) (name_of y)) of xs i || repeat-map name_of of xs i

-- a name among others, as it is looked up
pub looked_among : {eq : Name → Name → Bool} → ((one other : Name) → eq one other ≡ same_name other one) →
    (name : Name) (names : List Name) → list_any (eq name) names ≡ is_among names name
looked_among agrees name [] = refl
looked_among agrees name (y ∷ ys) = λ i. agrees name y i || looked_among agrees name ys i
