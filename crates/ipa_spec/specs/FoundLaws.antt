-- What is found in lists, and what isn't.
--
--   list_any-false   none of the items passes the test
--   none_of          where none does, no item passes it
--   Found, found_at  where one does, it stands at a place
--   any_at           an item that passes is found
--   map_at           what is mapped at a place
--   take_at, at_take what stands at a place among the first
--   declared         what is found, where it must be
--   said_of          what is said of it
--   found_or         what holds of what is found, and of what stands in its place
use Rattle.std.proofs.Common.{◌≡◌, ℕ, ◌<◌, Bool, true, false, ◌||◌, List, [], ◌∷◌, map, take, Option, Some, None, refl, sym, subst, arith, zero, suc}
use Rattle.std.specs.List.{list_any, slice_get}
use Rattle.std.specs.Option.{option_map_or}
use Rattle.std.proofs.lemmas.Bool.{or_parts, or_from, or_left, or_right}
use Rattle.std.proofs.lemmas.Option.{same_Some}

-- none of the items passes the test
pub list_any-false : {X : Type 0} (test : X → Bool) (xs : List X) → list_any test xs ≡ false →
    (n : ℕ) (x : X) → slice_get xs n ≡ Some x → test x ≡ false
list_any-false test [] h n x e = cc
list_any-false test (y ∷ ys) h zero x e =
    let same : y ≡ x = same_Some _ _ e in
    subst (λ z. test z ≡ false) same (or_parts _ _ h).0
list_any-false test (y ∷ ys) h (suc n) x e = list_any-false test ys (or_parts _ _ h).1 n x e

-- where none of the items passes the test, no item passes it
pub none_of : {X : Type 0} (test : X → Bool) (xs : List X) →
    ((n : ℕ) (x : X) → slice_get xs n ≡ Some x → test x ≡ false) → list_any test xs ≡ false
none_of test [] h = refl
none_of test (x ∷ xs) h =
    or_from (test x) (list_any test xs) (h 0 x refl) (none_of test xs (λ n y e. h (suc n) y e))

-- an item that passes the test, at its place
pub record Found {X : Type 0} (test : X → Bool) (xs : List X) : Type 0 where
  pub item : X
  pub place : ℕ
  pub at : slice_get xs place ≡ Some item
  pub passes : test item ≡ true

-- the first passes, or one of the rest
found_first : {X : Type 0} (test : X → Bool) (x : X) (xs : List X) (b : Bool) → test x ≡ b → (b || list_any test xs) ≡ true →
    (list_any test xs ≡ true → Found test xs) → Found test (x ∷ xs)
found_first test x xs true is h rest = record { item = x; place = 0; at = refl; passes = is }
found_first test x xs false is h rest =
    let later = rest h in
    record { item = later.item; place = suc later.place; at = later.at; passes = later.passes }

-- where one of the items passes the test, it stands at a place
pub found_at : {X : Type 0} (test : X → Bool) (xs : List X) → list_any test xs ≡ true → Found test xs
found_at test [] h = cc
found_at test (x ∷ xs) h = found_first test x xs (test x) refl h (found_at test xs)

-- an item that passes is found
pub any_at : {X : Type 0} (test : X → Bool) (xs : List X) (n : ℕ) (x : X) → slice_get xs n ≡ Some x → test x ≡ true →
    list_any test xs ≡ true
any_at test [] n x e h = cc
any_at test (y ∷ ys) zero x e h = or_left (test y) (list_any test ys) (subst (λ z. test z ≡ true) (sym (same_Some _ _ e)) h)
any_at test (y ∷ ys) (suc n) x e h = or_right (test y) (list_any test ys) (any_at test ys n x e h)

-- what is mapped at a place
pub map_at : {X Y : Type 0} (of : X → Y) (xs : List X) (k : ℕ) (y : Y) →
    slice_get (map of xs) k ≡ Some y → (x : X) × (slice_get xs k ≡ Some x) × (of x ≡ y)
map_at of [] k y e = cc
map_at of (x ∷ xs) zero y e = (x, refl, same_Some _ _ e)
map_at of (x ∷ xs) (suc k) y e = map_at of xs k y e

-- what stands at a place among the first
pub take_at : {X : Type 0} (n : ℕ) (xs : List X) (k : ℕ) (x : X) →
    slice_get (take n xs) k ≡ Some x → (k < n) × (slice_get xs k ≡ Some x)
take_at zero xs k x e = cc
take_at (suc n) [] k x e = cc
take_at (suc n) (y ∷ xs) zero x e = (omega arith, e)
take_at (suc n) (y ∷ xs) (suc k) x e = let rest = take_at n xs k x e in (omega arith, rest.1)

-- what stands at a place stands there among the first too
pub at_take : {X : Type 0} (n : ℕ) (xs : List X) (k : ℕ) (x : X) → k < n → slice_get xs k ≡ Some x →
    slice_get (take n xs) k ≡ Some x
at_take zero xs k x l e = absurd (omega arith)
at_take (suc n) [] k x l e = cc
at_take (suc n) (y ∷ xs) zero x l e = e
at_take (suc n) (y ∷ xs) (suc k) x l e = at_take n xs k x (omega arith) e

-- what must be found is found
pub declared : {X : Type 0} (test : X → Bool) (found : Option X) →
    option_map_or test found true ≡ false → (x : X) × (found ≡ Some x)
declared test None h = cc
declared test (Some x) h = (x, refl)

-- what is said of it
pub said_of : {X : Type 0} (test : X → Bool) (none : Bool) (found : Option X) (x : X) →
    found ≡ Some x → option_map_or test found none ≡ false → test x ≡ false
said_of test none found x e h = let P : Option _ →
    Type 0 = λ o. option_map_or test o none ≡ false in subst P e h

-- what holds of each thing that may be found holds of what is found, and of what stands in its place
pub found_or : {X Y : Type 0} (P : Y → Type 0) (of : X → Y) (found : Option X) (none : Y) → P none →
    ((x : X) → found ≡ Some x → P (of x)) → P (option_map_or of found none)
found_or P of None none base some = base
found_or P of (Some x) none base some = some x refl
