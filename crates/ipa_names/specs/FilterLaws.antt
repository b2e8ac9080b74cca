-- Laws on the items that pass a test.
--
--   Passing, passing_at   an item that passes stands among all
--   filter_fewer          of some of the items no more pass a test than of all
--   filter_weaker         a test that passes more
--   filter_none           where no item passes
--   filter_same           tests that agree
--   filter_any            what no item passes, none that is left passes
--   length-filter_mapped  as many items pass as of those that they are made of
use Rattle.std.proofs.Common.{◌≡◌, ℕ, ◌≤◌, Bool, true, false, cond, List, [], ◌∷◌, length, map, filter, Some, refl, ap, subst, ◌∙◌, zero, suc, arith}
use Rattle.std.specs.List.{slice_get, list_any}
use Rattle.std.proofs.lemmas.Bool.{or_parts, false≢true}
use Rattle.std.proofs.lemmas.Option.{same_Some}
use Rattle.ipa_spec.specs.FoundLaws.{list_any-false, none_of}

pub record Passing {X : Type 0} (test : X → Bool) (xs : List X) (x : X) : Type 0 where
  pub passes : test x ≡ true
  pub place : ℕ
  pub at : slice_get xs place ≡ Some x

passing_step : {X : Type 0} (test : X → Bool) (y : X) (ys : List X) (b : Bool) → test y ≡ b →
    ((n : ℕ) (x : X) → slice_get (filter test ys) n ≡ Some x → Passing test ys x) → (n : ℕ) (x : X) →
    slice_get (cond b (y ∷ filter test ys) (filter test ys)) n ≡ Some x → Passing test (y ∷ ys) x
passing_step test y ys true is later zero x e =
    record { passes = subst (λ z. test z ≡ true) (same_Some y x e) is; place = 0; at = e }
passing_step test y ys true is later (suc n) x e =
    let r = later n x e in record { passes = r.passes; place = suc r.place; at = r.at }
passing_step test y ys false is later n x e =
    let r = later n x e in record { passes = r.passes; place = suc r.place; at = r.at }

pub passing_at : {X : Type 0} (test : X → Bool) (xs : List X) (n : ℕ) (x : X) →
    slice_get (filter test xs) n ≡ Some x → Passing test xs x
passing_at test [] n x e = cc
passing_at test (y ∷ ys) n x e = passing_step test y ys (test y) refl (passing_at test ys) n x e

skipped : {X : Type 0} (test : X → Bool) (x : X) (xs : List X) (a : Bool) →
    length (filter test (cond a (x ∷ xs) xs)) ≤ length (cond (test x) (x ∷ filter test xs) (filter test xs))
skipped test x xs true = omega arith
skipped test x xs false = step (test x)
  where
    step : (b : Bool) → length (filter test xs) ≤ length (cond b (x ∷ filter test xs) (filter test xs))
    step true = omega arith
    step false = omega arith

longer : {X : Type 0} (b : Bool) (x : X) (xs ys : List X) → length xs ≤ length ys →
    length (cond b (x ∷ xs) xs) ≤ length (cond b (x ∷ ys) ys)
longer true x xs ys h = omega arith
longer false x xs ys h = h

pub filter_fewer : {X : Type 0} (test other : X → Bool) (xs : List X) →
    length (filter test (filter other xs)) ≤ length (filter test xs)
filter_fewer test other [] = omega arith
filter_fewer test other (x ∷ xs) =
    let here = skipped test x (filter other xs) (other x) in
    let later = longer (test x) x (filter test (filter other xs)) (filter test xs) (filter_fewer test other xs) in
    omega (arith, here, later)

pub filter_weaker : {X : Type 0} (test other : X → Bool) (xs : List X) →
    ((n : ℕ) (x : X) → slice_get xs n ≡ Some x → test x ≡ true → other x ≡ true) →
    length (filter test xs) ≤ length (filter other xs)
filter_weaker test other [] h = omega arith
filter_weaker test other (x ∷ xs) h =
    step (test x) (other x) (h 0 x refl) (filter_weaker test other xs (λ n y e. h (suc n) y e))
  where
    step : (a b : Bool) → (a ≡ true → b ≡ true) → length (filter test xs) ≤ length (filter other xs) →
        length (cond a (x ∷ filter test xs) (filter test xs)) ≤ length (cond b (x ∷ filter other xs) (filter other xs))
    step true true weaker l = omega arith
    step true false weaker l = absurd (false≢true (weaker refl))
    step false true weaker l = omega arith
    step false false weaker l = l

pub filter_none : {X : Type 0} (test : X → Bool) (xs : List X) → list_any test xs ≡ false → length (filter test xs) ≡ 0
filter_none test [] h = refl
filter_none test (x ∷ xs) h =
    let parts = or_parts (test x) (list_any test xs) h in
    ap (λ b. length (cond b (x ∷ filter test xs) (filter test xs))) parts.0 ∙ filter_none test xs parts.1

pub filter_same : {X : Type 0} (test other : X → Bool) (xs : List X) →
    ((n : ℕ) (x : X) → slice_get xs n ≡ Some x → other x ≡ test x) → filter other xs ≡ filter test xs
filter_same test other [] h = refl
filter_same test other (x ∷ xs) h =
    λ i. cond (h 0 x refl i) (x ∷ filter_same test other xs (λ n y e. h (suc n) y e) i)
    (filter_same test other xs (λ n y e. h (suc n) y e) i)

pub filter_any : {X : Type 0} (test other : X → Bool) (xs : List X) → list_any test xs ≡ false →
    list_any test (filter other xs) ≡ false
filter_any test other xs h =
    none_of test (filter other xs)
    (λ n x e. let p = passing_at other xs n x e in list_any-false test xs h p.place x p.at)

pub length-filter_mapped : {X Y : Type 0} (test : Y → Bool) (of : X → Y) (xs : List X) →
    length (filter test (map of xs)) ≡ length (filter (λ x. test (of x)) xs)
length-filter_mapped test of [] = refl
length-filter_mapped test of (x ∷ xs) = step (test (of x)) (length-filter_mapped test of xs)
  where
    step : (b : Bool) → length (filter test (map of xs)) ≡ length (filter (λ x. test (of x)) xs) →
        length (cond b (of x ∷ filter test (map of xs)) (filter test (map of xs)))
        ≡ length (cond b (x ∷ filter (λ x. test (of x)) xs) (filter (λ x. test (of x)) xs))
    step true e = ap suc e
    step false e = e
