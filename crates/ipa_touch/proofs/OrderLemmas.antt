-- The order of values: by the first place where they differ, as lists are compared.
use Rattle.std.proofs.Common.{◌≡◌, ℕ, ◌<◌, List, [], ◌∷◌, length, nat_cmp, suc, zero, refl, ◌∙◌, ap, subst, arith}
use Rattle.std.proofs.lemmas.Bool.Decides.{nat_tests}
use Rattle.std.specs.Ordering.{ordering_then}
use Rattle.std.specs.Cmp.Lexicographic.{slice_cmp}
use Rattle.std.specs.declared.cmp.Ordering.{Ordering}
use Rattle.std.specs.declared.cmp.Ordering.TheVariants.{Less, Equal, Greater}
use Rattle.std.proofs.lemmas.Map.Lookups.{exact_unsigned}
use Rattle.ipa_logic.specs.Truth.{value_at, IsEarlier}

lt-from_Less : (x y : ℕ) → nat_cmp x y ≡ Less → x < y
lt-from_Less x y h = grind (arith, nat_tests)

Less-from_less : (x y : ℕ) → x < y → nat_cmp x y ≡ Less
Less-from_less x y h = grind (arith, nat_tests)

-- values that compare less are earlier
pub earlier-from_less : (v w : List ℕ) → length v ≡ length w → slice_cmp nat_cmp v w ≡ Less → IsEarlier v w
earlier-from_less [] [] e h = cc
earlier-from_less [] (y ∷ ys) e h = absurd (omega arith)
earlier-from_less (x ∷ xs) [] e h = cc
earlier-from_less (x ∷ xs) (y ∷ ys) e h = here (nat_cmp x y) refl h (earlier-from_less xs ys (omega arith))
  where
    here : (r : Ordering) → nat_cmp x y ≡ r → ordering_then r (slice_cmp nat_cmp xs ys) ≡ Less → (slice_cmp nat_cmp xs ys ≡ Less → IsEarlier xs ys) → IsEarlier (x ∷ xs) (y ∷ ys)
    here Less k h rest = record { place = 0; same = λ j l. absurd (omega arith); less = lt-from_Less x y k }
    here Equal k h rest = let later = rest h in record { place = suc later.place; same = same later; less = later.less }
      where
        same : (later : IsEarlier xs ys) → (j : ℕ) → j < suc later.place → value_at (x ∷ xs) j ≡ value_at (y ∷ ys) j
        same later zero l = exact_unsigned x y k
        same later (suc j) l = later.same j (omega arith)
    here Greater k h rest = cc

-- and earlier values compare less
less-at : (v w : List ℕ) (place : ℕ) → length v ≡ length w → ((j : ℕ) → j < place → value_at v j ≡ value_at w j) → value_at v place < value_at w place → slice_cmp nat_cmp v w ≡ Less
less-at [] [] place e s l = absurd (let h : 0 < 0 = l in omega arith)
less-at [] (y ∷ ys) place e s l = absurd (omega arith)
less-at (x ∷ xs) [] place e s l = absurd (omega arith)
less-at (x ∷ xs) (y ∷ ys) zero e s l = ap (λ (r : Ordering). ordering_then r (slice_cmp nat_cmp xs ys)) (Less-from_less x y l)
less-at (x ∷ xs) (y ∷ ys) (suc place) e s l =
    let here : x ≡ y = s 0 (omega arith) in
    let rest = less-at xs ys place (omega arith) (λ j k. s (suc j) (omega arith)) l in
    ap (λ (r : Ordering). ordering_then r (slice_cmp nat_cmp xs ys)) (subst (λ (z : ℕ). nat_cmp x z ≡ Equal) here (nat-itself x)) ∙ rest
  where
    nat-itself : (n : ℕ) → nat_cmp n n ≡ Equal
    nat-itself n = grind (arith, nat_tests)

pub less-from_earlier : (v w : List ℕ) → length v ≡ length w → IsEarlier v w → slice_cmp nat_cmp v w ≡ Less
less-from_earlier v w e h = less-at v w h.place e h.same h.less
