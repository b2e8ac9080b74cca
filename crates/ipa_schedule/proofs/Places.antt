-- What stands in a list of which one place was set.
--
--   set_cases        what stands anywhere was set there, or stood there before
--   set_here         what was set stands there
--   set_there        what stood elsewhere stands there still
use Rattle.std.proofs.Common.{◌≡◌, ℕ, zero, suc, ◌⊎◌, inl, inr, List, [], ◌∷◌, Some, None, slice_get, refl, ap}
use Rattle.std.specs.Prelude.{slice_set}

-- what stands anywhere was set there, or stood there before
pub set_cases : {X : Type 0} (xs : List X) (i : ℕ) (y : X) (j : ℕ) (z : X) → slice_get (slice_set xs i y) j ≡ Some z →
    ((j ≡ i) × (y ≡ z)) ⊎ (slice_get xs j ≡ Some z)
set_cases [] i y j z e = inr e
set_cases (x ∷ xs) zero y zero z e = inl (refl, (let s : Some y ≡ Some z = e in cc))
set_cases (x ∷ xs) zero y (suc j) z e = inr e
set_cases (x ∷ xs) (suc i) y zero z e = inr e
set_cases (x ∷ xs) (suc i) y (suc j) z e = elim (set_cases xs i y j z e) [
  | inl here ↦ inl (ap suc here.0, here.1)
  | inr there ↦ inr there
]

-- what was set stands there
pub set_here : {X : Type 0} (xs : List X) (i : ℕ) (x y : X) → slice_get xs i ≡ Some x →
    slice_get (slice_set xs i y) i ≡ Some y
set_here [] i x y e = absurd (let s : None ≡ Some x = e in cc)
set_here (z ∷ zs) zero x y e = refl
set_here (z ∷ zs) (suc i) x y e = set_here zs i x y e

-- what stood elsewhere stands there still
pub set_there : {X : Type 0} (xs : List X) (i j : ℕ) (y z : X) → (j ≡ i → ⊥) → slice_get xs j ≡ Some z →
    slice_get (slice_set xs i y) j ≡ Some z
set_there [] i j y z apart e = e
set_there (x ∷ xs) zero zero y z apart e = absurd (apart refl)
set_there (x ∷ xs) zero (suc j) y z apart e = e
set_there (x ∷ xs) (suc i) zero y z apart e = e
set_there (x ∷ xs) (suc i) (suc j) y z apart e = set_there xs i j y z (λ same. apart (ap suc same)) e
