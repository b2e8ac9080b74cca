-- The elements of all variables, as joined arguments and values.
--
--   AreElements universe sorts xs   the number of each variable is an element of its sort
--   taken sorts values              the arguments or values of so many variables
use Rattle.std.proofs.Common.{◌≡◌, ℕ, zero, suc, ◌<◌, ◌≤◌, List, [], ◌∷◌, ◌++◌, length, take, sym, ap, ◌∙◌, subst, arith, Some, slice_get}
use Rattle.std.specs.List.{slice_index}
use Rattle.std.proofs.lemmas.List.{get_or-take, length-take-le}
use Rattle.std.proofs.lemmas.Option.{slice_get_within, slice_get-get_or}
use Rattle.ipa_logic.specs.Facts.{Universe, size_of}
use Rattle.ipa_logic.specs.Truth.{IsOver}

-- the number of each variable is an element of its sort
pub record AreElements (universe : Universe) (sorts elements : List ℕ) : Type 0 where
  pub inside : (i sort : ℕ) → slice_get sorts i ≡ Some sort → slice_index elements i < size_of universe sort

-- the arguments or values of so many variables
abbrev pub taken : List ℕ → List ℕ → List ℕ
taken sorts values = take (length sorts) values

module _ (universe : Universe) where
  -- the elements of two parts are those of both
  joined : (a b xs ys : List ℕ) → length xs ≡ length a → AreElements universe a xs → AreElements universe b ys
      → (i sort : ℕ) → slice_get (a ++ b) i ≡ Some sort → slice_index (xs ++ ys) i < size_of universe sort
  joined [] b [] ys w h g i sort e = g.inside i sort e
  joined [] b (x ∷ xs) ys w h g i sort e = absurd (omega (arith, w))
  joined (s ∷ a) b [] ys w h g i sort e = absurd (omega (arith, w))
  joined (s ∷ a) b (x ∷ xs) ys w h g zero sort e = h.inside zero sort e
  joined (s ∷ a) b (x ∷ xs) ys w h g (suc i) sort e = joined a b xs ys (omega (arith, w)) (record { inside = λ j q f. h.inside (suc j) q f }) g i sort e

  pub AreElements-append : (a b xs ys : List ℕ) → length xs ≡ length a → AreElements universe a xs → AreElements universe b ys → AreElements universe (a ++ b) (xs ++ ys)
  AreElements-append a b xs ys w h g = record { inside = joined a b xs ys w h g }

  -- values over the universe are elements of their variables
  pub AreElements-taken : (sorts values : List ℕ) → IsOver universe sorts values → AreElements universe sorts (taken sorts values)
  AreElements-taken sorts values over = record {
    inside = λ i sort e. subst (λ (x : ℕ). x < size_of universe sort)
        (sym (get_or-take (length sorts) values i 0 (slice_get_within sorts i sort e))) (over.elements i sort e);
  }

  pub length-taken : (sorts values : List ℕ) → length sorts ≤ 4 → IsOver universe sorts values → length (taken sorts values) ≡ length sorts
  length-taken sorts values few over = length-take-le (length sorts) values (omega (arith, over.width))

  -- the value of a variable stands among them
  pub get-taken : (sorts values : List ℕ) (v : ℕ) → length sorts ≤ 4 → IsOver universe sorts values → v < length sorts → slice_get (taken sorts values) v ≡ Some (slice_index values v)
  get-taken sorts values v few over l =
      slice_get-get_or (taken sorts values) v 0 (omega (arith, length-taken sorts values few over)) ∙ ap (λ (x : ℕ). Some x) (get_or-take (length sorts) values v 0 l)
