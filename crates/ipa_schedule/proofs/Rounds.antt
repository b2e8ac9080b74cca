-- The numbers below one more.
--
--   below-more           they are those below, and one more
--   flat_map-below       what is gathered over them
use Rattle.std.proofs.Common.{◌≡◌, ℕ, zero, suc, ◌+◌, List, [], ◌∷◌, ◌++◌, refl, sym, ◌∙◌, ap, arith, append-nil, add-one}
use Rattle.std.specs.List.{flat_map, range_with_len}
use Rattle.std.proofs.lemmas.Grind.{flat_map-append}
use Rattle.ipa_schedule.specs.Schedules.{below}

range_more : (a n : ℕ) → range_with_len a (suc n) ≡ range_with_len a n ++ (a + n) ∷ []
range_more a zero = ap (λ (k : ℕ). k ∷ []) (omega arith)
range_more a (suc n) = ap (λ (ks : List ℕ). a ∷ ks)
    (range_more (a + 1) n ∙ ap (λ (k : ℕ). range_with_len (a + 1) n ++ k ∷ []) (omega arith))

-- the numbers below one more
pub below-more : (n : ℕ) → below (n + 1) ≡ below n ++ n ∷ []
below-more n = ap (range_with_len 0) (add-one n) ∙ range_more 0 n ∙ ap (λ (k : ℕ). below n ++ k ∷ []) (omega arith)

-- what is gathered over them
pub flat_map-below : {X : Type 0} (f : ℕ → List X) (n : ℕ) → flat_map f (below n) ++ f n ≡ flat_map f (below (n + 1))
flat_map-below f n = sym (ap (flat_map f) (below-more n) ∙ flat_map-append f (below n) (n ∷ [])
    ∙ ap (λ (xs : List _). flat_map f (below n) ++ xs) (append-nil (f n)))
