-- How many constants a specification can have.
--
--   below-more      the constants of the sorts below n + 1 are those below n and those of n
--   below-most      there are at most 4 * n of the sorts below n
--   below-all       where each constant's sort is below n, they are all
--   few_constants   a fit specification has at most 32
use Rattle.std.proofs.Common.{◌≡◌, ◌==◌, ℕ, ◌+◌, ◌*◌, ◌<◌, ◌≤◌, true, cond, ltb, List, [], ◌∷◌, length, Some, refl, ap, arith, zero, suc}
use Rattle.std.specs.List.{filter, slice_get}
use Rattle.std.specs.Option.{option_map}
use Rattle.std.proofs.lemmas.Bool.{lt-ltb}
use Rattle.ipa_spec.specs.Constants.{constants_of}
use Rattle.ipa_spec.specs.Fits.{IsFit}
use Rattle.ipa_spec.specs.declared.specification.Specification.{Specification}
use Rattle.ipa_spec.specs.declared.constants.Constant.{Constant}

-- the constants of the sorts below n
abbrev below : List Constant → ℕ → List Constant
below cs n = filter (λ c. ltb c.sort n) cs

one_more : (sort n : ℕ) (a b d : ℕ) → a ≡ b + d →
    cond (ltb sort (suc n)) (suc a) a ≡ cond (ltb sort n) (suc b) b + cond (sort == n) (suc d) d
one_more sort n a b d h = grind arith

below-more : (cs : List Constant) (n : ℕ) → length (below cs (suc n)) ≡ length (below cs n) + length (constants_of cs n)
below-more [] n = refl
below-more (c ∷ cs) n = grind (arith, below-more cs n)

below-most : (cs : List Constant) (n : ℕ) → ((sort : ℕ) → length (constants_of cs sort) ≤ 4) → length (below cs n) ≤ 4 * n
below-most cs zero h = none cs
  where
    none : (ds : List Constant) → length (below ds 0) ≤ 0
    none [] = omega arith
    none (d ∷ ds) = grind (arith, none ds)
below-most cs (suc n) h = omega (arith, below-most cs n h, below-more cs n, h n)

below-all : (cs : List Constant) (n : ℕ) → ((k : ℕ) (c : Constant) → slice_get cs k ≡ Some c → c.sort < n) → below cs n ≡ cs
below-all [] n h = refl
below-all (c ∷ cs) n h =
    let here : ltb c.sort n ≡ true = lt-ltb c.sort n (h 0 c refl) in
    let rest = below-all cs n (λ k d e. h (suc k) d e) in
    grind (arith, here, rest)

-- a fit specification has at most 32 constants
pub few_constants : (s : Specification) → IsFit s → length s.constants ≤ 32
few_constants s fit =
    let all = below-all s.constants (length s.sorts) (λ k c e. fit.constant_sort k c.sort (ap (option_map (λ (d : Constant). d.sort)) e)) in
    let most = below-most s.constants (length s.sorts) fit.constant_most in
    omega (arith, ap length all, most, fit.sort_count)
