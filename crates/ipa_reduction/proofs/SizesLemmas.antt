-- The constants of a specification, and the sizes of a pattern's universe.
--
--   counts-size           what the counts of constants say of each sort
--   AreConstants-counts   no sort has more than four
--   IsUniverse-counts     the constants alone are a universe of the specification
--   IsUniverse-pattern    and so are those of a pattern
--   AreSmall-pattern      a pattern has at most as many further classes of a sort as it has variables
use Rattle.std.proofs.Common.{◌≡◌, ℕ, zero, suc, ◌+◌, ◌<◌, ◌≤◌, ◌≢◌, Bool, cond, List, [], ◌∷◌, length, Some, refl, sym, ap, ◌∙◌, arith, inl, inr, slice_get}
use Rattle.std.specs.List.{slice_index_or}
use Rattle.std.specs.Option.{option_map}
use Rattle.std.proofs.lemmas.Bool.{cases_lt, ne_eqb}
use Rattle.std.proofs.lemmas.List.{get_or_past}
use Rattle.std.proofs.lemmas.Grind.{get_or_default_zero}
use Rattle.ipa_spec.specs.Constants.{constants_of, constant_count}
use Rattle.ipa_spec.specs.Fits.{IsFit}
use Rattle.ipa_spec.specs.declared.constants.Constant.{Constant}
use Rattle.ipa_spec.specs.declared.specification.Specification.{Specification}
use Rattle.ipa_logic.specs.Facts.{size_of, IsUniverse}
use Rattle.ipa_ground.specs.Patterns.{AreConstants, AreSorts, IsPattern, pattern_universe}
use Rattle.ipa_ground.specs.Places.{AreSmall}
use Rattle.ipa_ground.specs.ClassLaws.{size-after_most}
use Rattle.ipa_ground.specs.SamePattern.{pattern-constants}
use Rattle.ipa_reduction.specs.Cases.{constant_counts}

-- no constant is of a sort that none of them has
none-of : (cs : List Constant) (sort : ℕ) → ((k : ℕ) (c : Constant) → slice_get cs k ≡ Some c → c.sort ≢ sort) →
    constants_of cs sort ≡ []
none-of [] sort h = refl
none-of (c ∷ cs) sort h =
    ap (λ (b : Bool). cond b (c ∷ constants_of cs sort) (constants_of cs sort)) (ne_eqb c.sort sort (h 0 c refl))
    ∙ none-of cs sort (λ k d e. h (suc k) d e)

counts-at : (s : Specification) (sort : ℕ) → sort < 8 → size_of (constant_counts s) sort ≡ constant_count s sort
unfolding constant_counts
counts-at s zero l = refl
counts-at s (suc zero) l = refl
counts-at s (suc (suc zero)) l = refl
counts-at s (suc (suc (suc zero))) l = refl
counts-at s (suc (suc (suc (suc zero)))) l = refl
counts-at s (suc (suc (suc (suc (suc zero))))) l = refl
counts-at s (suc (suc (suc (suc (suc (suc zero)))))) l = refl
counts-at s (suc (suc (suc (suc (suc (suc (suc zero))))))) l = refl
counts-at s (suc (suc (suc (suc (suc (suc (suc (suc k)))))))) l = absurd (omega arith)

counts-width : (s : Specification) → length (constant_counts s) ≡ 8
unfolding constant_counts
counts-width s = refl

module _ (s : Specification) (fit : IsFit s) where
  -- what the counts say of each sort
  pub counts-size : (sort : ℕ) → size_of (constant_counts s) sort ≡ constant_count s sort
  counts-size sort = elim (cases_lt sort 8) [
    | inl l ↦ counts-at s sort l
    | inr past ↦ get_or_past (constant_counts s) sort 0 (omega (arith, counts-width s))
        ∙ sym (ap length (none-of s.constants sort (λ k c e same. absurd
        (omega (arith, same, fit.sort_count, fit.constant_sort k c.sort (ap (option_map (λ (d : Constant). d.sort)) e))))))
  ]

  pub AreConstants-counts : AreConstants (constant_counts s)
  AreConstants-counts = record {
    width = counts-width s;
    most = λ sort. omega (arith, counts-size sort, fit.constant_most sort);
  }

  pub IsUniverse-counts : IsUniverse s (constant_counts s)
  IsUniverse-counts = record { constants = λ sort. omega (arith, counts-size sort) }

  module _ (sorts classes : List ℕ) where
    -- the universe of a pattern has the constants
    pub IsUniverse-pattern : AreSorts sorts → IsPattern (constant_counts s) sorts classes →
        IsUniverse s (pattern_universe (constant_counts s) sorts classes)
    IsUniverse-pattern are is_pattern = record {
      constants = λ sort. omega (
        arith,
        counts-size sort,
        pattern-constants (constant_counts s) sorts classes AreConstants-counts are is_pattern sort,
      );
    }

    -- and is small where there are at most twelve variables
    pub AreSmall-pattern : length sorts ≤ 12 → AreSmall (pattern_universe (constant_counts s) sorts classes)
    AreSmall-pattern few k d l =
        let universe = pattern_universe (constant_counts s) sorts classes in
        let at : size_of universe k ≤ size_of (constant_counts s) k + length sorts
        = size-after_most (constant_counts s) sorts classes k in
        let most = AreConstants-counts.most k in
        let read : slice_index_or universe k d ≡ size_of universe k = get_or_default_zero universe k d l in
        omega arith
