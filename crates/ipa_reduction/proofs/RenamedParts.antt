-- The classes of a part stand for its arguments or values.
--
--   embedding       the pattern's universe is embedded into the one of the elements
--   same_values     values that agree on all variables are the same
--   part-stands     the classes of a part as values of the large universe
use Rattle.std.proofs.Common.{◌≡◌, ℕ, ◌+◌, ◌<◌, ◌≤◌, List, length, sym, ap, ◌∙◌, subst, arith, Some, slice_get, inl, inr}
use Rattle.std.specs.List.{slice_index}
use Rattle.std.proofs.lemmas.Bool.{cases_lt}
use Rattle.std.proofs.lemmas.Option.{slice_get_within, slice_get-get_or, get_or_from_slice_get}
use Rattle.std.proofs.lemmas.Grind.{same_number_lists}
use Rattle.ipa_spec.specs.Constants.{element_of_constant}
use Rattle.ipa_spec.specs.Fits.{IsFit}
use Rattle.ipa_spec.specs.declared.specification.Specification.{Specification}
use Rattle.ipa_logic.specs.Facts.{Universe, size_of, IsUniverse}
use Rattle.ipa_logic.specs.Truth.{IsOver}
use Rattle.ipa_logic.specs.FitLaws.{constant-less}
use Rattle.ipa_logic.specs.Renaming.{Embeds, embed_values}
use Rattle.ipa_logic.specs.RenamingLaws as renaming
use Rattle.ipa_ground.specs.Patterns.{AreSorts, IsPattern, pattern_universe, args_at, Renames}
use Rattle.ipa_reduction.specs.Cases.{constant_counts}
use Rattle.ipa_reduction.specs.PartLaws.{IsPart, args_at-at, IsOver-args_at}
use Rattle.ipa_reduction.proofs.SizesLemmas.{counts-size, AreConstants-counts, IsUniverse-counts, IsUniverse-pattern}
use Rattle.ipa_reduction.proofs.ElementsLemmas.{AreElements, taken, get-taken}

-- values that agree on all variables are the same
same_values : (universe : Universe) (sorts xs ys : List ℕ) → IsOver universe sorts xs → IsOver universe sorts ys
    → ((v sort : ℕ) → slice_get sorts v ≡ Some sort → slice_index xs v ≡ slice_index ys v) → xs ≡ ys
same_values universe sorts xs ys over_xs over_ys same = same_number_lists xs ys (over_xs.width ∙ sym over_ys.width) (λ v l. elim (cases_lt v (length sorts)) [
  | inl within ↦ same v (slice_index sorts v) (slice_get-get_or sorts v 0 within)
  | inr past ↦ (over_xs.unused v past ∙ sym (over_ys.unused v past))
])

module _ (s : Specification) (fit : IsFit s) (sorts classes elements : List ℕ) (large : Universe) (are : AreSorts sorts)
    (is_pattern : IsPattern (constant_counts s) sorts classes)
    (renames : Renames (constant_counts s) sorts classes elements)
    (sizes : IsUniverse s large) (are_elements : AreElements large sorts elements) where
  -- the pattern's universe is embedded into the one of the elements
  pub embedding : Embeds s (pattern_universe (constant_counts s) sorts classes) large renames.to
  embedding = record {
    sizes = IsUniverse-pattern s fit sorts classes are is_pattern;
    inside = λ sort class l. elim (cases_lt class (size_of (constant_counts s) sort)) [
      | inl fixed ↦ omega (arith, renames.fixed sort class fixed, counts-size s fit sort, sizes.constants sort)
      | inr past ↦ (let is = renames.taken sort class past l in
          subst (λ (x : ℕ). x < size_of large sort)
          (sym (ap (renames.to sort) (sym is.is) ∙ renames.places is.place sort is.of_sort))
          (are_elements.inside is.place sort is.of_sort))
    ];
    apart = renames.apart;
    constants = λ k sort e. renames.fixed sort (element_of_constant s k)
        (constant-less s (constant_counts s) k sort (IsUniverse-counts s fit) e);
  }

  -- the classes of a part, as values of the large universe, are those that they stand for
  pub part-stands : (from : ℕ) (part values : List ℕ) → length part ≤ 4 → IsPart sorts from part → IsPart elements from (taken part values) → IsOver large part values
      → embed_values renames.to part (args_at from (length part) classes) ≡ values
  part-stands from part values few is_part stands over =
      same_values large part (embed_values renames.to part (args_at from (length part) classes)) values
      (renaming.IsOver-embed_values s (pattern_universe (constant_counts s) sorts classes) large renames.to embedding part (args_at from (length part) classes) few (IsOver-args_at (constant_counts s) sorts classes from part (AreConstants-counts s fit) are is_pattern is_part few))
      over
      (λ v sort e. let within : v < length part = slice_get_within part v sort e in
      renaming.value_at-embed_values s (pattern_universe (constant_counts s) sorts classes) large renames.to embedding part (args_at from (length part) classes) v sort few e
      ∙ (ap (renames.to sort) (args_at-at from (length part) classes v few within)
      ∙ (renames.places (from + v) sort (is_part.at v sort e)
      ∙ get_or_from_slice_get elements (from + v) (slice_index values v) 0 (stands.at v (slice_index values v) (get-taken large part values v few over within)))))
