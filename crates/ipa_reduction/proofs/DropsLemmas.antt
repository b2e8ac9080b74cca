-- A drop that breaks a clause over any universe does so on the pattern of its arguments and values.
--
--   few-drop, sorts-drop         a drop and a clause have few enough variables for a pattern, of the eight sorts
--   drop-arguments               a pattern's classes are arguments and values over its universe
--   breaks_on_some               the pattern that a drop breaks a clause on
--   breaks_from                  a drop that breaks a clause on a pattern can break it
use Rattle.std.proofs.Common.{◌≡◌, ℕ, ◌≤◌, List, ◌++◌, length, refl, sym, ◌∙◌, subst, arith, Some, slice_get}
use Rattle.std.proofs.lemmas.List.{length-append}
use Rattle.std.proofs.lemmas.Option.{same_Some}
use Rattle.ipa_spec.specs.Actions.{sorts_of, sorts_of_vars}
use Rattle.ipa_spec.specs.Fits.{IsFit}
use Rattle.ipa_spec.specs.declared.specification.Specification.{Specification}
use Rattle.ipa_spec.specs.declared.bounds.Bound.{Bound}
use Rattle.ipa_spec.specs.declared.clauses.Clause.{Clause}
use Rattle.ipa_spec.specs.declared.operations.Action.TheVariants.{Drop}
use Rattle.ipa_logic.specs.Facts.{Universe, has}
use Rattle.ipa_logic.specs.Touches.{plain_application}
use Rattle.ipa_logic.specs.Acceptance.{IsDropBreakAt, DropBreaks}
use Rattle.ipa_logic.specs.Renaming.{Embeds, embed_values}
use Rattle.ipa_logic.specs.RestrictionLaws.{IsDroppable-embed, plain_application-embed, instance_true-embed}
use Rattle.ipa_logic.specs.declared.facts.Fact.{Fact}
use Rattle.ipa_ground.specs.FactsLaws.{AreShort-from_fit}
use Rattle.ipa_ground.specs.Patterns.{AreSorts, PatternFor}
use Rattle.ipa_ground.specs.SamePattern.{pattern_for}
use Rattle.ipa_reduction.specs.Cases.{constant_counts, drop_sorts, IsDropPattern, drop_universe, drop_args, drop_values, AreDropArguments, DropBreaksOn, DropBreaksOnSome}
use Rattle.ipa_reduction.specs.PartLaws.{IsPart, IsPart-front, IsPart-second, IsOver-args_at}
use Rattle.ipa_reduction.proofs.SizesLemmas.{AreConstants-counts, IsUniverse-pattern}
use Rattle.ipa_reduction.proofs.SortsLemmas.{AreSorts-append, AreSorts-action, AreSorts-clause, few-values}
use Rattle.ipa_reduction.proofs.ElementsLemmas.{AreElements, taken, length-taken, AreElements-taken, AreElements-append}
use Rattle.ipa_reduction.proofs.RenamedParts.{embedding, part-stands}
use Rattle.ipa_reduction.proofs.RestrictedStates.{restricted, IsState-restricted, restricts}

module _ (s : Specification) (fit : IsFit s) (n k : ℕ) (c : Clause) (g : slice_get s.clauses k ≡ Some c) where
  -- a drop and a clause have few enough variables for a pattern
  pub few-drop : length (drop_sorts s n c) ≤ 12
  few-drop =
      let all = length-append (sorts_of s (Drop n)) (sorts_of_vars c.vars) in
      omega (arith, fit.argument_count (Drop n), few-values s fit k c g)

  -- of the eight sorts
  pub sorts-drop : AreSorts (drop_sorts s n c)
  sorts-drop = AreSorts-append (sorts_of s (Drop n)) (sorts_of_vars c.vars) (AreSorts-action s fit (Drop n)) (AreSorts-clause s fit k c g)

  args-part : IsPart (drop_sorts s n c) 0 (sorts_of s (Drop n))
  args-part = IsPart-front (sorts_of s (Drop n)) (sorts_of_vars c.vars)

  values-part : IsPart (drop_sorts s n c) (length (sorts_of s (Drop n))) (sorts_of_vars c.vars)
  values-part = IsPart-second (sorts_of s (Drop n)) (sorts_of_vars c.vars) (length (sorts_of s (Drop n))) refl

  -- the classes of a pattern are arguments and values over its universe
  pub drop-arguments : (classes : List ℕ) → IsDropPattern s n c classes → AreDropArguments s n c classes
  drop-arguments classes is_pattern = record {
    sizes = IsUniverse-pattern s fit (drop_sorts s n c) classes sorts-drop is_pattern;
    args = IsOver-args_at (constant_counts s) (drop_sorts s n c) classes 0 (sorts_of s (Drop n)) (AreConstants-counts s fit) sorts-drop is_pattern args-part (fit.argument_count (Drop n));
    values = IsOver-args_at (constant_counts s) (drop_sorts s n c) classes (length (sorts_of s (Drop n))) (sorts_of_vars c.vars) (AreConstants-counts s fit) sorts-drop is_pattern values-part (few-values s fit k c g);
  }

  module _ (b : Bound) (large : Universe) (args values : List ℕ) (before : List Fact) (h : IsDropBreakAt s b n c large args values before) where
    -- the elements of the variables
    abbrev elements : List ℕ
    elements = taken (sorts_of s (Drop n)) args ++ taken (sorts_of_vars c.vars) values

    args-long : length (taken (sorts_of s (Drop n)) args) ≡ length (sorts_of s (Drop n))
    args-long = length-taken large (sorts_of s (Drop n)) args (fit.argument_count (Drop n)) h.droppable.arguments

    are-elements : AreElements large (drop_sorts s n c) elements
    are-elements = AreElements-append large (sorts_of s (Drop n)) (sorts_of_vars c.vars) (taken (sorts_of s (Drop n)) args) (taken (sorts_of_vars c.vars) values) args-long
        (AreElements-taken large (sorts_of s (Drop n)) args h.droppable.arguments) (AreElements-taken large (sorts_of_vars c.vars) values h.clause_values)

    module _ (p : PatternFor (constant_counts s) (drop_sorts s n c) elements) where
      -- the pattern's universe, and the elements of the large one that its classes stand for
      abbrev small : Universe
      small = drop_universe s n c p.classes

      abbrev to : ℕ → ℕ → ℕ
      to = p.renames.to

      embeds : Embeds s small large to
      embeds = embedding s fit (drop_sorts s n c) p.classes elements large sorts-drop p.is_pattern p.renames h.droppable.sizes are-elements

      -- the classes stand for the arguments and values
      args-stand : embed_values to (sorts_of s (Drop n)) (drop_args s n p.classes) ≡ args
      args-stand = part-stands s fit (drop_sorts s n c) p.classes elements large sorts-drop p.is_pattern p.renames h.droppable.sizes are-elements
          0 (sorts_of s (Drop n)) args (fit.argument_count (Drop n)) args-part
          (IsPart-front (taken (sorts_of s (Drop n)) args) (taken (sorts_of_vars c.vars) values)) h.droppable.arguments

      values-stand : embed_values to (sorts_of_vars c.vars) (drop_values s n c p.classes) ≡ values
      values-stand = part-stands s fit (drop_sorts s n c) p.classes elements large sorts-drop p.is_pattern p.renames h.droppable.sizes are-elements
          (length (sorts_of s (Drop n))) (sorts_of_vars c.vars) values (few-values s fit k c g) values-part
          (IsPart-second (taken (sorts_of s (Drop n)) args) (taken (sorts_of_vars c.vars) values) (length (sorts_of s (Drop n))) args-long) h.clause_values

      -- the drop breaks the instance with the arguments and values that the classes stand for
      stands : IsDropBreakAt s b n c large (embed_values to (sorts_of s (Drop n)) (drop_args s n p.classes)) (embed_values to (sorts_of_vars c.vars) (drop_values s n c p.classes)) before
      stands = subst (λ (xs : List ℕ). IsDropBreakAt s b n c large xs (embed_values to (sorts_of_vars c.vars) (drop_values s n c p.classes)) before) (sym args-stand)
          (subst (λ (xs : List ℕ). IsDropBreakAt s b n c large args xs before) (sym values-stand) h)

      -- the same on the pattern
      on_pattern : DropBreaksOnSome s n b c
      on_pattern =
          let over = drop-arguments p.classes p.is_pattern in
          let small_before : List Fact = restricted s small to before in
          let restriction = restricts s small to before (AreShort-from_fit s fit) in
          record {
            classes = p.classes;
            is_pattern = p.is_pattern;
            breaks = record {
              before = small_before;
              break = record {
                droppable = IsDroppable-embed s small large to embeds fit b n (drop_args s n p.classes) before small_before over.args
                    (IsState-restricted s small to before (AreShort-from_fit s fit)) restriction stands.droppable;
                clause_values = over.values;
                broken = instance_true-embed s small large to embeds fit k c g (drop_values s n c p.classes) over.values
                    (plain_application s (Drop n) (drop_args s n p.classes) (has small_before))
                    (plain_application s (Drop n) (embed_values to (sorts_of s (Drop n)) (drop_args s n p.classes)) (has before))
                    (plain_application-embed s small large to embeds fit (Drop n) (drop_args s n p.classes) (has small_before) (has before) over.args restriction)
                    ∙ stands.broken;
              };
            };
          }

-- a drop that breaks a clause does so on some pattern
pub breaks_on_some : (s : Specification) (n k : ℕ) (b : Bound) (c : Clause) → IsFit s → slice_get s.bounds n ≡ Some b → slice_get s.clauses k ≡ Some c → DropBreaks s n k → DropBreaksOnSome s n b c
breaks_on_some s n k b c fit declared g h =
    let bound_is : h.bound ≡ b = same_Some h.bound b (sym h.breaks.droppable.declared ∙ declared) in
    let clause_is : h.clause ≡ c = same_Some h.clause c (sym h.declared ∙ g) in
    let broken : IsDropBreakAt s b n c h.universe h.args h.values h.before =
    subst (λ (d : Clause). IsDropBreakAt s b n d h.universe h.args h.values h.before) clause_is
    (subst (λ (x : Bound). IsDropBreakAt s x n h.clause h.universe h.args h.values h.before) bound_is
    h.breaks) in
    on_pattern s fit n k c g b h.universe h.args h.values h.before broken
    (pattern_for (constant_counts s) (drop_sorts s n c) (elements s fit n k c g b h.universe h.args h.values h.before broken) (AreConstants-counts s fit) (sorts-drop s fit n k c g))

-- a drop that breaks a clause on a pattern can break it
pub breaks_from : (s : Specification) (n k : ℕ) (b : Bound) (c : Clause) (classes : List ℕ) → slice_get s.clauses k ≡ Some c → DropBreaksOn s n b c classes → DropBreaks s n k
breaks_from s n k b c classes g h = record {
  bound = b;
  clause = c;
  declared = g;
  universe = drop_universe s n c classes;
  args = drop_args s n classes;
  values = drop_values s n c classes;
  before = h.before;
  breaks = h.break;
}
