-- A conflict over any universe is one on the pattern of its arguments and values.
--
--   few-triple, sorts-triple     a triple has at most twelve variables, of the eight sorts
--   triple-arguments             a pattern's classes are arguments and values over its universe
--   conflict_on_some             the pattern that a conflict is on
--   conflict_from                a conflict on a pattern is a conflict
use Rattle.std.proofs.Common.{◌≡◌, ℕ, ◌+◌, ◌≤◌, List, ◌++◌, length, refl, sym, ◌∙◌, subst, arith, Some, slice_get}
use Rattle.std.proofs.lemmas.List.{length-append}
use Rattle.std.proofs.lemmas.Option.{same_Some}
use Rattle.ipa_spec.specs.Actions.{IsAction, sorts_of, sorts_of_vars}
use Rattle.ipa_spec.specs.Fits.{IsFit}
use Rattle.ipa_spec.specs.declared.specification.Specification.{Specification}
use Rattle.ipa_spec.specs.declared.clauses.Clause.{Clause}
use Rattle.ipa_spec.specs.declared.operations.Action.{Action}
use Rattle.ipa_logic.specs.Facts.{Universe}
use Rattle.ipa_logic.specs.Conflicts.{IsConflictAt, Conflict}
use Rattle.ipa_logic.specs.Renaming.{Embeds, embed_values}
use Rattle.ipa_logic.specs.RestrictionLaws.{IsConflictAt-embed}
use Rattle.ipa_logic.specs.declared.facts.Fact.{Fact}
use Rattle.ipa_ground.specs.FactsLaws.{AreShort-from_fit}
use Rattle.ipa_ground.specs.Patterns.{AreSorts, PatternFor}
use Rattle.ipa_ground.specs.SamePattern.{pattern_for}
use Rattle.ipa_reduction.specs.Cases.{constant_counts, triple_sorts, IsTriplePattern, triple_universe, left_args, right_args, triple_values, AreTripleArguments, ConflictOn, ConflictOnSome}
use Rattle.ipa_reduction.specs.PartLaws.{IsPart, IsPart-front, IsPart-middle, IsPart-last, IsOver-args_at}
use Rattle.ipa_reduction.proofs.SizesLemmas.{AreConstants-counts, IsUniverse-pattern}
use Rattle.ipa_reduction.proofs.SortsLemmas.{AreSorts-append, AreSorts-action, AreSorts-clause, few-values}
use Rattle.ipa_reduction.proofs.ElementsLemmas.{AreElements, taken, length-taken, AreElements-taken, AreElements-append}
use Rattle.ipa_reduction.proofs.RenamedParts.{embedding, part-stands}
use Rattle.ipa_reduction.proofs.RestrictedStates.{restricted, IsState-restricted, restricts}

module _ (s : Specification) (fit : IsFit s) (left right : Action) (k : ℕ) (c : Clause) (g : slice_get s.clauses k ≡ Some c) where
  -- a triple has at most twelve variables
  pub few-triple : length (triple_sorts s left right c) ≤ 12
  few-triple =
      let all = length-append (sorts_of s left) (sorts_of s right ++ sorts_of_vars c.vars) in
      let rest = length-append (sorts_of s right) (sorts_of_vars c.vars) in
      omega (arith, fit.argument_count left, fit.argument_count right, few-values s fit k c g)

  -- of the eight sorts
  pub sorts-triple : AreSorts (triple_sorts s left right c)
  sorts-triple = AreSorts-append (sorts_of s left) (sorts_of s right ++ sorts_of_vars c.vars) (AreSorts-action s fit left)
      (AreSorts-append (sorts_of s right) (sorts_of_vars c.vars) (AreSorts-action s fit right) (AreSorts-clause s fit k c g))

  left-part : IsPart (triple_sorts s left right c) 0 (sorts_of s left)
  left-part = IsPart-front (sorts_of s left) (sorts_of s right ++ sorts_of_vars c.vars)

  right-part : IsPart (triple_sorts s left right c) (length (sorts_of s left)) (sorts_of s right)
  right-part = IsPart-middle (sorts_of s left) (sorts_of s right) (sorts_of_vars c.vars) (length (sorts_of s left)) refl

  values-part : IsPart (triple_sorts s left right c) (length (sorts_of s left) + length (sorts_of s right)) (sorts_of_vars c.vars)
  values-part = IsPart-last (sorts_of s left) (sorts_of s right) (sorts_of_vars c.vars) (length (sorts_of s left)) (length (sorts_of s right)) refl refl

  -- the classes of a pattern are arguments and values over its universe
  pub triple-arguments : (classes : List ℕ) → IsTriplePattern s left right c classes → AreTripleArguments s left right c classes
  triple-arguments classes is_pattern = record {
    sizes = IsUniverse-pattern s fit (triple_sorts s left right c) classes sorts-triple is_pattern;
    left = IsOver-args_at (constant_counts s) (triple_sorts s left right c) classes 0 (sorts_of s left) (AreConstants-counts s fit) sorts-triple is_pattern left-part (fit.argument_count left);
    right = IsOver-args_at (constant_counts s) (triple_sorts s left right c) classes (length (sorts_of s left)) (sorts_of s right) (AreConstants-counts s fit) sorts-triple is_pattern right-part (fit.argument_count right);
    values = IsOver-args_at (constant_counts s) (triple_sorts s left right c) classes (length (sorts_of s left) + length (sorts_of s right)) (sorts_of_vars c.vars) (AreConstants-counts s fit) sorts-triple is_pattern values-part (few-values s fit k c g);
  }

  module _ (large : Universe) (args_left args_right values : List ℕ) (place : ℕ) (after_left after_right : List Fact)
      (h : IsConflictAt s left right c large args_left args_right values place after_left after_right) where
    -- the elements of the variables
    abbrev elements : List ℕ
    elements = taken (sorts_of s left) args_left ++ (taken (sorts_of s right) args_right ++ taken (sorts_of_vars c.vars) values)

    left-long : length (taken (sorts_of s left) args_left) ≡ length (sorts_of s left)
    left-long = length-taken large (sorts_of s left) args_left (fit.argument_count left) h.left_arguments

    right-long : length (taken (sorts_of s right) args_right) ≡ length (sorts_of s right)
    right-long = length-taken large (sorts_of s right) args_right (fit.argument_count right) h.right_arguments

    are-elements : AreElements large (triple_sorts s left right c) elements
    are-elements = AreElements-append large (sorts_of s left) (sorts_of s right ++ sorts_of_vars c.vars) (taken (sorts_of s left) args_left) (taken (sorts_of s right) args_right ++ taken (sorts_of_vars c.vars) values) left-long
        (AreElements-taken large (sorts_of s left) args_left h.left_arguments)
        (AreElements-append large (sorts_of s right) (sorts_of_vars c.vars) (taken (sorts_of s right) args_right) (taken (sorts_of_vars c.vars) values) right-long
        (AreElements-taken large (sorts_of s right) args_right h.right_arguments) (AreElements-taken large (sorts_of_vars c.vars) values h.clause_values))

    module _ (p : PatternFor (constant_counts s) (triple_sorts s left right c) elements) where
      -- the pattern's universe, and the elements of the large one that its classes stand for
      abbrev small : Universe
      small = triple_universe s left right c p.classes

      abbrev to : ℕ → ℕ → ℕ
      to = p.renames.to

      embeds : Embeds s small large to
      embeds = embedding s fit (triple_sorts s left right c) p.classes elements large sorts-triple p.is_pattern p.renames h.sizes are-elements

      -- the classes stand for the arguments and values
      left-stands : embed_values to (sorts_of s left) (left_args s left p.classes) ≡ args_left
      left-stands = part-stands s fit (triple_sorts s left right c) p.classes elements large sorts-triple p.is_pattern p.renames h.sizes are-elements
          0 (sorts_of s left) args_left (fit.argument_count left) left-part
          (IsPart-front (taken (sorts_of s left) args_left) (taken (sorts_of s right) args_right ++ taken (sorts_of_vars c.vars) values)) h.left_arguments

      right-stands : embed_values to (sorts_of s right) (right_args s left right p.classes) ≡ args_right
      right-stands = part-stands s fit (triple_sorts s left right c) p.classes elements large sorts-triple p.is_pattern p.renames h.sizes are-elements
          (length (sorts_of s left)) (sorts_of s right) args_right (fit.argument_count right) right-part
          (IsPart-middle (taken (sorts_of s left) args_left) (taken (sorts_of s right) args_right) (taken (sorts_of_vars c.vars) values) (length (sorts_of s left)) left-long) h.right_arguments

      values-stand : embed_values to (sorts_of_vars c.vars) (triple_values s left right c p.classes) ≡ values
      values-stand = part-stands s fit (triple_sorts s left right c) p.classes elements large sorts-triple p.is_pattern p.renames h.sizes are-elements
          (length (sorts_of s left) + length (sorts_of s right)) (sorts_of_vars c.vars) values (few-values s fit k c g) values-part
          (IsPart-last (taken (sorts_of s left) args_left) (taken (sorts_of s right) args_right) (taken (sorts_of_vars c.vars) values) (length (sorts_of s left)) (length (sorts_of s right)) left-long right-long) h.clause_values

      -- the conflict with the arguments and values that the classes stand for
      stands : IsConflictAt s left right c large (embed_values to (sorts_of s left) (left_args s left p.classes)) (embed_values to (sorts_of s right) (right_args s left right p.classes))
          (embed_values to (sorts_of_vars c.vars) (triple_values s left right c p.classes)) place after_left after_right
      stands = subst (λ (xs : List ℕ). IsConflictAt s left right c large xs (embed_values to (sorts_of s right) (right_args s left right p.classes)) (embed_values to (sorts_of_vars c.vars) (triple_values s left right c p.classes)) place after_left after_right) (sym left-stands)
          (subst (λ (xs : List ℕ). IsConflictAt s left right c large args_left xs (embed_values to (sorts_of_vars c.vars) (triple_values s left right c p.classes)) place after_left after_right) (sym right-stands)
          (subst (λ (xs : List ℕ). IsConflictAt s left right c large args_left args_right xs place after_left after_right) (sym values-stand) h))

      -- the conflict on the pattern
      on_pattern : ConflictOnSome s left right c
      on_pattern = let over = triple-arguments p.classes p.is_pattern in record {
        classes = p.classes;
        is_pattern = p.is_pattern;
        conflict = record {
          place = place;
          after_left = restricted s small to after_left;
          after_right = restricted s small to after_right;
          conflict = IsConflictAt-embed s small large to embeds fit left right k c g
              (left_args s left p.classes) (right_args s left right p.classes) (triple_values s left right c p.classes) over.left over.right over.values
              place after_left after_right (restricted s small to after_left) (restricted s small to after_right)
              (IsState-restricted s small to after_left (AreShort-from_fit s fit)) (IsState-restricted s small to after_right (AreShort-from_fit s fit))
              (restricts s small to after_left (AreShort-from_fit s fit)) (restricts s small to after_right (AreShort-from_fit s fit)) stands;
        };
      }

-- a conflict is one on some pattern
pub conflict_on_some : (s : Specification) (left right : Action) (k : ℕ) (c : Clause) → IsFit s → slice_get s.clauses k ≡ Some c → Conflict s left right k → ConflictOnSome s left right c
conflict_on_some s left right k c fit g h =
    let at : IsConflictAt s left right c h.universe h.left_args h.right_args h.values h.place h.after_left h.after_right =
    subst (λ (d : Clause). IsConflictAt s left right d h.universe h.left_args h.right_args h.values h.place h.after_left h.after_right) (same_Some h.clause c (sym h.declared ∙ g)) h.conflict in
    on_pattern s fit left right k c g h.universe h.left_args h.right_args h.values h.place h.after_left h.after_right at
    (pattern_for (constant_counts s) (triple_sorts s left right c) (elements s fit left right k c g h.universe h.left_args h.right_args h.values h.place h.after_left h.after_right at) (AreConstants-counts s fit) (sorts-triple s fit left right k c g))

-- a conflict on a pattern is a conflict
pub conflict_from : (s : Specification) (left right : Action) (k : ℕ) (c : Clause) (classes : List ℕ) → IsAction s left → IsAction s right → slice_get s.clauses k ≡ Some c → ConflictOn s left right c classes → Conflict s left right k
conflict_from s left right k c classes left_is right_is g h = record {
  left_declared = left_is;
  right_declared = right_is;
  clause = c;
  declared = g;
  universe = triple_universe s left right c classes;
  left_args = left_args s left classes;
  right_args = right_args s left right classes;
  values = triple_values s left right c classes;
  place = h.place;
  after_left = h.after_left;
  after_right = h.after_right;
  conflict = h.conflict;
}
