-- The arguments of an action, place by place.
use Rattle.std.proofs.Common.{◌≡◌, ℕ, ◌<◌, ◌≤◌, List, length, refl, sym, ◌∙◌, subst, arith, Option, Some, None, slice_get, inl, inr}
use Rattle.std.specs.Prelude.{MatchOption}
use Rattle.std.proofs.lemmas.Bool.{cases_lt}
use Rattle.std.proofs.lemmas.Option.{slice_get_past, slice_get_within}
use Rattle.std.proofs.lemmas.List.{get_or_past}
use Rattle.ipa_spec.specs.Actions.{sorts_of}
use Rattle.ipa_spec.specs.declared.specification.Specification.{Specification}
use Rattle.ipa_spec.specs.declared.operations.Action.{Action}
use Rattle.ipa_logic.specs.Facts.{Universe, size_of}
use Rattle.ipa_logic.specs.Truth.{value_at, IsArguments}
use Rattle.ipa_history.specs.PushLaws.{at_place}
use Rattle.ipa_gate.specs.Shapes.{IsArgumentAt}

-- where nothing stands the list has ended
pub ended : {X : Type 0} (xs : List X) (k : ℕ) → slice_get xs k ≡ None → length xs ≤ k
ended xs k none = elim (cases_lt k (length xs)) [
  | inl within ↦ let x = at_place xs k within in absurd (let e : None ≡ Some x.0 = sym none ∙ x.1 in cc)
  | inr past ↦ past
]

module _ (s : Specification) (universe : Universe) (action : Action) (args : List ℕ) where
  -- arguments are right in each place
  pub argument_at : (k : ℕ) → IsArguments s universe action args → IsArgumentAt s universe action args k
  argument_at k is = by_sort (slice_get (sorts_of s action) k) refl
    where
      by_sort : (o : Option ℕ) → slice_get (sorts_of s action) k ≡ o →
          MatchOption o (value_at args k ≡ 0) (λ sort. value_at args k < size_of universe sort)
      by_sort None e = is.unused k (ended (sorts_of s action) k e)
      by_sort (Some sort) e = is.elements k sort e

  -- and so are they where they are right in each of the four
  pub arguments_from : length (sorts_of s action) ≤ 4 → length args ≡ 4 →
      ((k : ℕ) → k < 4 → IsArgumentAt s universe action args k) → IsArguments s universe action args
  arguments_from few width each = record {
    elements = λ v sort at.
        let inside : v < length (sorts_of s action) = slice_get_within (sorts_of s action) v sort at in
        subst (λ (o : Option ℕ). MatchOption o (value_at args v ≡ 0) (λ x. value_at args v < size_of universe x)) at
        (each v (omega (arith, inside, few)));
    unused = λ v past. elim (cases_lt v 4) [
      | inl within ↦ subst (λ (o : Option ℕ). MatchOption o (value_at args v ≡ 0)
          (λ x. value_at args v < size_of universe x)) (slice_get_past (sorts_of s action) v past) (each v within)
      | inr high ↦ get_or_past args v 0 (omega (arith, high, width))
    ];
    width = width;
  }
