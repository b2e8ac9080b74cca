-- What a fit specification says of the variables of its actions and clauses.
--
--   AreSorts-append, AreSorts-action, AreSorts-clause   their sorts are among the eight
--   few-values      a clause has at most four variables
use Rattle.std.proofs.Common.{◌≡◌, ℕ, ◌≤◌, List, ◌++◌, length, arith, Some, slice_get, inl, inr}
use Rattle.std.proofs.lemmas.List.{length-map}
use Rattle.ipa_spec.specs.Actions.{sorts_of, sorts_of_vars}
use Rattle.ipa_spec.specs.Fits.{IsFit}
use Rattle.ipa_spec.specs.declared.specification.Specification.{Specification}
use Rattle.ipa_spec.specs.declared.clauses.Clause.{Clause}
use Rattle.ipa_spec.specs.declared.operations.Action.{Action}
use Rattle.ipa_ground.specs.ListLaws.{listed_in}
use Rattle.ipa_ground.specs.Patterns.{AreSorts}

pub AreSorts-append : (a b : List ℕ) → AreSorts a → AreSorts b → AreSorts (a ++ b)
AreSorts-append a b h g = record {
  below = λ i sort e. elim (listed_in a b sort (record { place = i; there = e })) [
    | inl first ↦ h.below first.place sort first.there
    | inr second ↦ g.below second.place sort second.there
  ];
}

module _ (s : Specification) (fit : IsFit s) where
  pub AreSorts-action : (action : Action) → AreSorts (sorts_of s action)
  AreSorts-action action = record { below = λ i sort e. omega (arith, fit.argument_sort action i sort e, fit.sort_count) }

  module _ (k : ℕ) (c : Clause) (g : slice_get s.clauses k ≡ Some c) where
    pub AreSorts-clause : AreSorts (sorts_of_vars c.vars)
    AreSorts-clause = record { below = λ i sort e. omega (arith, fit.variable_sort k i sort c g e, fit.sort_count) }

    -- a clause has at most four variables
    pub few-values : length (sorts_of_vars c.vars) ≤ 4
    few-values = rw (length-map c.vars (λ v. v.sort)) (fit.variable_count k c g)
