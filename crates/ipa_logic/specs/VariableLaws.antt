-- Laws of variables and their sorts.
--
--   slice_get_none    no item stands past the end
--   variables-past    no variable stands past the last sort
--   variable-at       the sort of a variable
use Rattle.std.proofs.Common.{◌≡◌, ℕ, ◌≤◌, List, length, Some, None, slice_get, sym, ap, ◌∙◌, inl, inr}
use Rattle.std.specs.Option.{option_map}
use Rattle.std.proofs.lemmas.Option.{slice_get-map, slice_get_cases}
use Rattle.std.proofs.lemmas.List.{length-map}
use Rattle.ipa_spec.specs.Actions.{sorts_of_vars}
use Rattle.ipa_spec.specs.declared.predicates.Var.{Var}

-- no item stands past the end
pub slice_get_none : {X : Type 0} (xs : List X) (i : ℕ) → slice_get xs i ≡ None → length xs ≤ i
slice_get_none xs i e = elim (slice_get_cases xs i).1 [
  | inl found ↦ absurd (let both : Some found.0 ≡ None = sym found.2 ∙ e in cc)
  | inr past ↦ past.0
]

-- no variable stands past the last sort
pub variables-past : (vars : List Var) (at : ℕ) → None ≡ slice_get vars at → length (sorts_of_vars vars) ≤ at
variables-past vars at e = rw (length-map vars (λ v. v.sort)) (slice_get_none vars at (sym e))

-- the sort of a variable
pub variable-at : (vars : List Var) (at : ℕ) (v : Var) → Some v ≡ slice_get vars at → slice_get (sorts_of_vars vars) at ≡ Some v.sort
variable-at vars at v e = slice_get-map (λ v. v.sort) vars at ∙ ap (option_map (λ v. v.sort)) (sym e)
