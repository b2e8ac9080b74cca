-- Variables with the sorts of places.
--
--   typed_short   there are no more than there are variables
use Rattle.std.proofs.Common.{◌≤◌, List, [], ◌∷◌, length, arith}
use Rattle.ipa_spec.specs.declared.names.Name.{Name}
use Rattle.ipa_names.specs.Scopes.{typed_by_places}

pub typed_short : (vars places : List Name) → length (typed_by_places vars places) ≤ length vars
typed_short [] places = omega arith
typed_short (v ∷ vars) [] = omega arith
typed_short (v ∷ vars) (p ∷ places) = omega (arith, typed_short vars places)
