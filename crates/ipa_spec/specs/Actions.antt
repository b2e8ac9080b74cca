-- Actions: operations, and the drops of bounds.
--
--   IsAction s action        the specification declares the action
--   effects_of s action      what the action does, in declared order
--   needs_of s action        what it needs, for an operation
--   sorts_of s action        the sorts of its arguments
--   drop_effects ps b        what the drop of a bound does, its own fact's remove first
use Rattle.std.specs.Prelude.{ℕ, ◌<◌, false, nat_lt, List, [], ◌∷◌, length, map, take, slice_get, if◌then◌else◌}
use Rattle.std.specs.Option.{option_map_or}
use Rattle.ipa_spec.specs.declared.specification.Specification.{Specification}
use Rattle.ipa_spec.specs.declared.predicates.Predicate.{Predicate}
use Rattle.ipa_spec.specs.declared.predicates.Var.{Var}
use Rattle.ipa_spec.specs.declared.clauses.Literal.{Literal}
use Rattle.ipa_spec.specs.declared.operations.Arg.{Arg}
use Rattle.ipa_spec.specs.declared.operations.Arg.TheVariants.{Var as Parameter, Any}
use Rattle.ipa_spec.specs.declared.operations.Effect.{Effect}
use Rattle.ipa_spec.specs.declared.operations.Action.{Action}
use Rattle.ipa_spec.specs.declared.operations.Action.TheVariants.{Op, Drop}
use Rattle.ipa_spec.specs.declared.bounds.Bound.{Bound}

-- the specification declares the action
abbrev pub IsAction : Specification → Action → Type 0
IsAction s (Op n) = n < length s.operations
IsAction s (Drop n) = n < length s.bounds

-- the number of places of a predicate, 0 where it is not declared
abbrev pub arity_of : List Predicate → ℕ → ℕ
arity_of ps n = option_map_or (λ p. p.arity) (slice_get ps n) 0

-- the sorts of the places of a predicate
abbrev pub place_sorts : List Predicate → ℕ → List ℕ
place_sorts ps n = option_map_or (λ p. take p.arity p.sorts) (slice_get ps n) []

-- the argument of a drop in a place of its fact
abbrev pub drop_arg : ℕ → ℕ → Arg
drop_arg arity place = if nat_lt place arity then Parameter place else Any

-- the remove of the dropped fact itself
abbrev pub drop_effect : List Predicate → Bound → Effect
drop_effect ps b = let arity = arity_of ps b.predicate in
    record {
      add = false;
      predicate = b.predicate;
      args = drop_arg arity 0 ∷ drop_arg arity 1 ∷ drop_arg arity 2 ∷ [];
    }

-- what the drop of a bound does: it removes its fact, and then what the bound declares
abbrev pub drop_effects : List Predicate → Bound → List Effect
drop_effects ps b = drop_effect ps b ∷ b.removes

-- what an action does: a drop removes its fact, and then what its bound declares
abbrev pub effects_of : Specification → Action → List Effect
effects_of s (Op n) = option_map_or (λ o. o.effects) (slice_get s.operations n) []
effects_of s (Drop n) =
    option_map_or (drop_effects s.predicates) (slice_get s.bounds n) []

-- what an action needs of the state in which it is accepted: a drop needs nothing
abbrev pub needs_of : Specification → Action → List Literal
needs_of s (Op n) = option_map_or (λ o. o.needs) (slice_get s.operations n) []
needs_of s (Drop n) = []

-- the sorts of a list of variables
abbrev pub sorts_of_vars : List Var → List ℕ
sorts_of_vars vars = map (λ v. v.sort) vars

-- the sorts of an action's arguments: those of a drop are the places of its fact
abbrev pub sorts_of : Specification → Action → List ℕ
sorts_of s (Op n) = option_map_or (λ o. sorts_of_vars o.params) (slice_get s.operations n) []
sorts_of s (Drop n) =
    option_map_or (λ b. place_sorts s.predicates b.predicate) (slice_get s.bounds n) []
