-- The variables that an argument may name.
--
--   sorts_of_variables v   their sorts, in declared order
use Rattle.std.specs.Prelude.{ℕ, List, [], take}
use Rattle.std.specs.Option.{option_map_or, option_copied}
use Rattle.ipa_spec.specs.Actions.{sorts_of_vars}
use Rattle.ipa_spec.specs.declared.faults.variables.Variables.{Variables}
use Rattle.ipa_spec.specs.declared.faults.variables.Variables.TheVariants.{Listed, Places}

-- the sorts of the variables of a clause or an operation, or of the places of a bound's predicate
abbrev pub sorts_of_variables : Variables → List ℕ
sorts_of_variables (Listed vars) = sorts_of_vars vars.now
sorts_of_variables (Places found) =
    option_map_or (λ p. take p.arity p.sorts) (option_copied found) []
