-- Constants, and the sorts of terms.
--
--   sort_of_constant s k      the sort of the constant of this number, where it is declared
--   constants_of cs sort      the constants of a sort, in declared order
--   constant_count s sort     how many constants a sort has
--   element_of_constant s k   the element that a constant stands for: the number of its sort's constants declared before it
--   sort_of_term s sorts t    the sort of a term over variables of these sorts, where it is declared
use Rattle.std.specs.Prelude.{ℕ, ◌==◌, List, length, filter, take, slice_get, Option}
use Rattle.std.specs.Option.{option_map, option_map_or}
use Rattle.ipa_spec.specs.declared.specification.Specification.{Specification}
use Rattle.ipa_spec.specs.declared.constants.Constant.{Constant}
use Rattle.ipa_spec.specs.declared.constants.Term.{Term}
use Rattle.ipa_spec.specs.declared.constants.Term.TheVariants.{Var as Variable, Const as Fixed}

-- the sort of the constant of this number, where it is declared
abbrev pub sort_of_constant : Specification → ℕ → Option ℕ
sort_of_constant s k = option_map (λ c. c.sort) (slice_get s.constants k)

-- the constants of a sort, in declared order
abbrev pub constants_of : List Constant → ℕ → List Constant
constants_of cs sort = filter (λ c. c.sort == sort) cs

-- how many constants a sort has
abbrev pub constant_count : Specification → ℕ → ℕ
constant_count s sort = length (constants_of s.constants sort)

-- the element that a constant stands for: the number of its sort's constants declared before it
abbrev pub element_of_constant : Specification → ℕ → ℕ
element_of_constant s k =
    option_map_or (λ c. length (constants_of (take k s.constants) c.sort)) (slice_get s.constants k) 0

-- the sort of a term over variables of these sorts, where it is declared
abbrev pub sort_of_term : Specification → List ℕ → Term → Option ℕ
sort_of_term s sorts (Variable v) = slice_get sorts v
sort_of_term s sorts (Fixed k) = sort_of_constant s k
