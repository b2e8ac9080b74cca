-- Limits on the counts and numbers of a specification, and its first fault.
--
--   constant_counts s how many constants each sort has, in declared order
--   first_limit s     the least limit that is passed, with the first count that passes it
--   fault_of s        the first fault of a specification, in the order of the kinds, limits last
--   IsFaultless s     there is none
use Rattle.std.specs.Prelude.{◌≡◌, ℕ, Bool, true, false, not, ◌&&◌, nat_lt, nat_le, List, [], ◌∷◌, length, map, find, Option, Some, None, if◌then◌else◌}
use Rattle.std.specs.List.{range_with_len}
use Rattle.std.specs.Option.{option_map}
use Rattle.ipa_spec.specs.Constants.{constant_count}
use Rattle.ipa_spec.specs.Faults.{specification_has}
use Rattle.ipa_spec.specs.declared.faults.FaultKind.TheVariants as kind
use Rattle.ipa_spec.specs.declared.faults.SpecFault.{SpecFault}
use Rattle.ipa_spec.specs.declared.faults.SpecFault.TheVariants.{Arity, SortMismatch, UnknownName, Duplicate, WildAdd, FreeVariable, Limit}
use Rattle.ipa_spec.specs.declared.specification.Specification.{Specification}

-- the limit of this number is passed by the first of these counts that is above the greatest allowed
abbrev pub above : ℕ → ℕ → List ℕ → Option SpecFault
above which most counts =
    option_map (λ found. Limit which found) (find (λ count. nat_lt most count) counts)

-- a size of a bound that is 0 or above 65535
abbrev pub size_outside : List ℕ → Option SpecFault
size_outside sizes =
    option_map (λ found. Limit 12 found)
    (find (λ size. not (nat_le 1 size && nat_le size 65535)) sizes)

-- the first of a list that is there
abbrev pub first_there : List (Option SpecFault) → Option SpecFault
first_there [] = None
first_there (None ∷ rest) = first_there rest
first_there (Some fault ∷ rest) = Some fault

-- how many constants each sort has, in declared order
abbrev pub constant_counts : Specification → List ℕ
constant_counts s = map (constant_count s) (range_with_len 0 (length s.sorts))

-- each limit that is passed, in the order of their numbers, with the first count that passes it
abbrev pub limits_passed : Specification → List (Option SpecFault)
limits_passed s =
    (above 1 8 (length s.sorts ∷ [])
    ∷ above 2 32 (length s.predicates ∷ [])
    ∷ above 3 3 (map (λ p. p.arity) s.predicates)
    ∷ above 4 32 (length s.clauses ∷ [])
    ∷ above 5 6 (map (λ c. length c.literals) s.clauses)
    ∷ above 6 4 (map (λ c. length c.vars) s.clauses)
    ∷ above 7 32 (length s.operations ∷ [])
    ∷ above 8 4 (map (λ o. length o.params) s.operations)
    ∷ above 9 12 (map (λ o. length o.effects) s.operations)
    ∷ above 10 6 (map (λ o. length o.needs) s.operations)
    ∷ above 11 8 (length s.bounds ∷ [])
    ∷ size_outside (map (λ b. b.most) s.bounds)
    ∷ above 13 4 (map (λ b. length b.removes) s.bounds)
    ∷ above 19 4 (constant_counts s)
    ∷ [])

-- the least limit that is passed
unfoldable pub first_limit : Specification → Option SpecFault
first_limit s = first_there (limits_passed s)

-- a fault of this kind, where some part has it
abbrev pub fault_if : Bool → SpecFault → Option SpecFault
fault_if found fault = if found then Some fault else None

-- each fault of a specification, in the order of the kinds
abbrev pub faults_found : Specification → List (Option SpecFault)
faults_found s =
    (fault_if (specification_has kind.Arity s) Arity
    ∷ fault_if (specification_has kind.SortMismatch s) SortMismatch
    ∷ fault_if (specification_has kind.UnknownName s) UnknownName
    ∷ fault_if (specification_has kind.Duplicate s) Duplicate
    ∷ fault_if (specification_has kind.WildAdd s) WildAdd
    ∷ fault_if (specification_has kind.FreeVariable s) FreeVariable
    ∷ first_limit s
    ∷ [])

-- the first fault
unfoldable pub fault_of : Specification → Option SpecFault
fault_of s = first_there (faults_found s)

-- a specification without a fault
pub record IsFaultless (s : Specification) : Type 0 where
  pub none : fault_of s ≡ None
