-- The limits 1 to 13 and 19 at a specification line.
--
--   limits_passed d line   the limits that the line passes, in the order of their numbers, each with the number found
--   limit_passed d line    the least of them
--
-- Needs and effects are counted on the operation declared last, and further removes on the bound declared last, also
-- where the line is out of order; where there is none, no limit counts them.
use Rattle.std.specs.Prelude.{ℕ, ◌+◌, List, [], ◌∷◌, length, Option, None}
use Rattle.std.specs.Option.{option_map_or}
use Rattle.ipa_spec.specs.Limits.{above, size_outside, first_there}
use Rattle.ipa_spec.specs.declared.faults.SpecFault.{SpecFault}
use Rattle.ipa_names.specs.Naming.{last_of}
use Rattle.ipa_names.specs.Scopes.{constants_named}
use Rattle.ipa_forms.specs.declared.forms.Form.{Form}
use Rattle.ipa_forms.specs.declared.forms.Form.TheVariants.{Sort, Const, Pred, Clause, Op, Need, Add, Del, Bound, Drops}
use Rattle.ipa_names.specs.declared.declared.Declared.{Declared}

-- the limit of this number is passed by one count that is above the greatest allowed
abbrev pub count_above : ℕ → ℕ → ℕ → Option SpecFault
count_above which most count = above which most (count ∷ [])

abbrev pub effects_above : Declared → Option SpecFault
effects_above d = option_map_or (λ o. count_above 9 12 (length o.effects + 1)) (last_of d.operations) None

abbrev pub limits_passed : Declared → Form → List (Option SpecFault)
limits_passed d (Sort name) = count_above 1 8 (length d.sorts + 1) ∷ []
limits_passed d (Const c) = count_above 19 4 (length (constants_named d.constants c.sort) + 1) ∷ []
limits_passed d (Pred name sorts rule) =
    count_above 2 32 (length d.predicates + 1) ∷ count_above 3 3 (length sorts) ∷ []
limits_passed d (Clause name vars literals) =
    count_above 4 32 (length d.clauses + 1) ∷ count_above 5 6 (length literals) ∷ count_above 6 4 (length vars) ∷ []
limits_passed d (Op name params) = count_above 7 32 (length d.operations + 1) ∷ count_above 8 4 (length params) ∷ []
limits_passed d (Need literal) =
    option_map_or (λ o. count_above 10 6 (length o.needs + 1)) (last_of d.operations) None ∷ []
limits_passed d (Add predicate args) = effects_above d ∷ []
limits_passed d (Del predicate args) = effects_above d ∷ []
limits_passed d (Bound name predicate vars counted most pick) =
    count_above 11 8 (length d.bounds + 1) ∷ size_outside (most ∷ []) ∷ []
limits_passed d (Drops predicate args) =
    option_map_or (λ b. count_above 13 4 (length b.removes + 1)) (last_of d.bounds) None ∷ []
limits_passed d _ = []

abbrev pub limit_passed : Declared → Form → Option SpecFault
limit_passed d line = first_there (limits_passed d line)
