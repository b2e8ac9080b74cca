-- How elements, facts, actions and clauses are printed in a report, where only constants have names of their own.
--
--   element_text e                  a constant's name; for any other element the name of its sort, `#`, and its number
--                                   among all elements of the sort, counted from 1
--   constant_at s sort number       the constant that is this element of the sort: a sort's first elements are its
--                                   constants, in declared order
--   elements_of s sorts numbers     the elements of these sorts with these numbers
--   elements_text s sorts numbers   their texts in parentheses, with commas between them
--   fact_text s f                   the predicate's name with the fact's elements
--   facts_text s facts              facts with a space between each two, `none` where there is none
--   action_name_text s action       an operation's name, or `drop` and a bound's name
--   action_text s action args       an action's name with its arguments
--   clause_name_text s k            a clause's name
--   clause_text s k values          a clause's name with the values of its variables
--   literal_text s values l         the fact of a literal, or `not` and the fact
use Rattle.std.specs.Prelude.{ℕ, ◌+◌, List, [], ◌∷◌, ◌++◌, codes, decimal, map, slice_get, Option}
use Rattle.std.specs.List.{join_by, zip}
use Rattle.std.specs.Option.{option_map_or}
use Rattle.ipa_spec.specs.Actions.{place_sorts, sorts_of, sorts_of_vars}
use Rattle.ipa_spec.specs.Constants.{constants_of}
use Rattle.ipa_spec.specs.declared.constants.Constant.{Constant}
use Rattle.ipa_spec.specs.declared.specification.Specification.{Specification}
use Rattle.ipa_spec.specs.declared.names.Name.{Name}
use Rattle.ipa_spec.specs.declared.clauses.Literal.{Literal}
use Rattle.ipa_spec.specs.declared.clauses.Literal.TheVariants.{Holds, Fails, Same, Differ}
use Rattle.ipa_spec.specs.declared.operations.Action.{Action}
use Rattle.ipa_spec.specs.declared.operations.Action.TheVariants.{Op, Drop}
use Rattle.ipa_logic.specs.Truth.{fact_of}
use Rattle.ipa_logic.specs.declared.facts.Fact.{Fact}
use Rattle.ipa_forms.specs.Layout.{name_text, listed_text}
use Rattle.ipa_report.specs.declared.elements.Element.{Element}
use Rattle.ipa_report.specs.declared.elements.Element.TheVariants.{Constant as Named, Numbered}

-- a name, and nothing where there is none
abbrev pub found_name_text : Option Name → List ℕ
found_name_text name = option_map_or name_text name []

-- a constant's name; for any other element the name of its sort, `#`, and its number counted from 1
abbrev pub element_text : Element → List ℕ
element_text (Named name) = name_text name
element_text (Numbered sort number) = found_name_text sort ++ codes "#" ++ decimal (number + 1)

-- the constant that is the element of the sort with this number
abbrev pub constant_at : Specification → ℕ → ℕ → Option Constant
constant_at s sort number = slice_get (constants_of s.constants sort) number

-- the element of a sort with a number from 0
abbrev pub element_of_sort : Specification → ℕ × ℕ → Element
element_of_sort s (sort, number) =
    option_map_or (λ c. Named c.name) (constant_at s sort number) (Numbered (slice_get s.sorts sort) number)

-- the elements of these sorts with these numbers
abbrev pub elements_of : Specification → List ℕ → List ℕ → List Element
elements_of s sorts numbers = map (element_of_sort s) (zip sorts numbers)

-- elements in parentheses, with commas between them
abbrev pub elements_text : Specification → List ℕ → List ℕ → List ℕ
elements_text s sorts numbers = listed_text element_text (elements_of s sorts numbers)

-- the name of a predicate
abbrev pub predicate_name_text : Specification → ℕ → List ℕ
predicate_name_text s n = option_map_or (λ p. name_text p.name) (slice_get s.predicates n) []

-- the predicate's name with the fact's elements
abbrev pub fact_text : Specification → Fact → List ℕ
fact_text s f = predicate_name_text s f.predicate ++ elements_text s (place_sorts s.predicates f.predicate) f.args

-- facts with a space between each two, `none` where there is none
abbrev pub facts_text : Specification → List Fact → List ℕ
facts_text s [] = codes "none"
facts_text s (f ∷ later) = join_by (fact_text s) (codes " ") (f ∷ later)

-- an operation's name, or `drop` and a bound's name
abbrev pub action_name_text : Specification → Action → List ℕ
action_name_text s (Op n) = option_map_or (λ o. name_text o.name) (slice_get s.operations n) []
action_name_text s (Drop n) = codes "drop " ++ option_map_or (λ b. name_text b.name) (slice_get s.bounds n) []

-- an action's name with its arguments
abbrev pub action_text : Specification → Action → List ℕ → List ℕ
action_text s action args = action_name_text s action ++ elements_text s (sorts_of s action) args

-- the name of a clause
abbrev pub clause_name_text : Specification → ℕ → List ℕ
clause_name_text s k = option_map_or (λ c. name_text c.name) (slice_get s.clauses k) []

-- the sorts of a clause's variables
abbrev pub clause_sorts : Specification → ℕ → List ℕ
clause_sorts s k = option_map_or (λ c. sorts_of_vars c.vars) (slice_get s.clauses k) []

-- a clause's name with the values of its variables
abbrev pub clause_text : Specification → ℕ → List ℕ → List ℕ
clause_text s k values = clause_name_text s k ++ elements_text s (clause_sorts s k) values

-- the fact of a literal, or `not` and the fact; equalities have no fact
abbrev pub literal_text : Specification → List ℕ → Literal → List ℕ
literal_text s values (Holds a) = fact_text s (fact_of s values a)
literal_text s values (Fails a) = codes "not " ++ fact_text s (fact_of s values a)
literal_text s values (Same v w) = []
literal_text s values (Differ v w) = []
