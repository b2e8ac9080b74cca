-- What setup lines say, by numbers: sorts, predicates and operations have the numbers of their places in what is
-- declared before, and elements the numbers of their places among the elements of their sort.
--
--   elements_at elements n               the elements of the sort of a number
--   elements_of d elements sort          the elements of a sort, by its name, in the order of their declarations
--   element_number d elements sort name  the number of an element in the sort of its place
--   with_elements d elements sort names  the elements with more of a sort
--   fact_said d elements predicate names the fact that a `base` line gives
--   nothing_arranged                     what no line says
--   with_arrangement d before line       what is said with this line behind those
use Rattle.std.specs.Prelude.{ℕ, zero, suc, ◌-◌, List, [], ◌∷◌, ◌++◌, map, Option, None, unwrap_or, slice_get, slice_index_or}
use Rattle.std.specs.List.{zip}
use Rattle.std.specs.Option.{option_map, option_map_or}
use Rattle.ipa_spec.specs.declared.names.Name.{Name}
use Rattle.ipa_logic.specs.declared.facts.Fact.{Fact}
use Rattle.ipa_logic.specs.declared.facts.Request.{Request}
use Rattle.ipa_logic.specs.declared.facts.Request.TheVariants as request
use Rattle.ipa_names.specs.Meaning.{three, predicate_number}
use Rattle.ipa_names.specs.Naming.{number_in, number_or_count, with_last}
use Rattle.ipa_names.specs.Scopes.{places_of, operation_named}
use Rattle.ipa_forms.specs.declared.forms.Form.{Form}
use Rattle.ipa_forms.specs.declared.forms.Form.TheVariants.{Const, Elem, Base, Replicas, Session, Do, Show}
use Rattle.ipa_names.specs.declared.declared.Declared.{Declared}
use Rattle.ipa_reader.specs.declared.sessions.SessionWork.{SessionWork}
use Rattle.ipa_reader.specs.declared.standing.Arranged.{Arranged}

-- a sort for which no list stands has no elements
abbrev pub elements_at : List (List Name) → ℕ → List Name
elements_at elements n = unwrap_or (slice_get elements n) []

abbrev pub elements_of : Declared → List (List Name) → Name → List Name
elements_of d elements sort = option_map_or (elements_at elements) (number_in d.sorts sort) []

abbrev pub element_number : Declared → List (List Name) → Name → Name → ℕ
element_number d elements sort name = number_or_count (elements_of d elements sort) name

-- more names in the list of a number; lists before it are empty where they do not stand yet
abbrev pub with_more : ℕ → List Name → List (List Name) → List (List Name)
with_more zero names [] = names ∷ []
with_more zero names (own ∷ others) = (own ++ names) ∷ others
with_more (suc n) names [] = [] ∷ with_more n names []
with_more (suc n) names (own ∷ others) = own ∷ with_more n names others

abbrev pub with_elements : Declared → List (List Name) → Name → List Name → List (List Name)
with_elements d elements sort names = option_map_or (λ n. with_more n names elements) (number_in d.sorts sort) elements

-- the numbers of elements in the places of these sorts
abbrev pub element_numbers : Declared → List (List Name) → List Name → List Name → List ℕ
element_numbers d elements sorts names = map (λ q. element_number d elements q.1 q.0) (zip names sorts)

-- an argument list of a fixed width: 0 stands in the unused places
abbrev pub four : List ℕ → List ℕ
four ns = slice_index_or ns 0 0 ∷ slice_index_or ns 1 0 ∷ slice_index_or ns 2 0 ∷ slice_index_or ns 3 0 ∷ []

abbrev pub operation_number : Declared → Name → ℕ
operation_number d name = number_or_count (map (λ o. o.name) d.operations) name

abbrev pub fact_said : Declared → List (List Name) → Name → List Name → Fact
fact_said d elements predicate names = record {
  predicate = predicate_number d predicate;
  args = three (element_numbers d elements (places_of d predicate) names);
}

-- the names of the sorts of an operation's parameters
abbrev pub parameter_sorts : Declared → Name → List Name
parameter_sorts d operation = option_map_or (λ o. map (λ v. v.sort) o.params) (operation_named d operation) []

abbrev pub do_said : Declared → List (List Name) → Name → List Name → Request
do_said d elements operation names =
    request.Do (operation_number d operation) (four (element_numbers d elements (parameter_sorts d operation) names))

-- the number of the element wanted in a place, and none for `*`
abbrev pub wanted_number : Declared → List (List Name) → Option Name × Name → Option ℕ
wanted_number d elements (wanted, sort) = option_map (element_number d elements sort) wanted

abbrev pub three_wanted : List (Option ℕ) → List (Option ℕ)
three_wanted ns = slice_index_or ns 0 None ∷ slice_index_or ns 1 None ∷ slice_index_or ns 2 None ∷ []

abbrev pub show_said : Declared → List (List Name) → Name → List (Option Name) → Request
show_said d elements predicate places =
    request.Show (predicate_number d predicate)
    (three_wanted (map (wanted_number d elements) (zip places (places_of d predicate))))

-- one more request of a session
abbrev pub with_request : Request → SessionWork → SessionWork
with_request asked work = record work { requests = work.requests ++ asked ∷ [] }

-- the number of replicas is 1 where no `replicas` line stands
abbrev pub nothing_arranged : Arranged
nothing_arranged = record { elements = []; facts = []; replicas = 1; sessions = [] }

-- a constant is the next element of its sort, so that the elements of a sort begin with its constants; requests go to
-- the session declared last; sessions name their replicas from 1
abbrev pub with_arrangement : Declared → Arranged → Form → Arranged
with_arrangement d a (Const c) = record a { elements = with_elements d a.elements c.sort (c.name ∷ []) }
with_arrangement d a (Elem sort names) = record a { elements = with_elements d a.elements sort names }
with_arrangement d a (Base predicate names) =
    record a { facts = a.facts ++ fact_said d a.elements predicate names ∷ [] }
with_arrangement d a (Replicas number) = record a { replicas = number }
with_arrangement d a (Session number) =
    record a { sessions = a.sessions ++ record { replica = number - 1; requests = [] } ∷ [] }
with_arrangement d a (Do operation names) =
    record a { sessions = with_last (with_request (do_said d a.elements operation names)) a.sessions }
with_arrangement d a (Show predicate places) =
    record a { sessions = with_last (with_request (show_said d a.elements predicate places)) a.sessions }
with_arrangement d a _ = a
