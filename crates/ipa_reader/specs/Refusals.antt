-- The refusals of a line that has a form, given what stands before it.
--
--   spec_fault_at s line     the first of the seven faults at the line
--   is_missing s line        an element is not declared in the sort of its place, or a session's replica is none
--   setup_limit_at s line    the first of the limits 14 to 17 that the line passes, with the number found
--   refusal_at s line        the first refusal: a fault, the order, a missing element or a setup limit
use Rattle.std.specs.Prelude.{ℕ, ◌+◌, Bool, false, not, ◌||◌, ◌&&◌, ◌==◌, nat_lt, nat_le, List, [], ◌∷◌, ◌++◌, length, sum_by, Option, None, Some, if◌then◌else◌}
use Rattle.std.specs.List.{list_any, zip}
use Rattle.std.specs.Option.{option_map, option_map_or}
use Rattle.ipa_spec.specs.Faults.{has_repeat}
use Rattle.ipa_spec.specs.Limits.{fault_if, first_there}
use Rattle.ipa_spec.specs.declared.names.Name.{Name}
use Rattle.ipa_spec.specs.declared.faults.SpecFault.{SpecFault}
use Rattle.ipa_spec.specs.declared.faults.SpecFault.TheVariants as fault
use Rattle.ipa_names.specs.Naming.{is_among}
use Rattle.ipa_names.specs.Scopes.{places_of, operation_named}
use Rattle.ipa_names.specs.Flaws.{use_has, sort_has, arity_named, specification_line_has}
use Rattle.ipa_names.specs.Counts.{limit_passed}
use Rattle.ipa_reader.specs.Arrangements.{elements_of, parameter_sorts}
use Rattle.ipa_reader.specs.Ordering.{is_out_of_order}
use Rattle.ipa_names.specs.declared.flaws.Flaw.{Flaw}
use Rattle.ipa_names.specs.declared.flaws.Flaw.TheVariants.{Arity, SortMismatch, UnknownName, Duplicate, WildAdd, FreeVariable}
use Rattle.ipa_forms.specs.declared.forms.Form.{Form}
use Rattle.ipa_forms.specs.declared.forms.Form.TheVariants.{Elem, Base, Replicas, Session, Do, Show}
use Rattle.ipa_names.specs.declared.declared.Declared.{Declared}
use Rattle.ipa_reader.specs.declared.sessions.SessionWork.{SessionWork}
use Rattle.ipa_reader.specs.declared.refusals.DocKind.{DocKind}
use Rattle.ipa_reader.specs.declared.refusals.DocKind.TheVariants.{Spec, Order, UnknownElement, SetupLimit}
use Rattle.ipa_reader.specs.declared.standing.Standing.{Standing}

-- elements of which none may stand twice in their sort
abbrev pub elements_have : Flaw → List Name → List Name → Bool
elements_have Duplicate before names = has_repeat (λ name. name) (before ++ names)
elements_have _ before names = false

-- the number of parameters of a declared operation
abbrev pub parameter_count : Declared → Name → Option ℕ
parameter_count d operation = option_map (λ o. length o.params) (operation_named d operation)

-- a line has a flaw: a setup line has at most one of arity, of an unknown name or of a duplicate
unfoldable pub line_has : Flaw → Standing → Form → Bool
line_has flaw s (Elem sort names) =
    sort_has flaw s.declared sort || elements_have flaw (elements_of s.declared s.arranged.elements sort) names
line_has flaw s (Base predicate names) = use_has flaw (arity_named s.declared predicate) (length names)
line_has flaw s (Replicas number) = false
line_has flaw s (Session number) = false
line_has flaw s (Do operation names) = use_has flaw (parameter_count s.declared operation) (length names)
line_has flaw s (Show predicate places) = use_has flaw (arity_named s.declared predicate) (length places)
line_has flaw s line = specification_line_has flaw s.declared line

-- each of the seven faults at the line, in their order
abbrev pub faults_at : Standing → Form → List (Option SpecFault)
faults_at s line =
    (fault_if (line_has Arity s line) fault.Arity
    ∷ fault_if (line_has SortMismatch s line) fault.SortMismatch
    ∷ fault_if (line_has UnknownName s line) fault.UnknownName
    ∷ fault_if (line_has Duplicate s line) fault.Duplicate
    ∷ fault_if (line_has WildAdd s line) fault.WildAdd
    ∷ fault_if (line_has FreeVariable s line) fault.FreeVariable
    ∷ limit_passed s.declared line
    ∷ [])

abbrev pub spec_fault_at : Standing → Form → Option SpecFault
spec_fault_at s line = first_there (faults_at s line)

-- the name is no element of the sort
abbrev pub is_no_element : Standing → Name × Name → Bool
is_no_element s (name, sort) = not (is_among (elements_of s.declared s.arranged.elements sort) name)

-- a wanted element, where one is wanted
abbrev pub is_no_wanted : Standing → Option Name × Name → Bool
is_no_wanted s (wanted, sort) = option_map_or (λ name. is_no_element s (name, sort)) wanted false

abbrev pub is_missing : Standing → Form → Bool
is_missing s (Base predicate names) = list_any (is_no_element s) (zip names (places_of s.declared predicate))
is_missing s (Session number) = (number == 0) || nat_lt s.arranged.replicas number
is_missing s (Do operation names) = list_any (is_no_element s) (zip names (parameter_sorts s.declared operation))
is_missing s (Show predicate places) = list_any (is_no_wanted s) (zip places (places_of s.declared predicate))
is_missing s _ = false

-- the number of requests of all sessions
abbrev pub request_count : List SessionWork → ℕ
request_count sessions = sum_by (λ work. length work.requests) sessions

-- the limit of this number is passed by a count above the greatest allowed
abbrev pub setup_above : ℕ → ℕ → ℕ → Option DocKind
setup_above which most count = if nat_lt most count then Some (SetupLimit which count) else None

-- the number of replicas is from 1 to 8
abbrev pub replicas_outside : ℕ → Option DocKind
replicas_outside number = if nat_le 1 number && nat_le number 8 then None else Some (SetupLimit 15 number)

abbrev pub setup_limit_at : Standing → Form → Option DocKind
setup_limit_at s (Elem sort names) =
    setup_above 14 256 (length (elements_of s.declared s.arranged.elements sort) + length names)
setup_limit_at s (Replicas number) = replicas_outside number
setup_limit_at s (Session number) = setup_above 16 16 (length s.arranged.sessions + 1)
setup_limit_at s (Do operation names) = setup_above 17 16384 (request_count s.arranged.sessions + 1)
setup_limit_at s (Show predicate places) = setup_above 17 16384 (request_count s.arranged.sessions + 1)
setup_limit_at s _ = None

-- the first of a list that is there
abbrev pub first_kind : List (Option DocKind) → Option DocKind
first_kind [] = None
first_kind (None ∷ later) = first_kind later
first_kind (Some kind ∷ later) = Some kind

abbrev pub kind_if : Bool → DocKind → Option DocKind
kind_if holds kind = if holds then Some kind else None

-- each refusal of the line, in the order of the kinds
abbrev pub refusals_at : Standing → Form → List (Option DocKind)
refusals_at s line =
    (option_map (λ found. Spec found) (spec_fault_at s line)
    ∷ kind_if (is_out_of_order s.place line) Order
    ∷ kind_if (is_missing s line) UnknownElement
    ∷ setup_limit_at s line
    ∷ [])

abbrev pub refusal_at : Standing → Form → Option DocKind
refusal_at s line = first_kind (refusals_at s line)
