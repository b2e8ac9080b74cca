-- Setups, and the refusals at the end of a document.
--
--   IsSetup ..                  what a setup keeps: its elements, and the limits 14 to 17
--   size_list elements          the number of elements of each of the eight sorts
--   instance_count s sizes      the number of instances of all clauses over a universe
--   IsNamed, IsNamedOver        the names of a broken instance, and of a bound that a group exceeds
--   IsRefusedAtEnd s elements state kind   the base is refused so: too many instances, a broken clause, or a group over
--                               a bound
--   IsKept s sizes state        it is not refused
use Rattle.std.specs.Prelude.{◌≡◌, ℕ, ◌*◌, ◌<◌, ◌≤◌, false, List, [], ◌∷◌, length, map, sum_by, fold, slice_get, Option, Some, option_and_then}
use Rattle.ipa_spec.specs.Actions.{sorts_of_vars}
use Rattle.ipa_spec.specs.Faults.{has_repeat}
use Rattle.ipa_spec.specs.declared.names.Name.{Name}
use Rattle.ipa_spec.specs.declared.clauses.Clause.{Clause}
use Rattle.ipa_spec.specs.declared.specification.Specification.{Specification}
use Rattle.ipa_logic.specs.Facts.{Universe, size_of, has}
use Rattle.ipa_logic.specs.Truth.{value_at, Keeps, IsFirstBroken}
use Rattle.ipa_logic.specs.DueDrops.{IsFirstOver}
use Rattle.ipa_logic.specs.declared.facts.Broken.{Broken}
use Rattle.ipa_logic.specs.Groups.{Within}
use Rattle.ipa_logic.specs.declared.facts.Fact.{Fact}
use Rattle.ipa_reader.specs.Arrangements.{elements_at}
use Rattle.ipa_reader.specs.Refusals.{request_count}
use Rattle.ipa_reader.specs.declared.sessions.SessionWork.{SessionWork}
use Rattle.ipa_reader.specs.declared.refusals.DocKind.{DocKind}
use Rattle.ipa_reader.specs.declared.refusals.DocKind.TheVariants.{SetupLimit, BaseClause, BaseOver}

-- the number of elements of a sort, 0 for a sort without a list
abbrev pub element_count : List (List Name) → ℕ → ℕ
element_count elements sort = length (elements_at elements sort)

abbrev pub size_list : List (List Name) → List ℕ
size_list elements = map (element_count elements) (0 ∷ 1 ∷ 2 ∷ 3 ∷ 4 ∷ 5 ∷ 6 ∷ 7 ∷ [])

-- each list of elements has as many names as the universe has elements of the sort, none twice; limits 14 to 17
pub record IsSetup (sizes : List ℕ) (elements : List (List Name)) (replicas : ℕ)
    (sessions : List SessionWork) : Type 0 where
  pub lists : length elements ≤ 8
  pub counts : sizes ≡ size_list elements
  pub apart : (n : ℕ) → has_repeat (λ name. name) (elements_at elements n) ≡ false
  pub sort_sizes : (n : ℕ) → element_count elements n ≤ 256
  pub some_replica : 0 < replicas
  pub replica_count : replicas ≤ 8
  pub session_count : length sessions ≤ 16
  pub session_replicas : (n : ℕ) (work : SessionWork) → slice_get sessions n ≡ Some work → work.replica < replicas
  pub requests : request_count sessions ≤ 16384

-- the number of values of some variables, by their sorts
abbrev pub value_count : Universe → List ℕ → ℕ
value_count sizes sorts = fold (λ n sort. n * size_of sizes sort) 1 sorts

abbrev pub instance_count : Specification → Universe → ℕ
instance_count s sizes = sum_by (λ c. value_count sizes (sorts_of_vars c.vars)) s.clauses

-- the name of the element that a variable stands for; none past the variables
abbrev pub element_name : List (List Name) → List ℕ → List ℕ → ℕ → Option Name
element_name elements sorts values v =
    option_and_then (λ sort. slice_get (elements_at elements sort) (value_at values v)) (slice_get sorts v)

abbrev pub element_names : List (List Name) → List ℕ → List ℕ → List (Option Name)
element_names elements sorts values =
    element_name elements sorts values 0 ∷ element_name elements sorts values 1 ∷ element_name elements sorts values 2
    ∷ element_name elements sorts values 3 ∷ []

-- the clause's name and the names of the elements are those of the instance
pub record IsNamed (s : Specification) (elements : List (List Name)) (broken : Broken) (name : Name)
    (names : List (Option Name)) : Type 0 where
  pub clause : Clause
  pub declared : slice_get s.clauses broken.clause ≡ Some clause
  pub name_is : name ≡ clause.name
  pub names_are : names ≡ element_names elements (sorts_of_vars clause.vars) broken.values

-- the first bound that a group exceeds, and its name
pub record IsNamedOver (s : Specification) (state : List Fact) (n : ℕ) (name : Name) : Type 0 where
  pub first : IsFirstOver s.bounds state n
  pub name_is : name ≡ first.bound.name

abbrev pub greatest_instance_count : ℕ
greatest_instance_count = 16777216

-- the limit of instances comes first, then the clauses, then the bounds
abbrev pub IsRefusedAtEnd : Specification → List (List Name) → List Fact → DocKind → Type 0
IsRefusedAtEnd s elements state (SetupLimit which found) =
    (which ≡ 18) × (found ≡ instance_count s (size_list elements))
    × (greatest_instance_count < instance_count s (size_list elements))
IsRefusedAtEnd s elements state (BaseClause broken name names) =
    (instance_count s (size_list elements) ≤ greatest_instance_count)
    × IsFirstBroken s (size_list elements) (has state) broken.clause broken.values
    × IsNamed s elements broken name names
IsRefusedAtEnd s elements state (BaseOver n name) =
    (instance_count s (size_list elements) ≤ greatest_instance_count) × Keeps s (size_list elements) (has state)
    × IsNamedOver s state n name
IsRefusedAtEnd s elements state _ = ⊥

pub record IsKept (s : Specification) (sizes : Universe) (state : List Fact) : Type 0 where
  pub instances : instance_count s sizes ≤ greatest_instance_count
  pub clauses : Keeps s sizes (has state)
  pub bounds : Within s.bounds state
