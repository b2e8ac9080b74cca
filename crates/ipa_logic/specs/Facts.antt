-- Universes, facts and states.
--
--   Universe                   the number of elements of each sort: the elements are the numbers below it
--   size_of universe sort      the number of elements of a sort
--   fact_cmp f g               facts are ordered by predicate, and then by element from the first place
--   IsUniverse s universe      the sizes are a universe of the specification: each sort has at least its constants
--   IsFact s universe f        the fact's predicate is declared, and its elements are in the universe
--   has state f                the fact is among the true facts of the state
--   IsRising state             the facts stand in order, each once
--   IsState s universe state   a state: the true facts of the universe, in order
--   IsStateOf t state          the state of a test of facts: its true facts are those that pass
use Rattle.std.specs.Prelude.{◌≡◌, ℕ, ◌<◌, ◌≤◌, Bool, true, List, length, slice_get, slice_index, Some}
use Rattle.std.specs.List.{list_any}
use Rattle.std.specs.List.Sorted.{IsStrictlySortedBy}
use Rattle.std.specs.Ordering.{nat_cmp, ordering_then, is_eq}
use Rattle.std.specs.Cmp.Lexicographic.{slice_cmp}
use Rattle.std.specs.declared.cmp.Ordering.{Ordering}
use Rattle.ipa_spec.specs.Constants.{constant_count}
use Rattle.ipa_spec.specs.declared.specification.Specification.{Specification}
use Rattle.ipa_spec.specs.declared.predicates.Predicate.{Predicate}
use Rattle.ipa_logic.specs.declared.facts.Fact.{Fact}

-- the number of elements of each sort: the elements of a sort are the numbers below it
abbrev pub Universe : Type 0
Universe = List ℕ

-- the number of elements of a sort, 0 for a sort that the universe does not name
abbrev pub size_of : Universe → ℕ → ℕ
size_of universe sort = slice_index universe sort

-- facts are ordered by predicate, and then by element from the first place
abbrev pub fact_cmp : Fact → Fact → Ordering
fact_cmp f g = ordering_then (nat_cmp f.predicate g.predicate) (slice_cmp nat_cmp f.args g.args)

-- the sizes are a universe of the specification: each sort has at least its constants
pub record IsUniverse (s : Specification) (universe : Universe) : Type 0 where
  pub constants : (sort : ℕ) → constant_count s sort ≤ size_of universe sort

-- the fact's predicate is declared; of its three places each that the predicate has holds an element of the place's
-- sort, and the others hold 0
pub record IsFact (s : Specification) (universe : Universe) (f : Fact) : Type 0 where
  pub predicate : Predicate
  pub declared : slice_get s.predicates f.predicate ≡ Some predicate
  pub elements : (k : ℕ) → k < predicate.arity → slice_index f.args k < size_of universe (slice_index predicate.sorts k)
  pub unused : (k : ℕ) → predicate.arity ≤ k → slice_index f.args k ≡ 0
  pub width : length f.args ≡ 3

-- the fact is among the true facts
abbrev pub has : List Fact → Fact → Bool
has state f = list_any (λ g. is_eq (fact_cmp f g)) state

-- the facts stand in order, each once
abbrev pub IsRising : List Fact → Type 0
IsRising state = IsStrictlySortedBy fact_cmp state

-- a state: the true facts of the universe, in order
pub record IsState (s : Specification) (universe : Universe) (state : List Fact) : Type 0 where
  pub rising : IsRising state
  pub facts : (f : Fact) → has state f ≡ true → IsFact s universe f

-- the state of a test of facts: its true facts are those that pass
pub record IsStateOf (t : Fact → Bool) (state : List Fact) : Type 0 where
  pub rising : IsRising state
  pub facts : (f : Fact) → has state f ≡ t f
