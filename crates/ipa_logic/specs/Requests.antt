-- What a session may ask of a replica.
--
--   IsPlace universe p places k   a place of a pattern of facts: an element of its sort or every element, and nothing past the arity
--   IsShow                        a predicate with wanted elements in its places
--   IsRequest s universe r        the request names a declared operation with arguments over the universe, or a declared
--                                 predicate with wanted elements
use Rattle.std.specs.Prelude.{◌≡◌, ℕ, ◌<◌, ◌≤◌, List, slice_get, slice_index, slice_index_or, Option, Some, None}
use Rattle.ipa_spec.specs.Actions.{IsAction}
use Rattle.ipa_spec.specs.declared.specification.Specification.{Specification}
use Rattle.ipa_spec.specs.declared.predicates.Predicate.{Predicate}
use Rattle.ipa_spec.specs.declared.operations.Action.TheVariants.{Op}
use Rattle.ipa_logic.specs.Facts.{Universe, size_of}
use Rattle.ipa_logic.specs.Truth.{IsArguments}
use Rattle.ipa_logic.specs.declared.facts.Request.{Request}
use Rattle.ipa_logic.specs.declared.facts.Request.TheVariants.{Do, Show}

-- a predicate is declared, an element that is wanted in a place is one of the place's sort, and nothing is wanted past the arity
pub record IsShow (s : Specification) (universe : Universe) (n : ℕ) (places : List (Option ℕ)) : Type 0 where
  pub predicate : Predicate
  pub declared : slice_get s.predicates n ≡ Some predicate
  pub elements : (k x : ℕ) → k < predicate.arity → slice_index_or places k None ≡ Some x →
      x < size_of universe (slice_index predicate.sorts k)
  pub unused : (k : ℕ) → predicate.arity ≤ k → slice_index_or places k None ≡ None

-- a declared operation with arguments over the universe
pub record IsDo (s : Specification) (universe : Universe) (op : ℕ) (args : List ℕ) : Type 0 where
  pub declared : IsAction s (Op op)
  pub arguments : IsArguments s universe (Op op) args

-- the request fits the specification and the universe
abbrev pub IsRequest : Specification → Universe → Request → Type 0
IsRequest s universe (Do op args) = IsDo s universe op args
IsRequest s universe (Show n places) = IsShow s universe n places
