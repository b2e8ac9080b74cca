-- How the examples are collected: some cases after the others, in order.
--
--   Extends .. InQuestion old new  the list has grown by such examples
--   ExtendsConflicts               the same of triples in conflict
--   IsOfPlace s place t            the triple's left action has this place among all
--   IsPart s place found           the examples of those triples
--   BoundClause                    a bound and the number of a clause
--   IsDeclaredDrop, IsOfBound      the specification declares both; the bound is this one
--   IsUnsafe, ExtendsDrops         the same of drops that can break a clause
use Rattle.std.specs.Prelude.{◌≡◌, ℕ, ◌<◌, List, [], ◌∷◌, ◌++◌, length}
use Rattle.ipa_spec.specs.declared.specification.Specification.{Specification}
use Rattle.ipa_logic.specs.Acceptance.{DropBreaks}
use Rattle.ipa_pairs.specs.Width.{Triple, IsDeclared, action_place, triple_key}
use Rattle.ipa_pairs.specs.Examples.{IsReportedExample, IsReportedDrop}
use Rattle.ipa_pairs.specs.Analyses.{triple_of, IsInConflict, Collects}
use Rattle.ipa_pairs.specs.declared.analysis.Conflict.{Conflict as Example}
use Rattle.ipa_pairs.specs.declared.analysis.UnsafeDrop.{UnsafeDrop}

-- the list has grown by the examples of the cases in question
pub record Extends {X T : Type 0} (of : X → T) (key : T → List ℕ) (IsExample : X → Type 0)
    (IsThere InQuestion : T → Type 0) (old new : List X) : Type 0 where
  pub found : List X
  pub grown : new ≡ old ++ found
  pub collects : Collects of key IsExample IsThere InQuestion found

-- the list has grown by the examples of the triples in question
abbrev pub ExtendsConflicts : Specification → (Triple → Type 0) → List Example → List Example → Type 0
ExtendsConflicts s InQuestion old new =
    Extends triple_of (triple_key s) (IsReportedExample s) (IsInConflict s) InQuestion old new

-- the triple's left action has this place among all
pub record IsOfPlace (s : Specification) (place : ℕ) (t : Triple) : Type 0 where
  pub declared : IsDeclared s t
  pub place_is : action_place s t.left ≡ place

-- the examples of the triples whose left action has this place
pub record IsPart (s : Specification) (place : ℕ) (found : List Example) : Type 0 where
  pub collects : Collects triple_of (triple_key s) (IsReportedExample s) (IsInConflict s) (IsOfPlace s place) found

-- a bound and the number of a clause
pub record BoundClause : Type 0 where
  pub bound : ℕ
  pub clause : ℕ

-- the case of these parts
abbrev pub bound_clause : ℕ → ℕ → BoundClause
bound_clause bound clause = record { bound = bound; clause = clause }

-- the case that the example is of
abbrev pub bound_clause_of : UnsafeDrop → BoundClause
bound_clause_of e = record { bound = e.bound; clause = e.clause }

-- cases are ordered by bound and clause
abbrev pub bound_clause_key : BoundClause → List ℕ
bound_clause_key t = t.bound ∷ t.clause ∷ []

-- the drop can break the clause
abbrev pub IsUnsafe : Specification → BoundClause → Type 0
IsUnsafe s t = DropBreaks s t.bound t.clause

-- the specification declares the bound and the clause
pub record IsDeclaredDrop (s : Specification) (t : BoundClause) : Type 0 where
  pub bound_declared : t.bound < length s.bounds
  pub clause_declared : t.clause < length s.clauses

-- the case is one of this bound
pub record IsOfBound (s : Specification) (n : ℕ) (t : BoundClause) : Type 0 where
  pub bound_is : t.bound ≡ n
  pub clause_declared : t.clause < length s.clauses

-- the list has grown by the examples of the drops in question
abbrev pub ExtendsDrops : Specification → (BoundClause → Type 0) → List UnsafeDrop → List UnsafeDrop → Type 0
ExtendsDrops s InQuestion old new =
    Extends bound_clause_of bound_clause_key (IsReportedDrop s) (IsUnsafe s) InQuestion old new
