-- What an analysis answers.
--
--   IsOneOf of xs t             one of the examples is of this case
--   Collects .. InQuestion xs   the examples are those of the cases in question that are there: one for each, in order
--                               of their keys
--   triple_of e                 the triple that an example is of
--   IsInConflict s t            the triple is in conflict
--   AreReported s InQuestion es   the examples are those of the triples in question that are in conflict: one for each,
--                               in order
--   AreReportedDrops s es       the examples are those of the drops that can break a clause: one for each, in order
--   IsAnalysis s a              all of them, of a specification without a triple that is too wide
--   IsPairAnalysis s left right es   the examples of one ordered pair
--   IsApart s left right        left and right conflict on no clause, and no live triple of them is too wide
--   IsClean a                   the analysis found nothing
--   IsPairFault, IsAcceptFault   why an analysis is refused, or a specification not accepted
use Rattle.std.specs.Prelude.{◌≡◌, ℕ, List, [], ◌∷◌}
use Rattle.std.specs.List.{All}
use Rattle.std.specs.List.Sorted.{IsStrictlySortedBy}
use Rattle.std.specs.Ordering.{nat_cmp}
use Rattle.std.specs.Cmp.Lexicographic.{slice_cmp}
use Rattle.std.specs.declared.cmp.Ordering.{Ordering}
use Rattle.ipa_spec.specs.declared.specification.Specification.{Specification}
use Rattle.ipa_spec.specs.declared.operations.Action.{Action}
use Rattle.ipa_logic.specs.Conflicts.{Conflict}
use Rattle.ipa_logic.specs.Acceptance.{DropBreaks, IsAccepted}
use Rattle.ipa_ground.specs.Enumeration.{IsListed}
use Rattle.ipa_pairs.specs.Width.{Triple, IsDeclared, IsOfPair, triple_key, IsFirstTooWide, IsNarrow}
use Rattle.ipa_pairs.specs.Examples.{IsReportedExample, IsReportedDrop}
use Rattle.ipa_pairs.specs.declared.analysis.Conflict.{Conflict as Example}
use Rattle.ipa_pairs.specs.declared.analysis.UnsafeDrop.{UnsafeDrop}
use Rattle.ipa_pairs.specs.declared.analysis.Analysis.{Analysis}
use Rattle.ipa_pairs.specs.declared.analysis.PairFault.{PairFault}
use Rattle.ipa_pairs.specs.declared.analysis.PairFault.TheVariants.{TooWide, NoMemory}
use Rattle.ipa_pairs.specs.declared.analysis.AcceptFault.{AcceptFault}
use Rattle.ipa_pairs.specs.declared.analysis.AcceptFault.TheVariants as refused

-- one of the examples is of this case
pub record IsOneOf {X T : Type 0} (of : X → T) (xs : List X) (t : T) : Type 0 where
  pub example : X
  pub listed : IsListed xs example
  pub is : of example ≡ t

-- the examples are those of the cases in question that are there: one for each, in order of their keys
pub record Collects {X T : Type 0} (of : X → T) (key : T → List ℕ) (IsExample : X → Type 0)
    (IsThere InQuestion : T → Type 0) (xs : List X) : Type 0 where
  pub each : All (λ x. IsExample x × InQuestion (of x)) xs
  pub rising : IsStrictlySortedBy (λ x y. slice_cmp nat_cmp (key (of x)) (key (of y))) xs
  pub complete : (t : T) → InQuestion t → IsThere t → IsOneOf of xs t

-- the triple that the example is of
abbrev pub triple_of : Example → Triple
triple_of e = record { left = e.left; right = e.right; clause = e.clause }

-- the triple is in conflict
abbrev pub IsInConflict : Specification → Triple → Type 0
IsInConflict s t = Conflict s t.left t.right t.clause

-- unsafe drops are ordered by bound and clause
abbrev pub drop_key : UnsafeDrop → List ℕ
drop_key e = e.bound ∷ e.clause ∷ []

abbrev pub drop_cmp : UnsafeDrop → UnsafeDrop → Ordering
drop_cmp d e = slice_cmp nat_cmp (drop_key d) (drop_key e)

-- the examples are those of the triples, of those in question, that are in conflict: one for each, ordered by left,
-- right and clause
abbrev pub AreReported : Specification → (Triple → Type 0) → List Example → Type 0
AreReported s InQuestion es = Collects triple_of (triple_key s) (IsReportedExample s) (IsInConflict s) InQuestion es

-- one of the examples is of this bound and clause
pub record IsDropReportedIn (es : List UnsafeDrop) (bound clause : ℕ) : Type 0 where
  pub example : UnsafeDrop
  pub listed : IsListed es example
  pub bound_is : example.bound ≡ bound
  pub clause_is : example.clause ≡ clause

-- the examples are those of the bounds and clauses whose drop can break the clause: one for each, ordered by bound and
-- clause
pub record AreReportedDrops (s : Specification) (es : List UnsafeDrop) : Type 0 where
  pub each : All (IsReportedDrop s) es
  pub rising : IsStrictlySortedBy drop_cmp es
  pub complete : (bound clause : ℕ) → DropBreaks s bound clause → IsDropReportedIn es bound clause

-- the analysis of a specification: no triple is too wide, and all that is in conflict or unsafe is reported
pub record IsAnalysis (s : Specification) (a : Analysis) : Type 0 where
  pub narrow : IsNarrow s (IsDeclared s)
  pub conflicts : AreReported s (IsDeclared s) a.conflicts
  pub unsafe_drops : AreReportedDrops s a.unsafe_drops

-- the analysis of an ordered pair
pub record IsPairAnalysis (s : Specification) (left right : Action) (es : List Example) : Type 0 where
  pub narrow : IsNarrow s (IsOfPair s left right)
  pub conflicts : AreReported s (IsOfPair s left right) es

-- left and right conflict on no clause, and no live triple of them is too wide
pub record IsApart (s : Specification) (left right : Action) : Type 0 where
  pub narrow : IsNarrow s (IsOfPair s left right)
  pub apart : (k : ℕ) → Conflict s left right k → ⊥

-- of the triples in question the first one that is too wide is named; want of memory is true of all
abbrev pub IsPairFault : Specification → (Triple → Type 0) → PairFault → Type 0
IsPairFault s InQuestion (TooWide left right clause count) =
    IsFirstTooWide s InQuestion (record { left = left; right = right; clause = clause }) count
IsPairFault s InQuestion NoMemory = Unit {0}

-- the analysis found nothing
pub record IsClean (a : Analysis) : Type 0 where
  pub conflicts : a.conflicts ≡ []
  pub unsafe_drops : a.unsafe_drops ≡ []

-- the specification is not accepted, and this is its analysis
pub record IsRejected (s : Specification) (a : Analysis) : Type 0 where
  pub analysis : IsAnalysis s a
  pub not_accepted : IsAccepted s → ⊥

-- why a specification is not taken as accepted; want of memory is true of all
abbrev pub IsAcceptFault : Specification → AcceptFault → Type 0
IsAcceptFault s (refused.Rejected a) = IsRejected s a
IsAcceptFault s (refused.TooWide left right clause count) =
    IsFirstTooWide s (IsDeclared s) (record { left = left; right = right; clause = clause }) count
IsAcceptFault s refused.NoMemory = Unit {0}
