-- The loops that collect examples: their starts, their steps and their ends.
--
--   pair_start, pair_step, pair_end      over the clauses of a pair
--   left_start, left_step, left_end      over the right actions
--   all_start, all_step, all_end         over the left actions
--   bound_start, bound_step, bound_end   over the clauses of a bound
--   drops_start, drops_step, drops_end   over the bounds
use Rattle.std.proofs.Common.{◌≡◌, ℕ, ◌+◌, List, length, subst, arith}
use Rattle.ipa_spec.specs.Actions.{IsAction}
use Rattle.ipa_spec.specs.declared.specification.Specification.{Specification}
use Rattle.ipa_spec.specs.declared.operations.Action.{Action}
use Rattle.ipa_pairs.specs.Width.{Triple, IsDeclared, IsOfPair, action_place, triple_key}
use Rattle.ipa_pairs.specs.Triples.{triple, IsOfLeft}
use Rattle.ipa_pairs.specs.Examples.{IsReportedExample, IsReportedDrop}
use Rattle.ipa_pairs.specs.Analyses.{triple_of}
use Rattle.ipa_pairs.specs.Analyses.{IsInConflict}
use Rattle.ipa_pairs.specs.Collecting.{ExtendsConflicts, ExtendsDrops, IsUnsafe, BoundClause, bound_clause, bound_clause_of, bound_clause_key, IsDeclaredDrop, IsOfBound}
use Rattle.ipa_pairs.specs.declared.analysis.Conflict.{Conflict as Example}
use Rattle.ipa_pairs.specs.declared.analysis.UnsafeDrop.{UnsafeDrop}
use Rattle.ipa_pairs.proofs.OrderLemmas.{IsSplit, IsOfPairBelow, IsOfLeftBelow, IsBelow, IsOfBoundBelow, IsDropBelow, split_pair, split_left, split_all, split_bound, split_drops, pair_below, below_pair, left_below, below_left, all_below, below_all, bound_below, below_bound, drops_below, below_drops}
use Rattle.ipa_pairs.proofs.CollectLemmas.{extends-nothing, extends-both, extends-same}

module _ (s : Specification) where
  -- of triples
  none : (Q : Triple → Type 0) (xs : List Example) → ((t : Triple) → Q t → ⊥) → ExtendsConflicts s Q xs xs
  none Q xs h = extends-nothing triple_of (triple_key s) (IsReportedExample s) (IsInConflict s) Q xs (λ t q _. h t q)

  both : (Q P R : Triple → Type 0) (xs ys zs : List Example) → IsSplit (triple_key s) Q P R → ExtendsConflicts s Q xs ys → ExtendsConflicts s P ys zs → ExtendsConflicts s R xs zs
  both Q P R xs ys zs split a b = extends-both triple_of (triple_key s) (IsReportedExample s) (IsInConflict s) Q P R xs ys zs split a b

  same : (Q R : Triple → Type 0) (xs ys : List Example) → ((t : Triple) → Q t → R t) → ((t : Triple) → R t → Q t) → ExtendsConflicts s Q xs ys → ExtendsConflicts s R xs ys
  same Q R xs ys to back h = extends-same triple_of (triple_key s) (IsReportedExample s) (IsInConflict s) Q R xs ys to back h

  -- of the clauses of a pair
  pub pair_start : (left right : Action) (xs : List Example) → ExtendsConflicts s (IsOfPairBelow left right 0) xs xs
  pair_start left right xs = none (IsOfPairBelow left right 0) xs (λ t q. absurd (omega (arith, q.below)))

  pub pair_step : (left right : Action) (n : ℕ) (xs ys zs : List Example) → ExtendsConflicts s (IsOfPairBelow left right n) xs ys
      → ExtendsConflicts s (λ t. t ≡ triple left right n) ys zs → ExtendsConflicts s (IsOfPairBelow left right (n + 1)) xs zs
  pair_step left right n xs ys zs a b =
      both (IsOfPairBelow left right n) (λ t. t ≡ triple left right n) (IsOfPairBelow left right (n + 1)) xs ys zs (split_pair s left right n) a b

  pub pair_end : (left right : Action) (n : ℕ) (xs ys : List Example) → n ≡ length s.clauses → ExtendsConflicts s (IsOfPairBelow left right n) xs ys
      → ExtendsConflicts s (IsOfPair s left right) xs ys
  pair_end left right n xs ys e h =
      same (IsOfPairBelow left right (length s.clauses)) (IsOfPair s left right) xs ys (below_pair s left right) (pair_below s left right)
      (subst (λ (k : ℕ). ExtendsConflicts s (IsOfPairBelow left right k) xs ys) e h)

  -- of the right actions
  pub left_start : (left : Action) (xs : List Example) → ExtendsConflicts s (IsOfLeftBelow s left 0) xs xs
  left_start left xs = none (IsOfLeftBelow s left 0) xs (λ t q. absurd (omega (arith, q.below)))

  pub left_step : (left right : Action) (n : ℕ) (xs ys zs : List Example) → IsAction s right → action_place s right ≡ n → ExtendsConflicts s (IsOfLeftBelow s left n) xs ys
      → ExtendsConflicts s (IsOfPair s left right) ys zs → ExtendsConflicts s (IsOfLeftBelow s left (n + 1)) xs zs
  left_step left right n xs ys zs declared e a b =
      both (IsOfLeftBelow s left n) (IsOfPair s left right) (IsOfLeftBelow s left (n + 1)) xs ys zs (split_left s left right n declared e) a b

  pub left_end : (left : Action) (n : ℕ) (xs ys : List Example) → n ≡ length s.operations + length s.bounds → ExtendsConflicts s (IsOfLeftBelow s left n) xs ys
      → ExtendsConflicts s (IsOfLeft s left) xs ys
  left_end left n xs ys e h =
      same (IsOfLeftBelow s left (length s.operations + length s.bounds)) (IsOfLeft s left) xs ys (below_left s left (length s.operations + length s.bounds)) (left_below s left)
      (subst (λ (k : ℕ). ExtendsConflicts s (IsOfLeftBelow s left k) xs ys) e h)

  -- of the left actions
  pub all_start : (xs : List Example) → ExtendsConflicts s (IsBelow s 0) xs xs
  all_start xs = none (IsBelow s 0) xs (λ t q. absurd (omega (arith, q.below)))

  pub all_step : (left : Action) (n : ℕ) (xs ys zs : List Example) → IsAction s left → action_place s left ≡ n → ExtendsConflicts s (IsBelow s n) xs ys
      → ExtendsConflicts s (IsOfLeft s left) ys zs → ExtendsConflicts s (IsBelow s (n + 1)) xs zs
  all_step left n xs ys zs declared e a b =
      both (IsBelow s n) (IsOfLeft s left) (IsBelow s (n + 1)) xs ys zs (split_all s left n declared e) a b

  pub all_end : (n : ℕ) (xs ys : List Example) → n ≡ length s.operations + length s.bounds → ExtendsConflicts s (IsBelow s n) xs ys → ExtendsConflicts s (IsDeclared s) xs ys
  all_end n xs ys e h =
      same (IsBelow s (length s.operations + length s.bounds)) (IsDeclared s) xs ys (below_all s (length s.operations + length s.bounds)) (all_below s)
      (subst (λ (k : ℕ). ExtendsConflicts s (IsBelow s k) xs ys) e h)

  -- of drops
  none_dropped : (Q : BoundClause → Type 0) (xs : List UnsafeDrop) → ((t : BoundClause) → Q t → ⊥) → ExtendsDrops s Q xs xs
  none_dropped Q xs h = extends-nothing bound_clause_of bound_clause_key (IsReportedDrop s) (IsUnsafe s) Q xs (λ t q _. h t q)

  both_dropped : (Q P R : BoundClause → Type 0) (xs ys zs : List UnsafeDrop) → IsSplit bound_clause_key Q P R → ExtendsDrops s Q xs ys → ExtendsDrops s P ys zs → ExtendsDrops s R xs zs
  both_dropped Q P R xs ys zs split a b = extends-both bound_clause_of bound_clause_key (IsReportedDrop s) (IsUnsafe s) Q P R xs ys zs split a b

  same_dropped : (Q R : BoundClause → Type 0) (xs ys : List UnsafeDrop) → ((t : BoundClause) → Q t → R t) → ((t : BoundClause) → R t → Q t) → ExtendsDrops s Q xs ys → ExtendsDrops s R xs ys
  same_dropped Q R xs ys to back h = extends-same bound_clause_of bound_clause_key (IsReportedDrop s) (IsUnsafe s) Q R xs ys to back h

  -- of the clauses of a bound
  pub bound_start : (bound : ℕ) (xs : List UnsafeDrop) → ExtendsDrops s (IsOfBoundBelow bound 0) xs xs
  bound_start bound xs = none_dropped (IsOfBoundBelow bound 0) xs (λ t q. absurd (omega (arith, q.below)))

  pub bound_step : (bound n : ℕ) (xs ys zs : List UnsafeDrop) → ExtendsDrops s (IsOfBoundBelow bound n) xs ys
      → ExtendsDrops s (λ t. t ≡ bound_clause bound n) ys zs → ExtendsDrops s (IsOfBoundBelow bound (n + 1)) xs zs
  bound_step bound n xs ys zs a b =
      both_dropped (IsOfBoundBelow bound n) (λ t. t ≡ bound_clause bound n) (IsOfBoundBelow bound (n + 1)) xs ys zs (split_bound s bound n) a b

  pub bound_end : (bound n : ℕ) (xs ys : List UnsafeDrop) → n ≡ length s.clauses → ExtendsDrops s (IsOfBoundBelow bound n) xs ys → ExtendsDrops s (IsOfBound s bound) xs ys
  bound_end bound n xs ys e h =
      same_dropped (IsOfBoundBelow bound (length s.clauses)) (IsOfBound s bound) xs ys (below_bound s bound) (bound_below s bound)
      (subst (λ (k : ℕ). ExtendsDrops s (IsOfBoundBelow bound k) xs ys) e h)

  -- of the bounds
  pub drops_start : (xs : List UnsafeDrop) → ExtendsDrops s (IsDropBelow s 0) xs xs
  drops_start xs = none_dropped (IsDropBelow s 0) xs (λ t q. absurd (omega (arith, q.below)))

  pub drops_step : (n : ℕ) (xs ys zs : List UnsafeDrop) → ExtendsDrops s (IsDropBelow s n) xs ys → ExtendsDrops s (IsOfBound s n) ys zs → ExtendsDrops s (IsDropBelow s (n + 1)) xs zs
  drops_step n xs ys zs a b =
      both_dropped (IsDropBelow s n) (IsOfBound s n) (IsDropBelow s (n + 1)) xs ys zs (split_drops s n) a b

  pub drops_end : (n : ℕ) (xs ys : List UnsafeDrop) → n ≡ length s.bounds → ExtendsDrops s (IsDropBelow s n) xs ys → ExtendsDrops s (IsDeclaredDrop s) xs ys
  drops_end n xs ys e h =
      same_dropped (IsDropBelow s (length s.bounds)) (IsDeclaredDrop s) xs ys (below_drops s) (drops_below s)
      (subst (λ (k : ℕ). ExtendsDrops s (IsDropBelow s k) xs ys) e h)
