-- The order of triples and of drops, and sets of them that stand one after the other.
--
--   IsSplit key First Rest Both   Both has just what First and Rest have, and First comes before Rest
--   IsOfPairBelow, IsOfLeftBelow, IsBelow   the triples of a loop that have been gone through
--   IsDropBelow, IsOfBoundBelow   the same of drops
use Rattle.std.proofs.Common.{◌≡◌, ℕ, ◌+◌, ◌<◌, List, [], ◌∷◌, length, refl, sym, ap, ◌∙◌, subst, arith, inl, inr, ◌⊎◌, true, Ordering}
use Rattle.std.specs.Ordering.{nat_cmp, is_lt}
use Rattle.std.specs.Cmp.{nat_cmp_total, tied_itself}
use Rattle.std.specs.Cmp.Lexicographic.{slice_cmp}
use Rattle.std.specs.declared.cmp.Ordering.TheVariants.{Less, Equal, Greater}
use Rattle.std.proofs.lemmas.Bool.{cases_lt}
use Rattle.std.proofs.lemmas.Cmp.{nat_list_cmp_total}
use Rattle.ipa_spec.specs.Actions.{IsAction}
use Rattle.ipa_spec.specs.declared.specification.Specification.{Specification}
use Rattle.ipa_spec.specs.declared.operations.Action.{Action}
use Rattle.ipa_spec.specs.declared.operations.Action.TheVariants.{Op, Drop}
use Rattle.ipa_ground.specs.BranchLaws.{less-from_lt}
use Rattle.ipa_pairs.specs.Width.{Triple, IsDeclared, IsOfPair, action_place, triple_key}
use Rattle.ipa_pairs.specs.Triples.{triple, IsOfLeft}
use Rattle.ipa_pairs.specs.Collecting.{BoundClause, bound_clause, bound_clause_key, IsDeclaredDrop, IsOfBound}

-- Both has just what First and Rest have, and what First has comes before what Rest has
pub record IsSplit {T : Type 0} (key : T → List ℕ) (First Rest Both : T → Type 0) : Type 0 where
  pub first : (t : T) → First t → Both t
  pub rest : (t : T) → Rest t → Both t
  pub either : (t : T) → Both t → First t ⊎ Rest t
  pub before : (t u : T) → First t → Rest u → slice_cmp nat_cmp (key t) (key u) ≡ Less

-- of two lists only one comes before the other
pub not_both : (xs ys : List ℕ) → slice_cmp nat_cmp xs ys ≡ Less → slice_cmp nat_cmp ys xs ≡ Less → ⊥
not_both xs ys h k =
    let back = nat_list_cmp_total.antisymm xs ys in
    cc

-- is_lt says Less
pub is_less : (o : Ordering) → is_lt o ≡ true → o ≡ Less
is_less Less h = refl
is_less Equal h = cc
is_less Greater h = cc

-- a lesser number at the head
pub less_at_head : (x y : ℕ) (xs ys : List ℕ) → x < y → slice_cmp nat_cmp (x ∷ xs) (y ∷ ys) ≡ Less
less_at_head x y xs ys l = rw (less-from_lt x y l) refl

-- the same number at the head, and then less
pub less_in_tail : (x y : ℕ) (xs ys : List ℕ) → x ≡ y → slice_cmp nat_cmp xs ys ≡ Less → slice_cmp nat_cmp (x ∷ xs) (y ∷ ys) ≡ Less
less_in_tail x y xs ys e h =
    subst (λ z. slice_cmp nat_cmp (x ∷ xs) (z ∷ ys) ≡ Less) e (rw (tied_itself nat_cmp_total x) h)

-- an action is known by its place
pub same_action : (s : Specification) (a b : Action) → IsAction s a → IsAction s b → action_place s a ≡ action_place s b → a ≡ b
same_action s (Op n) (Op m) p q e = ap (λ k. Op k) e
same_action s (Op n) (Drop m) p q e = absurd (omega arith)
same_action s (Drop n) (Op m) p q e = absurd (omega arith)
same_action s (Drop n) (Drop m) p q e = let same : n ≡ m = omega arith in ap (λ k. Drop k) same

-- the place of an action is below their number
pub place_below : (s : Specification) (a : Action) → IsAction s a → action_place s a < length s.operations + length s.bounds
place_below s (Op n) p = omega arith
place_below s (Drop n) p = omega arith

-- of an ordered pair, with a clause below a number
pub record IsOfPairBelow (left right : Action) (n : ℕ) (t : Triple) : Type 0 where
  pub left_is : t.left ≡ left
  pub right_is : t.right ≡ right
  pub below : t.clause < n

-- of a left action, with a right one before a place
pub record IsOfLeftBelow (s : Specification) (left : Action) (n : ℕ) (t : Triple) : Type 0 where
  pub left_is : t.left ≡ left
  pub right_declared : IsAction s t.right
  pub below : action_place s t.right < n
  pub clause_declared : t.clause < length s.clauses

-- with a left action before a place
pub record IsBelow (s : Specification) (n : ℕ) (t : Triple) : Type 0 where
  pub left_declared : IsAction s t.left
  pub below : action_place s t.left < n
  pub right_declared : IsAction s t.right
  pub clause_declared : t.clause < length s.clauses

-- of a bound, with a clause below a number
pub record IsOfBoundBelow (bound n : ℕ) (t : BoundClause) : Type 0 where
  pub bound_is : t.bound ≡ bound
  pub below : t.clause < n

-- with a bound below a number
pub record IsDropBelow (s : Specification) (n : ℕ) (t : BoundClause) : Type 0 where
  pub below : t.bound < n
  pub clause_declared : t.clause < length s.clauses

module _ (s : Specification) where
  left_same : (t u : Triple) (left : Action) → t.left ≡ left → u.left ≡ left → action_place s t.left ≡ action_place s u.left
  left_same t u left p q = ap (action_place s) (p ∙ sym q)

  -- t comes before u by the left action, by the right one, or by the clause
  pub before_by_left : (t u : Triple) → action_place s t.left < action_place s u.left → slice_cmp nat_cmp (triple_key s t) (triple_key s u) ≡ Less
  before_by_left t u l = less_at_head (action_place s t.left) (action_place s u.left) (action_place s t.right ∷ t.clause ∷ []) (action_place s u.right ∷ u.clause ∷ []) l

  pub before_by_right : (t u : Triple) (left : Action) → t.left ≡ left → u.left ≡ left → action_place s t.right < action_place s u.right
      → slice_cmp nat_cmp (triple_key s t) (triple_key s u) ≡ Less
  before_by_right t u left p q l =
      less_in_tail (action_place s t.left) (action_place s u.left) (action_place s t.right ∷ t.clause ∷ []) (action_place s u.right ∷ u.clause ∷ []) (left_same t u left p q)
      (less_at_head (action_place s t.right) (action_place s u.right) (t.clause ∷ []) (u.clause ∷ []) l)

  pub before_by_clause : (t u : Triple) (left right : Action) → t.left ≡ left → u.left ≡ left → t.right ≡ right → u.right ≡ right → t.clause < u.clause
      → slice_cmp nat_cmp (triple_key s t) (triple_key s u) ≡ Less
  before_by_clause t u left right p q p' q' l =
      less_in_tail (action_place s t.left) (action_place s u.left) (action_place s t.right ∷ t.clause ∷ []) (action_place s u.right ∷ u.clause ∷ []) (left_same t u left p q)
      (less_in_tail (action_place s t.right) (action_place s u.right) (t.clause ∷ []) (u.clause ∷ []) (ap (action_place s) (p' ∙ sym q'))
      (less_at_head t.clause u.clause [] [] l))

  pub triple_is : (t : Triple) (left right : Action) (n : ℕ) → t.left ≡ left → t.right ≡ right → t.clause ≡ n → t ≡ triple left right n
  triple_is t left right n p q r =
      ap (λ (l : Action). triple l t.right t.clause) p ∙ (ap (λ (a : Action). triple left a t.clause) q ∙ ap (λ (k : ℕ). triple left right k) r)

  -- the parts of a triple that is known
  pub left_of : (t : Triple) (left right : Action) (n : ℕ) → t ≡ triple left right n → t.left ≡ left
  left_of t left right n e = ap (λ (t : Triple). t.left) e

  pub right_of : (t : Triple) (left right : Action) (n : ℕ) → t ≡ triple left right n → t.right ≡ right
  right_of t left right n e = ap (λ (t : Triple). t.right) e

  pub clause_of : (t : Triple) (left right : Action) (n : ℕ) → t ≡ triple left right n → t.clause ≡ n
  clause_of t left right n e = ap (λ (t : Triple). t.clause) e

  -- one clause more of a pair
  pub split_pair : (left right : Action) (n : ℕ) → IsSplit (triple_key s) (IsOfPairBelow left right n) (λ t. t ≡ triple left right n) (IsOfPairBelow left right (n + 1))
  split_pair left right n = record {
    first = λ t h. record { left_is = h.left_is; right_is = h.right_is; below = omega (arith, h.below) };
    rest = λ t e. record { left_is = left_of t left right n e; right_is = right_of t left right n e; below = omega (arith, clause_of t left right n e) };
    either = λ t h. elim (cases_lt t.clause n) [
      | inl l ↦ inl (record { left_is = h.left_is; right_is = h.right_is; below = l })
      | inr g ↦ inr (triple_is t left right n h.left_is h.right_is (omega (arith, h.below)))
    ];
    before = λ t u h e. before_by_clause t u left right h.left_is (left_of u left right n e) h.right_is (right_of u left right n e)
        (omega (arith, h.below, clause_of u left right n e));
  }

  -- one action more on the right
  pub split_left : (left right : Action) (n : ℕ) → IsAction s right → action_place s right ≡ n
      → IsSplit (triple_key s) (IsOfLeftBelow s left n) (IsOfPair s left right) (IsOfLeftBelow s left (n + 1))
  split_left left right n declared e = record {
    first = λ t h. record { left_is = h.left_is; right_declared = h.right_declared; below = omega (arith, h.below); clause_declared = h.clause_declared };
    rest = λ t h. record {
      left_is = h.left_is;
      right_declared = subst (IsAction s) (sym h.right_is) declared;
      below = omega (arith, ap (action_place s) h.right_is, e);
      clause_declared = h.clause_declared;
    };
    either = λ t h. elim (cases_lt (action_place s t.right) n) [
      | inl l ↦ inl (record { left_is = h.left_is; right_declared = h.right_declared; below = l; clause_declared = h.clause_declared })
      | inr g ↦ inr (record {
        left_is = h.left_is;
        right_is = same_action s t.right right h.right_declared declared (omega (arith, h.below, g, e));
        clause_declared = h.clause_declared;
      })
    ];
    before = λ t u h k. before_by_right t u left h.left_is k.left_is (omega (arith, h.below, ap (action_place s) k.right_is, e));
  }

  -- one action more on the left
  pub split_all : (left : Action) (n : ℕ) → IsAction s left → action_place s left ≡ n
      → IsSplit (triple_key s) (IsBelow s n) (IsOfLeft s left) (IsBelow s (n + 1))
  split_all left n declared e = record {
    first = λ t h. record { left_declared = h.left_declared; below = omega (arith, h.below); right_declared = h.right_declared; clause_declared = h.clause_declared };
    rest = λ t h. record {
      left_declared = subst (IsAction s) (sym h.left_is) declared;
      below = omega (arith, ap (action_place s) h.left_is, e);
      right_declared = h.right_declared;
      clause_declared = h.clause_declared;
    };
    either = λ t h. elim (cases_lt (action_place s t.left) n) [
      | inl l ↦ inl (record { left_declared = h.left_declared; below = l; right_declared = h.right_declared; clause_declared = h.clause_declared })
      | inr g ↦ inr (record {
        left_is = same_action s t.left left h.left_declared declared (omega (arith, h.below, g, e));
        right_declared = h.right_declared;
        clause_declared = h.clause_declared;
      })
    ];
    before = λ t u h k. before_by_left t u (omega (arith, h.below, ap (action_place s) k.left_is, e));
  }

  pub bound_clause_is : (t : BoundClause) (bound n : ℕ) → t.bound ≡ bound → t.clause ≡ n → t ≡ bound_clause bound n
  bound_clause_is t bound n p q = ap (λ (b : ℕ). bound_clause b t.clause) p ∙ ap (λ (k : ℕ). bound_clause bound k) q

  bound_of : (t : BoundClause) (bound n : ℕ) → t ≡ bound_clause bound n → t.bound ≡ bound
  bound_of t bound n e = ap (λ (t : BoundClause). t.bound) e

  clause_of_bound : (t : BoundClause) (bound n : ℕ) → t ≡ bound_clause bound n → t.clause ≡ n
  clause_of_bound t bound n e = ap (λ (t : BoundClause). t.clause) e

  -- one clause more of a bound
  pub split_bound : (bound n : ℕ) → IsSplit bound_clause_key (IsOfBoundBelow bound n) (λ t. t ≡ bound_clause bound n) (IsOfBoundBelow bound (n + 1))
  split_bound bound n = record {
    first = λ t h. record { bound_is = h.bound_is; below = omega (arith, h.below) };
    rest = λ t e. record { bound_is = bound_of t bound n e; below = omega (arith, clause_of_bound t bound n e) };
    either = λ t h. elim (cases_lt t.clause n) [
      | inl l ↦ inl (record { bound_is = h.bound_is; below = l })
      | inr g ↦ inr (bound_clause_is t bound n h.bound_is (omega (arith, h.below, g)))
    ];
    before = λ t u h e. less_in_tail t.bound u.bound (t.clause ∷ []) (u.clause ∷ []) (h.bound_is ∙ sym (bound_of u bound n e))
        (less_at_head t.clause u.clause [] [] (omega (arith, h.below, clause_of_bound u bound n e)));
  }

  -- one bound more
  pub split_drops : (n : ℕ) → IsSplit bound_clause_key (IsDropBelow s n) (IsOfBound s n) (IsDropBelow s (n + 1))
  split_drops n = record {
    first = λ t h. record { below = omega (arith, h.below); clause_declared = h.clause_declared };
    rest = λ t h. record { below = omega (arith, h.bound_is); clause_declared = h.clause_declared };
    either = λ t h. elim (cases_lt t.bound n) [
      | inl l ↦ inl (record { below = l; clause_declared = h.clause_declared })
      | inr g ↦ inr (record { bound_is = omega (arith, h.below, g); clause_declared = h.clause_declared })
    ];
    before = λ t u h k. less_at_head t.bound u.bound (t.clause ∷ []) (u.clause ∷ []) (omega (arith, h.below, k.bound_is));
  }

  -- the whole of a loop
  pub pair_below : (left right : Action) (t : Triple) → IsOfPair s left right t → IsOfPairBelow left right (length s.clauses) t
  pair_below left right t h = record { left_is = h.left_is; right_is = h.right_is; below = h.clause_declared }

  pub below_pair : (left right : Action) (t : Triple) → IsOfPairBelow left right (length s.clauses) t → IsOfPair s left right t
  below_pair left right t h = record { left_is = h.left_is; right_is = h.right_is; clause_declared = h.below }

  pub left_below : (left : Action) (t : Triple) → IsOfLeft s left t → IsOfLeftBelow s left (length s.operations + length s.bounds) t
  left_below left t h = record { left_is = h.left_is; right_declared = h.right_declared; below = place_below s t.right h.right_declared; clause_declared = h.clause_declared }

  pub below_left : (left : Action) (n : ℕ) (t : Triple) → IsOfLeftBelow s left n t → IsOfLeft s left t
  below_left left n t h = record { left_is = h.left_is; right_declared = h.right_declared; clause_declared = h.clause_declared }

  pub all_below : (t : Triple) → IsDeclared s t → IsBelow s (length s.operations + length s.bounds) t
  all_below t h = record { left_declared = h.left; below = place_below s t.left h.left; right_declared = h.right; clause_declared = h.clause }

  pub below_all : (n : ℕ) (t : Triple) → IsBelow s n t → IsDeclared s t
  below_all n t h = record { left = h.left_declared; right = h.right_declared; clause = h.clause_declared }

  pub bound_below : (n : ℕ) (t : BoundClause) → IsOfBound s n t → IsOfBoundBelow n (length s.clauses) t
  bound_below n t h = record { bound_is = h.bound_is; below = h.clause_declared }

  pub below_bound : (n : ℕ) (t : BoundClause) → IsOfBoundBelow n (length s.clauses) t → IsOfBound s n t
  below_bound n t h = record { bound_is = h.bound_is; clause_declared = h.below }

  pub drops_below : (t : BoundClause) → IsDeclaredDrop s t → IsDropBelow s (length s.bounds) t
  drops_below t h = record { below = h.bound_declared; clause_declared = h.clause_declared }

  pub below_drops : (t : BoundClause) → IsDropBelow s (length s.bounds) t → IsDeclaredDrop s t
  below_drops t h = record { bound_declared = h.below; clause_declared = h.clause_declared }
