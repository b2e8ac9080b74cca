-- What candidates leave as it was.
--
--   other_set           what stands in another place than the one that is written to
--   frame-applied       candidates change effects and rules alone
--   untouched-same      an action to which they add no effect does the same
--   judged-from         a clause whose literals pass the test is judged the same
--   known_after         whether two such actions conflict on such a clause is known from before
use Rattle.std.proofs.Common.{◌≡◌, ◌↔◌, ℕ, Bool, true, false, not, ◌&&◌, ◌==◌, MatchBool, get_or, List, [], ◌∷◌, ◌++◌, length, set, zero, suc, Option, Some, None, refl, sym, ap, ◌∙◌, subst}
use Rattle.std.specs.List.{list_all, slice_get}
use Rattle.std.specs.Option.{option_map, option_map_or}
use Rattle.std.proofs.lemmas.Bool.{false≢true, and_parts, eqb-true, eq-eqb}
use Rattle.std.proofs.lemmas.Option.{same_Some}
use Rattle.std.proofs.lemmas.List.{length-set}
use Rattle.ipa_spec.specs.Actions.{IsAction, sorts_of_vars}
use Rattle.ipa_spec.specs.declared.specification.Specification.{Specification}
use Rattle.ipa_spec.specs.declared.predicates.Predicate.{Predicate}
use Rattle.ipa_spec.specs.declared.clauses.Clause.{Clause}
use Rattle.ipa_spec.specs.declared.clauses.Literal.{Literal}
use Rattle.ipa_spec.specs.declared.operations.Effect.{Effect}
use Rattle.ipa_spec.specs.declared.operations.Operation.{Operation}
use Rattle.ipa_spec.specs.declared.operations.Action.{Action}
use Rattle.ipa_spec.specs.declared.operations.Action.TheVariants.{Op, Drop}
use Rattle.ipa_logic.specs.Touches.{wins}
use Rattle.ipa_logic.specs.Conflicts.{can_be_falsified, Conflict}
use Rattle.ipa_repair.specs.Applying.{applied, applied_one, with_effect, with_flip, flipped}
use Rattle.ipa_repair.specs.Candidates.{same_kind}
use Rattle.ipa_repair.specs.Unchanged.{shape_of, shape_at, HasSameFrame, DoesSame, IsJudgedSame, IsClauseJudgedSame, IsAlike, same_judgement, leaves_alone, is_untouched}
use Rattle.ipa_repair.specs.Showing.{AreJudged}
use Rattle.ipa_repair.specs.declared.candidates.Candidate.{Candidate}
use Rattle.ipa_repair.specs.declared.candidates.Candidate.TheVariants.{Adds, Flips}
use Rattle.ipa_repair.proofs.LocalLemmas.{drop-does_same}

-- what stands in another place than the one that is written to
other_set : {X : Type 0} (xs : List X) (n k : ℕ) (x : X) → (n ≡ k → ⊥) → slice_get (set xs n x) k ≡ slice_get xs k
other_set [] n k x other = refl
other_set (y ∷ xs) zero zero x other = absurd (other refl)
other_set (y ∷ xs) zero (suc k) x other = refl
other_set (y ∷ xs) (suc n) zero x other = refl
other_set (y ∷ xs) (suc n) (suc k) x other = other_set xs n k x (λ e. other (ap suc e))

-- a predicate in place of one of the same shape
shape-set : (ps : List Predicate) (n k : ℕ) (p q : Predicate) → slice_get ps n ≡ Some p → shape_of q ≡ shape_of p → shape_at (set ps n q) k ≡ shape_at ps k
shape-set [] n k p q e same = refl
shape-set (x ∷ ps) zero zero p q e same = ap Some (same ∙ ap shape_of (sym (same_Some x p e)))
shape-set (x ∷ ps) zero (suc k) p q e same = refl
shape-set (x ∷ ps) (suc n) zero p q e same = refl
shape-set (x ∷ ps) (suc n) (suc k) p q e same = shape-set ps n k p q e same

shape-flip : (ps : List Predicate) (n k : ℕ) → shape_at (with_flip ps n) k ≡ shape_at ps k
shape-flip ps n k = at (slice_get ps n) refl
  where
    at : (found : Option Predicate) → slice_get ps n ≡ found →
        shape_at (option_map_or (λ p. set ps n (record p { rule = flipped p.rule })) found ps) k ≡ shape_at ps k
    at None is = refl
    at (Some p) is = shape-set ps n k p (record p { rule = flipped p.rule }) is refl

count-effect : (os : List Operation) (n : ℕ) (e : Effect) → length (with_effect os n e) ≡ length os
count-effect os n e = at (slice_get os n)
  where
    at : (found : Option Operation) →
        length (option_map_or (λ o. set os n (record o { effects = o.effects ++ e ∷ [] })) found os) ≡ length os
    at None = refl
    at (Some o) = length-set os n (record o { effects = o.effects ++ e ∷ [] })

frame-one : (s : Specification) (c : Candidate) → HasSameFrame s (applied_one s c)
frame-one s (Adds n e) = record {
  sorts = refl;
  constants = refl;
  clauses = refl;
  bounds = refl;
  operation_count = count-effect s.operations n e;
  shapes = λ k. refl;
}
frame-one s (Flips n) = record {
  sorts = refl;
  constants = refl;
  clauses = refl;
  bounds = refl;
  operation_count = refl;
  shapes = shape-flip s.predicates n;
}

-- candidates change effects and rules alone
pub frame-applied : (s : Specification) (parts : List Candidate) → HasSameFrame s (applied s parts)
frame-applied s [] = record { sorts = refl; constants = refl; clauses = refl; bounds = refl; operation_count = refl; shapes = λ k. refl }
frame-applied s (c ∷ parts) =
    let one = frame-one s c in
    let rest = frame-applied (applied_one s c) parts in
    record {
      sorts = rest.sorts ∙ one.sorts;
      constants = rest.constants ∙ one.constants;
      clauses = rest.clauses ∙ one.clauses;
      bounds = rest.bounds ∙ one.bounds;
      operation_count = rest.operation_count ∙ one.operation_count;
      shapes = λ k. rest.shapes k ∙ one.shapes k;
    }

other_effect : (os : List Operation) (m n : ℕ) (e : Effect) → (m ≡ n → ⊥) → slice_get (with_effect os m e) n ≡ slice_get os n
other_effect os m n e other = at (slice_get os m)
  where
    at : (found : Option Operation) →
        slice_get (option_map_or (λ o. set os m (record o { effects = o.effects ++ e ∷ [] })) found os) n ≡ slice_get os n
    at None = refl
    at (Some o) = other_set os m n (record o { effects = o.effects ++ e ∷ [] }) other

not_same : (m n : ℕ) → not (m == n) ≡ true → m ≡ n → ⊥
not_same m n h e = false≢true (sym (ap not (eq-eqb m n e)) ∙ h)

operation-one : (s : Specification) (c : Candidate) (n : ℕ) → leaves_alone n c ≡ true → slice_get (applied_one s c).operations n ≡ slice_get s.operations n
operation-one s (Adds m e) n h = other_effect s.operations m n e (not_same m n h)
operation-one s (Flips m) n h = refl

operation-same : (s : Specification) (parts : List Candidate) (n : ℕ) → list_all (leaves_alone n) parts ≡ true →
    slice_get (applied s parts).operations n ≡ slice_get s.operations n
operation-same s [] n h = refl
operation-same s (c ∷ parts) n h =
    let both = and_parts (leaves_alone n c) (list_all (leaves_alone n) parts) h in
    operation-same (applied_one s c) parts n both.1 ∙ operation-one s c n both.0

-- an action to which the candidates add no effect does the same
pub untouched-same : (s next : Specification) (parts : List Candidate) (action : Action) → next ≡ applied s parts → is_untouched parts action ≡ true → DoesSame s next action
untouched-same s next parts (Op n) is h =
    let same : slice_get next.operations n ≡ slice_get s.operations n =
    ap (λ (x : Specification). slice_get x.operations n) is ∙ operation-same s parts n h in
    record {
      sorts = ap (λ (o : Option Operation). option_map_or (λ x. sorts_of_vars x.params) o []) same;
      needs = ap (λ (o : Option Operation). option_map_or (λ x. x.needs) o []) same;
      effects = ap (λ (o : Option Operation). option_map_or (λ x. x.effects) o []) same;
    }
untouched-same s next parts (Drop n) is h = drop-does_same s next n (subst (HasSameFrame s) (sym is) (frame-applied s parts))

same_kind-true : (a b : Bool) → same_kind a b ≡ true → a ≡ b
same_kind-true true true h = refl
same_kind-true true false h = sym h
same_kind-true false true h = h
same_kind-true false false h = refl

all-at : (p : Literal → Bool) (ls : List Literal) → list_all p ls ≡ true → (k : ℕ) (l : Literal) → slice_get ls k ≡ Some l → p l ≡ true
all-at p [] h k l e = cc
all-at p (x ∷ ls) h zero l e = subst (λ y. p y ≡ true) (same_Some x l e) (and_parts (p x) (list_all p ls) h).0
all-at p (x ∷ ls) h (suc k) l e = all-at p ls (and_parts (p x) (list_all p ls) h).1 k l e

-- a clause whose literals pass the test is judged the same
pub judged-from : (s next : Specification) (c : Clause) → list_all (same_judgement s next) c.literals ≡ true → IsClauseJudgedSame s next c
judged-from s next c h = record {
  each = λ k l e.
      let both = and_parts (same_kind (wins next l) (wins s l)) (same_kind (can_be_falsified next l) (can_be_falsified s l))
      (all-at (same_judgement s next) c.literals h k l e) in
      record {
        wins_same = same_kind-true (wins next l) (wins s l) both.0;
        falsified_same = same_kind-true (can_be_falsified next l) (can_be_falsified s l) both.1;
      };
}

-- whether two actions conflict on a clause that is judged the same, and neither of which is touched, is known from before
pub known_after : (s next : Specification) (parts : List Candidate) (left right : Action) (k : ℕ) (told : List Bool) (b : Bool) → next ≡ applied s parts →
    ((left right : Action) (k : ℕ) → IsAlike s next left right k → (Conflict s left right k ↔ Conflict next left right k)) →
    is_untouched parts left ≡ true → is_untouched parts right ≡ true → AreJudged s next told → get_or told k false ≡ true →
    MatchBool b (Conflict s left right k) (Conflict s left right k → ⊥) → MatchBool b (Conflict next left right k) (Conflict next left right k → ⊥)
known_after s next parts left right k told b is law l r judged here h = carried b h
  where
    alike : IsAlike s next left right k
    alike = record {
      frame = subst (HasSameFrame s) (sym is) (frame-applied s parts);
      left_same = untouched-same s next parts left is l;
      right_same = untouched-same s next parts right is r;
      clause = λ c e. judged-from s next c (sym (judged.each k c e) ∙ here);
    }

    both : Conflict s left right k ↔ Conflict next left right k
    both = law left right k alike

    carried : (b : Bool) → MatchBool b (Conflict s left right k) (Conflict s left right k → ⊥) → MatchBool b (Conflict next left right k) (Conflict next left right k → ⊥)
    carried true h = both.0 h
    carried false h = λ c. h (both.1 c)
