-- Conflicts are local: what two actions do, and how a clause is judged, decides whether they conflict on it.
--
--   same-on             two tests that agree on each item of a list
--   Frame               the same constants, clauses and bounds; predicates of the same shapes
--   arity-same, fact-same, literal-same, instance-same   what facts, literals and instances are
--   fact-there, fact-back   which facts there are
--   adds-same, removes-same, makes_true-same, makes_false-same, touches-same   what an action does
--   stands-kept, keeps-kept, conflict-there   parts of a conflict, and a conflict
--   frame-is            a specification of the same frame
--   conflict-kept       two actions of an alike triple conflict
--   alike-back          it is alike the other way round
--   drop-does_same      a drop does the same
use Rattle.std.proofs.Common.{◌≡◌, ℕ, ◌<◌, ◌≤◌, Bool, true, false, not, ◌&&◌, ◌||◌, cond, ltb, List, [], ◌∷◌, ◌++◌, length, take, zero, suc, Option, Some, None, refl, sym, ap, ◌∙◌, subst}
use Rattle.std.specs.List.{list_any, list_all, slice_get}
use Rattle.std.specs.Prelude.{slice_index}
use Rattle.std.specs.Ordering.{is_eq}
use Rattle.std.specs.Option.{option_map, option_map_or}
use Rattle.std.proofs.lemmas.Option.{same_Some}
use Rattle.ipa_spec.specs.Actions.{IsAction, arity_of, place_sorts, drop_arg, drop_effects, effects_of, needs_of, sorts_of, sorts_of_vars}
use Rattle.ipa_spec.specs.declared.specification.Specification.{Specification}
use Rattle.ipa_spec.specs.declared.predicates.Predicate.{Predicate}
use Rattle.ipa_spec.specs.declared.bounds.Bound.{Bound}
use Rattle.ipa_spec.specs.declared.clauses.Atom.{Atom}
use Rattle.ipa_spec.specs.declared.clauses.Clause.{Clause}
use Rattle.ipa_spec.specs.declared.clauses.Literal.{Literal}
use Rattle.ipa_spec.specs.declared.clauses.Literal.TheVariants.{Holds, Fails, Same, Differ}
use Rattle.ipa_spec.specs.declared.operations.Effect.{Effect}
use Rattle.ipa_spec.specs.declared.operations.Operation.{Operation}
use Rattle.ipa_spec.specs.declared.operations.Action.{Action}
use Rattle.ipa_spec.specs.declared.operations.Action.TheVariants.{Op, Drop}
use Rattle.ipa_logic.specs.Facts.{Universe, IsFact, IsState, has, fact_cmp}
use Rattle.ipa_spec.specs.Faults.{term_at}
use Rattle.ipa_logic.specs.Truth.{Keeps, fact_of, element_of, literal_true, instance_true, IsOver}
use Rattle.ipa_logic.specs.Touches.{adds, removes, some_gives, some_takes, makes_true, makes_false, touches_need, wins, is_of_fact}
use Rattle.ipa_logic.specs.Conflicts.{StandsAfter, Conflict, IsConflictAt, denies, is_denied_by, is_true_comparison, is_undecided, falsifies_some, makes_winner_true, can_be_falsified, is_lost}
use Rattle.ipa_logic.specs.declared.facts.Fact.{Fact}
use Rattle.ipa_repair.specs.Unchanged.{shape_of, shape_at, HasSameFrame, DoesSame, IsJudgedSame, IsClauseJudgedSame, IsAlike}

-- two tests that agree on each item of a list
same-on : {X : Type 0} (p q : X → Bool) (xs : List X) → ((k : ℕ) (x : X) → slice_get xs k ≡ Some x → p x ≡ q x) → list_any p xs ≡ list_any q xs
same-on p q [] h = refl
same-on p q (x ∷ xs) h =
    let first = h 0 x refl in
    let rest = same-on p q xs (λ k y e. h (suc k) y e) in
    λ i. first i || rest i

-- what is read of a predicate's shape
through : {Y : Type 0} (f : ℕ × List ℕ → Y) (d : Y) (o : Option Predicate) → option_map_or (λ p. f (shape_of p)) o d ≡ option_map_or f (option_map shape_of o) d
through f d None = refl
through f d (Some p) = refl

-- a predicate of the same shape
record HasShape (ps : List Predicate) (n : ℕ) (p : Predicate) : Type 0 where
  found : Predicate
  there : slice_get ps n ≡ Some found
  shape : shape_of found ≡ shape_of p

shape-found : (ps : List Predicate) (n : ℕ) (p : Predicate) → shape_at ps n ≡ Some (shape_of p) → HasShape ps n p
shape-found ps n p e = at (slice_get ps n) refl e
  where
    at : (o : Option Predicate) → slice_get ps n ≡ o → option_map shape_of o ≡ Some (shape_of p) → HasShape ps n p
    at None is h = cc
    at (Some q) is h = record { found = q; there = is; shape = same_Some (shape_of q) (shape_of p) h }

module _ (s : Specification) (os : List Operation) (ps : List Predicate) (shapes : (n : ℕ) → shape_at ps n ≡ shape_at s.predicates n) where
  abbrev changed : Specification
  changed = record s { operations = os; predicates = ps }

  read-same : {Y : Type 0} (f : ℕ × List ℕ → Y) (d : Y) (n : ℕ) →
      option_map_or (λ p. f (shape_of p)) (slice_get ps n) d ≡ option_map_or (λ p. f (shape_of p)) (slice_get s.predicates n) d
  read-same f d n =
      through f d (slice_get ps n) ∙ (ap (λ o. option_map_or f o d) (shapes n) ∙ sym (through f d (slice_get s.predicates n)))

  arity-same : (n : ℕ) → arity_of ps n ≡ arity_of s.predicates n
  arity-same n = read-same (λ q. q.0) 0 n

  places-same : (n : ℕ) → place_sorts ps n ≡ place_sorts s.predicates n
  places-same n = read-same (λ q. take q.0 q.1) [] n

  fact-same : (values : List ℕ) (a : Atom) → fact_of changed values a ≡ fact_of s values a
  fact-same values a = ap (λ (m : ℕ).
      let at : ℕ → ℕ = λ place. cond (ltb place m) (element_of s values (term_at a place)) 0 in
      let f : Fact = record { predicate = a.predicate; args = at 0 ∷ at 1 ∷ at 2 ∷ [] } in f) (arity-same a.predicate)

  literal-same : (t : Fact → Bool) (values : List ℕ) (l : Literal) → literal_true changed t values l ≡ literal_true s t values l
  literal-same t values (Holds a) = ap t (fact-same values a)
  literal-same t values (Fails a) = ap (λ f. not (t f)) (fact-same values a)
  literal-same t values (Same v w) = refl
  literal-same t values (Differ v w) = refl

  instance-same : (t : Fact → Bool) (values : List ℕ) (c : Clause) → instance_true changed t values c ≡ instance_true s t values c
  instance-same t values c = λ i. list_any (λ l. literal-same t values l i) c.literals

  -- which facts there are
  fact-there : (u : Universe) (f : Fact) → IsFact s u f → IsFact changed u f
  fact-there u f h =
      let q = shape-found ps f.predicate h.predicate (shapes f.predicate ∙ ap (option_map shape_of) h.declared) in
      record {
        predicate = q.found;
        declared = q.there;
        elements = subst (λ (sh : ℕ × List ℕ). (k : ℕ) → k < sh.0 → slice_index f.args k < slice_index u (slice_index sh.1 k)) (sym q.shape) h.elements;
        unused = subst (λ (sh : ℕ × List ℕ). (k : ℕ) → sh.0 ≤ k → slice_index f.args k ≡ 0) (sym q.shape) h.unused;
        width = h.width;
      }

  fact-back : (u : Universe) (f : Fact) → IsFact changed u f → IsFact s u f
  fact-back u f h =
      let q = shape-found s.predicates f.predicate h.predicate (sym (shapes f.predicate) ∙ ap (option_map shape_of) h.declared) in
      record {
        predicate = q.found;
        declared = q.there;
        elements = subst (λ (sh : ℕ × List ℕ). (k : ℕ) → k < sh.0 → slice_index f.args k < slice_index u (slice_index sh.1 k)) (sym q.shape) h.elements;
        unused = subst (λ (sh : ℕ × List ℕ). (k : ℕ) → sh.0 ≤ k → slice_index f.args k ≡ 0) (sym q.shape) h.unused;
        width = h.width;
      }

  state-there : (u : Universe) (state : List Fact) → IsState s u state → IsState changed u state
  state-there u state h = record { rising = h.rising; facts = λ f is. fact-there u f (h.facts f is) }

  keeps-there : (u : Universe) (t : Fact → Bool) → Keeps s u t → Keeps changed u t
  keeps-there u t h = record { clauses = λ k c e. record { instances = λ v over. instance-same t v c ∙ (h.clauses k c e).instances v over } }

  denied-same : (values : List ℕ) (ls : List Literal) (l : Literal) → is_denied_by changed values ls l ≡ is_denied_by s values ls l
  denied-same values ls (Holds a) = λ i. list_any (λ m. one a m i) ls
    where
      one : (a : Atom) (m : Literal) → denies changed values a m ≡ denies s values a m
      one a (Holds b) = refl
      one a (Fails b) = λ i. is_eq (fact_cmp (fact-same values a i) (fact-same values b i))
      one a (Same v w) = refl
      one a (Differ v w) = refl
  denied-same values ls (Fails a) = refl
  denied-same values ls (Same v w) = refl
  denied-same values ls (Differ v w) = refl

  undecided-same : (values : List ℕ) (ls : List Literal) → is_undecided changed values ls ≡ is_undecided s values ls
  undecided-same values ls = λ i. not (list_any (is_true_comparison s values) ls) && not (list_any (λ l. denied-same values ls l i) ls)

  -- what an action does that does the same in both
  module _ (action : Action) (same : DoesSame s changed action) where
    adds-same : (args : List ℕ) (f : Fact) → adds changed action args f ≡ adds s action args f
    adds-same args f = ap (λ es. some_gives s es args f) same.effects

    removes-same : (args : List ℕ) (f : Fact) → removes changed action args f ≡ removes s action args f
    removes-same args f = ap (λ es. some_takes s es args f && not (some_gives s es args f)) same.effects

    makes_true-same : (args values : List ℕ) (l : Literal) → makes_true changed action args values l ≡ makes_true s action args values l
    makes_true-same args values (Holds a) = adds-same args (fact_of changed values a) ∙ ap (adds s action args) (fact-same values a)
    makes_true-same args values (Fails a) = removes-same args (fact_of changed values a) ∙ ap (removes s action args) (fact-same values a)
    makes_true-same args values (Same v w) = refl
    makes_true-same args values (Differ v w) = refl

    makes_false-same : (args values : List ℕ) (l : Literal) → makes_false changed action args values l ≡ makes_false s action args values l
    makes_false-same args values (Holds a) = removes-same args (fact_of changed values a) ∙ ap (removes s action args) (fact-same values a)
    makes_false-same args values (Fails a) = adds-same args (fact_of changed values a) ∙ ap (adds s action args) (fact-same values a)
    makes_false-same args values (Same v w) = refl
    makes_false-same args values (Differ v w) = refl

    falsifies-same : (args values : List ℕ) (ls : List Literal) → falsifies_some changed action args values ls ≡ falsifies_some s action args values ls
    falsifies-same args values ls = λ i. list_any (λ l. makes_false-same args values l i) ls

    winner-same : (args values : List ℕ) (ls : List Literal) → ((k : ℕ) (l : Literal) → slice_get ls k ≡ Some l → IsJudgedSame s changed l) →
        makes_winner_true changed action args values ls ≡ makes_winner_true s action args values ls
    winner-same args values ls judged =
        same-on (λ l. wins changed l && makes_true changed action args values l) (λ l. wins s l && makes_true s action args values l) ls
        (λ k l e. λ i. (judged k l e).wins_same i && makes_true-same args values l i)

    stands-there : (u : Universe) (args : List ℕ) (t : Fact → Bool) → StandsAfter s u action args t → StandsAfter changed u action args t
    stands-there u args t h = record {
      added = λ f is a. h.added f (fact-back u f is) (sym (adds-same args f) ∙ a);
      removed = λ f is r. h.removed f (fact-back u f is) (sym (removes-same args f) ∙ r);
      needed = (λ i. list_all (λ l. (makes_true-same args args l i || makes_false-same args args l i) || literal-same t args l i) (same.needs i)) ∙ h.needed;
    }

    arguments-there : (u : Universe) (args : List ℕ) → IsOver u (sorts_of s action) args → IsOver u (sorts_of changed action) args
    arguments-there u args h = subst (λ sorts. IsOver u sorts args) (sym same.sorts) h

  lost-same : (right : Action) (args values : List ℕ) (l_state r_state : Fact → Bool) (l : Literal) → DoesSame s changed right → IsJudgedSame s changed l →
      is_lost changed right args values l_state r_state l ≡ is_lost s right args values l_state r_state l
  lost-same right args values l_state r_state l same judged = λ i.
      ((literal-same l_state values l i && not (makes_true-same right same args values l i)) && judged.falsified_same i)
      && (not (is_of_fact l && not (judged.wins_same i)) || not (literal-same r_state values l i))

  -- a conflict of two actions that do the same, on a clause that is judged the same
  conflict-there : (left right : Action) (c : Clause) (u : Universe) (largs rargs values : List ℕ) (place : ℕ) (ls rs : List Fact) →
      DoesSame s changed left → DoesSame s changed right → IsClauseJudgedSame s changed c →
      IsConflictAt s left right c u largs rargs values place ls rs → IsConflictAt changed left right c u largs rargs values place ls rs
  conflict-there left right c u largs rargs values place ls rs l r judged h = record {
    sizes = record { constants = h.sizes.constants };
    left_arguments = arguments-there left l u largs h.left_arguments;
    right_arguments = arguments-there right r u rargs h.right_arguments;
    clause_values = h.clause_values;
    left_state = state-there u ls h.left_state;
    right_state = state-there u rs h.right_state;
    left_keeps = keeps-there u _ h.left_keeps;
    right_keeps = keeps-there u _ h.right_keeps;
    left_stands = stands-there left l u largs _ h.left_stands;
    right_stands = stands-there right r u rargs _ h.right_stands;
    undecided = undecided-same values c.literals ∙ h.undecided;
    left_falsifies = falsifies-same left l largs values c.literals ∙ h.left_falsifies;
    right_falsifies = falsifies-same right r rargs values c.literals ∙ h.right_falsifies;
    left_spares = winner-same left l largs values c.literals judged.each ∙ h.left_spares;
    right_spares = winner-same right r rargs values c.literals judged.each ∙ h.right_spares;
    lost = h.lost;
    lost_at = h.lost_at;
    loss = lost-same right rargs values (has ls) (has rs) h.lost r (judged.each place h.lost h.lost_at) ∙ h.loss;
  }

  drop_effects-same : (b : Bound) → drop_effects ps b ≡ drop_effects s.predicates b
  drop_effects-same b = ap (λ (m : ℕ).
      let own : Effect = record { add = false; predicate = b.predicate; args = drop_arg m 0 ∷ drop_arg m 1 ∷ drop_arg m 2 ∷ [] } in
      own ∷ b.removes) (arity-same b.predicate)

  -- a drop does the same
  drop-same : (n : ℕ) → DoesSame s changed (Drop n)
  drop-same n = record {
    sorts = λ i. option_map_or (λ (b : Bound). places-same b.predicate i) (slice_get s.bounds n) [];
    needs = refl;
    effects = λ i. option_map_or (λ (b : Bound). drop_effects-same b i) (slice_get s.bounds n) [];
  }

-- a specification of the same frame has only other operations and predicates
frame-is : (s next : Specification) → HasSameFrame s next → next ≡ record s { operations = next.operations; predicates = next.predicates }
frame-is s next f = λ i. record {
  sorts = f.sorts i;
  constants = f.constants i;
  predicates = next.predicates;
  clauses = f.clauses i;
  operations = next.operations;
  bounds = f.bounds i;
}

-- an action stays declared
declared-kept : (s next : Specification) → HasSameFrame s next → (action : Action) → IsAction s action → IsAction next action
declared-kept s next f (Op n) h = subst (λ m. n < m) (sym f.operation_count) h
declared-kept s next f (Drop n) h = subst (λ m. n < m) (sym (ap length f.bounds)) h

-- two actions of an alike triple conflict
pub conflict-kept : (s next : Specification) (left right : Action) (k : ℕ) → IsAlike s next left right k → Conflict s left right k → Conflict next left right k
conflict-kept s next left right k a h =
    let os = next.operations in
    let ps = next.predicates in
    let shaped : Specification = record s { operations = os; predicates = ps } in
    let is = frame-is s next a.frame in
    let l = subst (λ x. DoesSame s x left) is a.left_same in
    let r = subst (λ x. DoesSame s x right) is a.right_same in
    let judged = subst (λ x. IsClauseJudgedSame s x h.clause) is (a.clause h.clause h.declared) in
    let there = conflict-there s os ps a.frame.shapes left right h.clause h.universe h.left_args h.right_args h.values h.place h.after_left h.after_right l r judged h.conflict in
    record {
      left_declared = declared-kept s next a.frame left h.left_declared;
      right_declared = declared-kept s next a.frame right h.right_declared;
      clause = h.clause;
      declared = ap (λ cs. slice_get cs k) a.frame.clauses ∙ h.declared;
      universe = h.universe;
      left_args = h.left_args;
      right_args = h.right_args;
      values = h.values;
      place = h.place;
      after_left = h.after_left;
      after_right = h.after_right;
      conflict = subst (λ x. IsConflictAt x left right h.clause h.universe h.left_args h.right_args h.values h.place h.after_left h.after_right) (sym is) there;
    }

-- the same the other way round
pub frame-back : (s next : Specification) → HasSameFrame s next → HasSameFrame next s
frame-back s next f = record {
  sorts = sym f.sorts;
  constants = sym f.constants;
  clauses = sym f.clauses;
  bounds = sym f.bounds;
  operation_count = sym f.operation_count;
  shapes = λ n. sym (f.shapes n);
}

does-back : (s next : Specification) (action : Action) → DoesSame s next action → DoesSame next s action
does-back s next action d = record { sorts = sym d.sorts; needs = sym d.needs; effects = sym d.effects }

pub alike-back : (s next : Specification) (left right : Action) (k : ℕ) → IsAlike s next left right k → IsAlike next s left right k
alike-back s next left right k a = record {
  frame = frame-back s next a.frame;
  left_same = does-back s next left a.left_same;
  right_same = does-back s next right a.right_same;
  clause = λ c e.
      let judged = a.clause c (sym (ap (λ cs. slice_get cs k) a.frame.clauses) ∙ e) in
      record { each = λ j l at. record { wins_same = sym (judged.each j l at).wins_same; falsified_same = sym (judged.each j l at).falsified_same } };
}

-- a drop does the same in both
pub drop-does_same : (s next : Specification) (n : ℕ) → HasSameFrame s next → DoesSame s next (Drop n)
drop-does_same s next n f = subst (λ x. DoesSame s x (Drop n)) (sym (frame-is s next f)) (drop-same s next.operations next.predicates f.shapes n)
