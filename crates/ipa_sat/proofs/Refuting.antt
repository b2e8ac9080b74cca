-- Lemmas on unit propagation: what leads to an empty clause is satisfied by no assignment.
use Rattle.std.proofs.Common.{◌≡◌, ◌||◌, ◌∙◌, ℕ, List, [], ◌∷◌, Bool, true, false, not, cond, Some, refl, sym, ap, inl, inr}
use Rattle.std.proofs.lemmas.Bool.{false≢true, and_parts, and_from, or_cases, or_left, or_right}
use Rattle.std.specs.List.{list_all, slice_get}
use Rattle.ipa_sat.specs.declared.cnf.Lit.{Lit}
use Rattle.ipa_sat.specs.Formula.{value, literal_true, clause_true}
use Rattle.ipa_sat.specs.Refutation.{opposite, is_same, has, is_denied, is_or_denied, Refutes, clash, broken, forced, denials, FollowsByUnits}
use Rattle.ipa_sat.proofs.Literals.{same_lit}

-- a literal that is among those that are true is true
pub true_among : (b : List Bool) (A : List Lit) (l : Lit) → list_all (literal_true b) A ≡ true → has A l ≡ true → literal_true b l ≡ true
true_among b [] l all h = let none : ⊥ = cc in absurd none
true_among b (m ∷ A) l all h =
    let parts = and_parts (literal_true b m) (list_all (literal_true b) A) all in
    elim (or_cases (is_same m l) (has A l) h) [
      | inl e ↦ ap (literal_true b) (sym (same_lit m l e)) ∙ parts.0
      | inr k ↦ true_among b A l parts.1 k
    ]

opposite_false : (p v : Bool) → cond (not p) v (not v) ≡ true → cond p v (not v) ≡ false
opposite_false true true e = let none : ⊥ = cc in absurd none
opposite_false true false e = refl
opposite_false false true e = refl
opposite_false false false e = let none : ⊥ = cc in absurd none

-- a denied literal is false
pub denied_false : (b : List Bool) (A : List Lit) (l : Lit) → list_all (literal_true b) A ≡ true → is_denied A l ≡ true → literal_true b l ≡ false
denied_false b A l all h = opposite_false l.positive (value b l.var) (true_among b A (opposite l) all h)

-- a clause whose literals are denied is false
pub clause_false : (b : List Bool) (A c : List Lit) → list_all (literal_true b) A ≡ true → list_all (is_denied A) c ≡ true → clause_true b c ≡ false
clause_false b A [] all h = refl
clause_false b A (m ∷ c) all h =
    let parts = and_parts (is_denied A m) (list_all (is_denied A) c) h in
    rw (denied_false b A m all parts.0) (clause_false b A c all parts.1)

-- a clause whose literals but one are denied is true by that one
pub clause_by_one : (b : List Bool) (A : List Lit) (l : Lit) (c : List Lit) → list_all (literal_true b) A ≡ true → list_all (is_or_denied A l) c ≡ true → clause_true b c ≡ true → literal_true b l ≡ true
clause_by_one b A l [] all h t = absurd (false≢true t)
clause_by_one b A l (m ∷ c) all h t =
    let parts = and_parts (is_or_denied A l m) (list_all (is_or_denied A l) c) h in
    elim (or_cases (literal_true b m) (clause_true b c) t) [
      | inl x ↦ elim (or_cases (is_same l m) (is_denied A m) parts.0) [
        | inl e ↦ ap (literal_true b) (same_lit l m e) ∙ x
        | inr d ↦ absurd (false≢true (sym (denied_false b A m all d) ∙ x))
      ]
      | inr y ↦ clause_by_one b A l c all parts.1 y
    ]

-- what leads to an empty clause is satisfied by no assignment
pub Refutes-sound : (cs : List (List Lit)) (b : List Bool) → ((k : ℕ) (c : List Lit) → slice_get cs k ≡ Some c → clause_true b c ≡ true) → (A : List Lit) → Refutes cs A → list_all (literal_true b) A ≡ true → ⊥
Refutes-sound cs b holds A (clash _ l h d) all = false≢true (sym (denied_false b A l all d) ∙ true_among b A l all h)
Refutes-sound cs b holds A (broken _ k c e h) all = false≢true (sym (clause_false b A c all h) ∙ holds k c e)
Refutes-sound cs b holds A (forced _ k c l e h r) all = Refutes-sound cs b holds (l ∷ A) r (and_from (literal_true b l) (list_all (literal_true b) A) (clause_by_one b A l c all h (holds k c e)) all)

-- each of some literals is among others
pub record IsWithin (A B : List Lit) : Type 0 where
  pub all : (l : Lit) → has A l ≡ true → has B l ≡ true

within_more : (A B : List Lit) (l : Lit) → IsWithin A B → IsWithin (l ∷ A) (l ∷ B)
within_more A B l w = record {
  all = λ m h. elim (or_cases (is_same l m) (has A m) h) [
    | inl e ↦ or_left (is_same l m) (has B m) e
    | inr k ↦ or_right (is_same l m) (has B m) (w.all m k)
  ];
}

denied_within : (A B c : List Lit) → IsWithin A B → list_all (is_denied A) c ≡ true → list_all (is_denied B) c ≡ true
denied_within A B [] w h = refl
denied_within A B (m ∷ c) w h =
    let parts = and_parts (is_denied A m) (list_all (is_denied A) c) h in
    and_from (is_denied B m) (list_all (is_denied B) c) (w.all (opposite m) parts.0) (denied_within A B c w parts.1)

or_denied_within : (A B : List Lit) (l : Lit) (c : List Lit) → IsWithin A B → list_all (is_or_denied A l) c ≡ true → list_all (is_or_denied B l) c ≡ true
or_denied_within A B l [] w h = refl
or_denied_within A B l (m ∷ c) w h =
    let parts = and_parts (is_or_denied A l m) (list_all (is_or_denied A l) c) h in
    let first : is_or_denied B l m ≡ true = elim (or_cases (is_same l m) (is_denied A m) parts.0) [
      | inl e ↦ or_left (is_same l m) (is_denied B m) e
      | inr d ↦ or_right (is_same l m) (is_denied B m) (w.all (opposite m) d)
    ] in
    and_from (is_or_denied B l m) (list_all (is_or_denied B l) c) first (or_denied_within A B l c w parts.1)

-- more literals lead to an empty clause too
pub Refutes-more : (cs : List (List Lit)) (A B : List Lit) → Refutes cs A → IsWithin A B → Refutes cs B
Refutes-more cs A B (clash _ l h d) w = clash B l (w.all l h) (w.all (opposite l) d)
Refutes-more cs A B (broken _ k c e h) w = broken B k c e (denied_within A B c w h)
Refutes-more cs A B (forced _ k c l e h r) w = forced B k c l e (or_denied_within A B l c w h) (Refutes-more cs (l ∷ A) (l ∷ B) r (within_more A B l w))

-- what is closed under unit propagation without an empty clause
pub record IsClosed (cs : List (List Lit)) (K : List Lit) : Type 0 where
  pub no_clash : (l : Lit) → has K l ≡ true → is_denied K l ≡ true → ⊥
  pub none_broken : (k : ℕ) (c : List Lit) → slice_get cs k ≡ Some c → list_all (is_denied K) c ≡ true → ⊥
  pub takes : (k : ℕ) (c : List Lit) (l : Lit) → slice_get cs k ≡ Some c → list_all (is_or_denied K l) c ≡ true → has K l ≡ true

within_taken : (A K : List Lit) (l : Lit) → IsWithin A K → has K l ≡ true → IsWithin (l ∷ A) K
within_taken A K l w h = record {
  all = λ m e. elim (or_cases (is_same l m) (has A m) e) [
    | inl s ↦ ap (has K) (sym (same_lit l m s)) ∙ h
    | inr k ↦ w.all m k
  ];
}

-- nothing below what is closed leads to an empty clause
pub Refutes-closed : (cs : List (List Lit)) (K A : List Lit) → IsClosed cs K → Refutes cs A → IsWithin A K → ⊥
Refutes-closed cs K A closed (clash _ l h d) w = closed.no_clash l (w.all l h) (w.all (opposite l) d)
Refutes-closed cs K A closed (broken _ k c e h) w = closed.none_broken k c e (denied_within A K c w h)
Refutes-closed cs K A closed (forced _ k c l e h r) w =
    Refutes-closed cs K (l ∷ A) closed r (within_taken A K l w (closed.takes k c l e (or_denied_within A K l c w h)))

-- where an assignment makes no literal of a clause true, it makes each denial true
pub denials_true : (b : List Bool) (c : List Lit) → clause_true b c ≡ false → list_all (literal_true b) (denials c) ≡ true
denials_true b [] h = refl
denials_true b (m ∷ c) h = go (literal_true b m) refl h (denials_true b c)
  where
    flipped : (p v : Bool) → cond p v (not v) ≡ false → cond (not p) v (not v) ≡ true
    flipped true true e = let none : ⊥ = cc in absurd none
    flipped true false e = refl
    flipped false true e = refl
    flipped false false e = let none : ⊥ = cc in absurd none

    go : (x : Bool) → literal_true b m ≡ x → (x || clause_true b c) ≡ false → (clause_true b c ≡ false → list_all (literal_true b) (denials c) ≡ true) → list_all (literal_true b) (denials (m ∷ c)) ≡ true
    go true e k rest = let none : ⊥ = cc in absurd none
    go false e k rest = and_from (literal_true b (opposite m)) (list_all (literal_true b) (denials c)) (flipped m.positive (value b m.var) e) (rest k)

-- what follows by unit propagation is true wherever the clauses are
pub FollowsByUnits-entailed : (cs : List (List Lit)) (b : List Bool) → ((k : ℕ) (c : List Lit) → slice_get cs k ≡ Some c → clause_true b c ≡ true) → (c : List Lit) → FollowsByUnits cs c → clause_true b c ≡ true
FollowsByUnits-entailed cs b holds c r = go (clause_true b c) refl
  where
    go : (x : Bool) → clause_true b c ≡ x → clause_true b c ≡ true
    go true e = e
    go false e = absurd (Refutes-sound cs b holds (denials c) r (denials_true b c e))
