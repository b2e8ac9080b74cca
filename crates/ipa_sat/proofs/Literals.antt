-- Lemmas on literals and lists of them.
use Rattle.std.proofs.Common.{◌≡◌, ◌++◌, ◌||◌, ◌∙◌, List, [], ◌∷◌, Bool, true, false, not, refl, sym, ap, inl, inr}
use Rattle.std.proofs.lemmas.Bool.{false≢true, and_parts, and_from, or_cases, or_left, or_right, eq-eqb, eqb-true}
use Rattle.std.proofs.Math.Dec.{eqb}
use Rattle.std.proofs.lemmas.List.Folds.{list_all-append}
use Rattle.std.specs.List.{list_all}
use mathlib.Core.Bool.{beq}
use Rattle.ipa_sat.specs.declared.cnf.Lit.{Lit}
use Rattle.ipa_sat.specs.Refutation.{opposite, is_same, has}

beq_true : (p q : Bool) → beq p q ≡ true → p ≡ q
beq_true true true e = refl
beq_true false false e = refl
beq_true true false e = let none : ⊥ = cc in absurd none
beq_true false true e = let none : ⊥ = cc in absurd none

pub beq_same : (p : Bool) → beq p p ≡ true
beq_same true = refl
beq_same false = refl

-- literals that are the same are equal
pub same_lit : (l m : Lit) → is_same l m ≡ true → l ≡ m
same_lit l m h =
    let parts = and_parts (eqb l.var m.var) (beq l.positive m.positive) h in
    let v : l.var ≡ m.var = eqb-true l.var m.var parts.0 in
    let p : l.positive ≡ m.positive = beq_true l.positive m.positive parts.1 in
    λ i. record { var = v i; positive = p i }

pub is_same-refl : (l : Lit) → is_same l l ≡ true
is_same-refl l = and_from (eqb l.var l.var) (beq l.positive l.positive) (eq-eqb l.var l.var refl) (beq_same l.positive)

not_not : (b : Bool) → not (not b) ≡ b
not_not true = refl
not_not false = refl

pub opposite_twice : (l : Lit) → opposite (opposite l) ≡ l
opposite_twice l = λ i. record { var = l.var; positive = not_not l.positive i }

pub same_is : (l m : Lit) → l ≡ m → is_same l m ≡ true
same_is l m e = ap (λ x. is_same l x) (sym e) ∙ is_same-refl l

-- what each literal that passes one test passes
pub all_weaker : (p q : Lit → Bool) (c : List Lit) → ((m : Lit) → p m ≡ true → q m ≡ true) → list_all p c ≡ true → list_all q c ≡ true
all_weaker p q [] w h = refl
all_weaker p q (m ∷ c) w h =
    let parts = and_parts (p m) (list_all p c) h in
    and_from (q m) (list_all q c) (w m parts.0) (all_weaker p q c w parts.1)

-- a test that each literal passes is passed by one in the middle, and by one among them
pub all_mid : (p : Lit → Bool) (c : List Lit) (l : Lit) (rest : List Lit) → list_all p (c ++ l ∷ rest) ≡ true → p l ≡ true
all_mid p c l rest h = (and_parts (p l) (list_all p rest) ((and_parts (list_all p c) (list_all p (l ∷ rest)) (sym (list_all-append p c (l ∷ rest)) ∙ h)).1)).0

pub all_front : (p : Lit → Bool) (c rest : List Lit) → list_all p (c ++ rest) ≡ true → list_all p c ≡ true
all_front p c rest h = (and_parts (list_all p c) (list_all p rest) (sym (list_all-append p c rest) ∙ h)).0

pub all_among : (p : Lit → Bool) (c : List Lit) (l : Lit) → list_all p c ≡ true → has c l ≡ true → p l ≡ true
all_among p [] l h k = absurd (false≢true k)
all_among p (m ∷ c) l h k =
    let parts = and_parts (p m) (list_all p c) h in
    elim (or_cases (is_same m l) (has c l) k) [
      | inl e ↦ ap p (sym (same_lit m l e)) ∙ parts.0
      | inr j ↦ all_among p c l parts.1 j
    ]

pub all_push : (p : Lit → Bool) (c : List Lit) (l : Lit) → list_all p c ≡ true → p l ≡ true → list_all p (c ++ l ∷ []) ≡ true
all_push p c l h k = list_all-append p c (l ∷ []) ∙ and_from (list_all p c) (list_all p (l ∷ [])) h (and_from (p l) true k refl)

pub has_push : (c : List Lit) (l m : Lit) → has c m ≡ true → has (c ++ l ∷ []) m ≡ true
has_push [] l m h = absurd (false≢true h)
has_push (x ∷ c) l m h = elim (or_cases (is_same x m) (has c m) h) [
  | inl e ↦ or_left (is_same x m) (has (c ++ l ∷ []) m) e
  | inr k ↦ or_right (is_same x m) (has (c ++ l ∷ []) m) (has_push c l m k)
]

pub has_last : (c : List Lit) (l : Lit) → has (c ++ l ∷ []) l ≡ true
has_last [] l = or_left (is_same l l) false (is_same-refl l)
has_last (x ∷ c) l = or_right (is_same x l) (has (c ++ l ∷ []) l) (has_last c l)

pub or_none : (x y : Bool) → (x || y) ≡ false → (x ≡ false) × (y ≡ false)
or_none true y e = let none : ⊥ = cc in absurd none
or_none false y e = (refl, e)
