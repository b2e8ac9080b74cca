-- Lemmas on how much of the search is left.
use Rattle.std.proofs.Common.{◌≡◌, ◌<◌, ◌≤◌, ◌*◌, ◌-◌, ◌^◌, ◌++◌, ◌∙◌, ℕ, List, [], ◌∷◌, Bool, true, false, cond, Option, Some, None, length, suc, map, refl, ap, subst, arith, inl, inr}
use Rattle.std.proofs.lemmas.Bool.{false≢true, or_cases, eqb-true}
use Rattle.std.proofs.Math.Nat.{pow-suc, one-le-pow}
use Rattle.std.proofs.Math.Dec.{eqb}
use Rattle.std.proofs.lemmas.List.{length-map}
use Rattle.std.proofs.lemmas.Map.Steps.{length-le_from_distinct_below}
use Rattle.std.specs.List.{list_any, IsDistinct, AllByRecursion}
use Rattle.ipa_sat.specs.declared.trail.Taken.{Taken}
use Rattle.ipa_sat.specs.Trail.{known, EachStep, IsNew}
use Rattle.ipa_sat.specs.Learning.{room_left}

-- there is always some room left
pub room_left-some : (n : ℕ) (t : List Taken) → 1 ≤ room_left n t
room_left-some n [] = one-le-pow n 3 (omega arith)
room_left-some n (s ∷ t) = let some = room_left-some (n - 1) t in omega arith

pow_third : (n : ℕ) → 0 < n → 3 ^ n ≡ 3 ^ (n - 1) * 3
pow_third n h = let e : n ≡ suc (n - 1) = omega arith in ap (λ m. 3 ^ m) e ∙ pow-suc 3 (n - 1)

choice_le : (b : Bool) (x : ℕ) → cond b x 0 ≤ x
choice_le true x = omega arith
choice_le false x = omega arith

-- one more step takes room
pub room_left-push : (n : ℕ) (t : List Taken) (s : Taken) → length t < n → room_left n (t ++ s ∷ []) < room_left n t
room_left-push n [] s h =
    let e = pow_third n (omega (arith, h)) in
    let one = one-le-pow (n - 1) 3 (omega arith) in
    let le = choice_le s.decided (3 ^ (n - 1)) in
    omega arith
room_left-push n (u ∷ t) s h = let less = room_left-push (n - 1) t s (omega (arith, h)) in omega arith

-- steps take at most the room that there is
pub room_left-all : (n : ℕ) (t : List Taken) → length t ≤ n → room_left n t ≤ 3 ^ n
room_left-all n [] h = omega arith
room_left-all n (s ∷ t) h =
    let e = pow_third n (omega (arith, h)) in
    let le = choice_le s.decided (3 ^ (n - 1)) in
    let rest = room_left-all (n - 1) t (omega (arith, h)) in
    omega arith

-- more steps leave no more room
pub room_left-append : (n : ℕ) (t rest : List Taken) → length (t ++ rest) ≤ n → room_left n (t ++ rest) ≤ room_left n t
room_left-append n [] rest h = room_left-all n rest h
room_left-append n (s ∷ t) rest h = let le = room_left-append (n - 1) t rest (omega (arith, h)) in omega arith

-- a step that follows, in the place of a decision, leaves less room
pub room_left-jump : (n : ℕ) (t : List Taken) (d : Taken) (rest : List Taken) (s : Taken) → d.decided ≡ true → s.decided ≡ false → room_left n (t ++ s ∷ []) < room_left n (t ++ d ∷ rest)
room_left-jump n [] d rest s e f = rw (e, f) (let some = room_left-some (n - 1) rest in omega arith)
room_left-jump n (u ∷ t) d rest s e f = let less = room_left-jump (n - 1) t d rest s e f in omega arith

pub none_rest : (b p : Bool) (q : Option Bool) → cond b (Some p) q ≡ None → (b ≡ false) × (q ≡ None)
none_rest true p q h = let none : ⊥ = cc in absurd none
none_rest false p q h = (refl, h)

-- what stands after a new step is new
pub new_tail : (n : ℕ) (s : Taken) (t : List Taken) → EachStep (IsNew n) (s ∷ t) → EachStep (IsNew n) t
new_tail n s t new = record {
  each = λ before u after e.
      let it : IsNew n (s ∷ before) u = new.each (s ∷ before) u after (ap (λ r. s ∷ r) e) in record {
        in_range = it.in_range;
        fresh = (none_rest (eqb s.lit.var u.lit.var) s.lit.positive (known before u.lit.var) it.fresh).1;
      };
}

-- a variable of none of the steps
others : (v : ℕ) (t : List Taken) → ((before : List Taken) (u : Taken) (after : List Taken) → t ≡ before ++ u ∷ after → eqb v u.lit.var ≡ false) → AllByRecursion (λ y. eqb v y ≡ false) (map (λ s. s.lit.var) t)
others v [] h = tt
others v (s ∷ t) h = (h [] s t refl, others v t (λ before u after e. h (s ∷ before) u after (ap (λ r. s ∷ r) e)))

pub vars_distinct : (n : ℕ) (t : List Taken) → EachStep (IsNew n) t → IsDistinct eqb (map (λ s. s.lit.var) t)
unfolding IsDistinct
vars_distinct n [] new = tt
vars_distinct n (s ∷ t) new =
    (others s.lit.var t (λ before u after e. (none_rest (eqb s.lit.var u.lit.var) s.lit.positive (known before u.lit.var) (new.each (s ∷ before) u after (ap (λ r. s ∷ r) e)).fresh).0), vars_distinct n t (new_tail n s t new))

vars_below : (n : ℕ) (t : List Taken) → EachStep (IsNew n) t → (q : ℕ) → list_any (eqb q) (map (λ s. s.lit.var) t) ≡ true → q < n
vars_below n [] new q h = absurd (false≢true h)
vars_below n (s ∷ t) new q h = elim (or_cases (eqb q s.lit.var) (list_any (eqb q) (map (λ s. s.lit.var) t)) h) [
  | inl e ↦ let same : q ≡ s.lit.var = eqb-true q s.lit.var e in let below = (new.each [] s t refl).in_range in omega arith
  | inr k ↦ vars_below n t (new_tail n s t new) q k
]

-- there are at most as many steps as variables
pub length-le_new : (n : ℕ) (t : List Taken) → EachStep (IsNew n) t → length t ≤ n
length-le_new n t new =
    let le = length-le_from_distinct_below (map (λ s. s.lit.var) t) n (vars_distinct n t new) (vars_below n t new) in
    subst (λ (k : ℕ). k ≤ n) (length-map t (λ s. s.lit.var)) le
