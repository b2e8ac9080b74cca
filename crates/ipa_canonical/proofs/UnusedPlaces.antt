-- What stands in the places past an arity.
--
--   drop_zero        they hold 0
--   drop_same        they hold the first name
--   place_unused     those of an atom hold the first variable
use Rattle.std.proofs.Common.{◌≡◌, ℕ, zero, suc, ◌<◌, ◌≤◌, ◌==◌, Bool, true, false, cond, not, ltb, List, [], ◌∷◌, drop, slice_index, Some, refl, sym, ap, subst, ◌∙◌, arith}
use Rattle.std.specs.List.{slice_get, list_any}
use Rattle.std.proofs.lemmas.Bool.{or_parts, eqb-true, le-ltb, not-false}
use Rattle.std.proofs.lemmas.Option.{same_Some}
use Rattle.ipa_spec.specs.Faults.{same_name, some_place, term_at, is_first_variable}
use Rattle.ipa_spec.specs.PartsFit.{some_place-false}
use Rattle.ipa_spec.specs.declared.names.Name.{Name}
use Rattle.ipa_spec.specs.declared.clauses.Atom.{Atom}
use Rattle.ipa_spec.specs.declared.constants.Term.{Term}
use Rattle.ipa_spec.specs.declared.constants.Term.TheVariants.{Var as Variable, Const as Fixed}

not_zero : (n : ℕ) → not (n == 0) ≡ false → n ≡ 0
not_zero n h = eqb-true n 0 (not-false (n == 0) h)

pub drop_zero : (a : ℕ) (xs : List ℕ) → list_any (λ x. not (x == 0)) (drop a xs) ≡ false → (k : ℕ) → a ≤ k → slice_index xs k ≡ 0
drop_zero a [] h k l = refl
drop_zero zero (x ∷ xs) h zero l = not_zero x (or_parts _ _ h).0
drop_zero zero (x ∷ xs) h (suc k) l = drop_zero zero xs (or_parts (not (x == 0)) _ h).1 k (omega arith)
drop_zero (suc a) (x ∷ xs) h zero l = absurd (omega arith)
drop_zero (suc a) (x ∷ xs) h (suc k) l = drop_zero a xs h k (omega arith)

-- the names past an arity are the first one
pub drop_same : (first : Name) (a : ℕ) (xs : List Name) → list_any (λ x. not (same_name first x)) (drop a xs) ≡ false → (k : ℕ) → a ≤ k → (x : Name) → slice_get xs k ≡ Some x → same_name first x ≡ true
drop_same first a [] h k l y e = cc
drop_same first zero (x ∷ xs) h zero l y e = subst (λ z. same_name first z ≡ true) (same_Some _ _ e) (not-false (same_name first x) (or_parts _ _ h).0)
drop_same first zero (x ∷ xs) h (suc k) l y e = drop_same first zero xs (or_parts (not (same_name first x)) _ h).1 k (omega arith) y e
drop_same first (suc a) (x ∷ xs) h zero l y e = absurd (omega arith)
drop_same first (suc a) (x ∷ xs) h (suc k) l y e = drop_same first a xs h k (omega arith) y e

first_variable : (t : Term) → not (is_first_variable t) ≡ false → t ≡ Variable 0
first_variable (Variable v) h = ap (λ n. Variable n) (not_zero v h)
first_variable (Fixed k) h = cc

-- places past an arity, where a test says that the first variable stands there
pub place_unused : (used : ℕ → Bool) (arity : ℕ) (a : Atom) →
    some_place (λ k. cond (ltb k arity) (used k) (not (is_first_variable (term_at a k)))) ≡ false →
    (k : ℕ) → arity ≤ k → k < 3 → term_at a k ≡ Variable 0
place_unused used arity a h k l m =
    let test = λ (n : ℕ). cond (ltb n arity) (used n) (not (is_first_variable (term_at a n))) in
    let past : test k ≡ not (is_first_variable (term_at a k)) =
    ap (λ b. cond b (used k) (not (is_first_variable (term_at a k)))) (le-ltb k arity l) in
    first_variable (term_at a k) (sym past ∙ some_place-false test h k m)
