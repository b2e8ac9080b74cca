-- Lemmas on the check of a list of steps, one after another.
use Rattle.std.proofs.Common.{◌≡◌, ◌<◌, ◌≤◌, ◌+◌, ◌++◌, ◌==◌, ◌∙◌, ◌↔◌, ℕ, List, [], ◌∷◌, Bool, true, false, All, IsTrue, length, suc, take, drop, slice_index_or, refl, sym, ap, subst, arith, append_assoc}
use Rattle.std.specs.Bool.{OnTrue}
use Rattle.std.proofs.lemmas.Bool.{false≢true, eqb-true}
use Rattle.std.proofs.lemmas.List.{append-nil, take_all, map-append, take_more, get_or-map, length-map}
use Rattle.std.proofs.Math.Seq.{split_at}
use Rattle.ipa_sat.specs.declared.cnf.Lit.{Lit}
use Rattle.ipa_sat.specs.declared.refutation.Step.{Step}
use Rattle.ipa_sat.specs.Formula.{Formula, IsInRange, IsUnsatisfiable}
use Rattle.ipa_sat.specs.Refutation.{FollowsByUnits, AreDerived, EndsEmpty, IsRefutation, clauses_of}
use Rattle.ipa_sat.proofs.Grown.{IsUnsatisfiable-refutation, AreDerived-none, AreDerived-one, AreDerived-append}

-- the steps so far are derived, the formula has them, and it is told whether the last has no literals
pub record ChecksSoFar (f now : Formula) (done : List (List Lit)) (ends : Bool) : Type 0 where
  pub vars : now.vars ≡ f.vars
  pub clauses : now.clauses ≡ f.clauses ++ done
  pub derived : AreDerived f.clauses done
  pub told : IsTrue ends ↔ EndsEmpty done

-- the last clauses of equal lists are equal
last_same : (xs ys : List (List Lit)) (x y : List Lit) → xs ++ x ∷ [] ≡ ys ++ y ∷ [] → x ≡ y
last_same [] [] x y e = cc
last_same [] (b ∷ []) x y e = let none : ⊥ = cc in absurd none
last_same [] (b ∷ c ∷ bs) x y e = let none : ⊥ = cc in absurd none
last_same (a ∷ []) [] x y e = let none : ⊥ = cc in absurd none
last_same (a ∷ b ∷ bs) [] x y e = let none : ⊥ = cc in absurd none
last_same (a ∷ xs) (b ∷ ys) x y e = let tail : xs ++ x ∷ [] ≡ ys ++ y ∷ [] = cc in last_same xs ys x y tail

-- nothing is not refuted by nothing
pub ChecksSoFar-none : (f now : Formula) → now ≡ f → ChecksSoFar f now [] false
ChecksSoFar-none f now e = record {
  vars = ap (λ (x : Formula). x.vars) e;
  clauses = ap (λ (x : Formula). x.clauses) e ∙ sym (append-nil f.clauses);
  derived = AreDerived-none f.clauses;
  told = (λ h. absurd (false≢true h), λ h. absurd (nothing h.front h.last));
}
  where
    nothing : (front : List (List Lit)) → [] ≡ front ++ [] ∷ [] → ⊥
    nothing [] e = cc
    nothing (x ∷ front) e = cc

-- one more step
pub ChecksSoFar-more : (f mid now : Formula) (done : List (List Lit)) (old ends : Bool) (c : List Lit) → ChecksSoFar f mid done old → FollowsByUnits mid.clauses c
    → now ≡ record mid { clauses = mid.clauses ++ c ∷ [] } → (IsTrue ends ↔ (c ≡ [])) → ChecksSoFar f now (done ++ c ∷ []) ends
ChecksSoFar-more f mid now done old ends c s h e t = record {
  vars = ap (λ (x : Formula). x.vars) e ∙ s.vars;
  clauses = ap (λ (x : Formula). x.clauses) e ∙ ap (λ u. u ++ c ∷ []) s.clauses ∙ append_assoc f.clauses done (c ∷ []);
  derived = AreDerived-append f.clauses done (c ∷ []) s.derived (AreDerived-one (f.clauses ++ done) c (subst (λ (u : List (List Lit)). FollowsByUnits u c) s.clauses h));
  told = (λ y. record { front = done; last = ap (λ x. done ++ x ∷ []) (t.0 y) }, λ w. t.1 (last_same done w.front c [] w.last));
}

-- a clause without literals
empty_told : (c : List Lit) (ends : Bool) → ends ≡ (length c == 0) → (IsTrue ends ↔ (c ≡ []))
empty_told c ends e = (λ h. none c (eqb-true (length c) 0 (sym e ∙ h)), λ h. e ∙ ap (λ (x : List Lit). length x == 0) h)
  where
    none : (x : List Lit) → length x ≡ 0 → x ≡ []
    none [] h = refl
    none (l ∷ x) h = absurd (omega (arith, h))

-- a clause at a place of the steps
clauses_at : (steps : List Step) (i : ℕ) (d : Step) → i < length steps → clauses_of steps ≡ clauses_of (take i steps) ++ (slice_index_or steps i d).lits ∷ clauses_of (drop (suc i) steps)
clauses_at steps i d h = ap clauses_of (split_at steps i d h) ∙ map-append (λ (s : Step). s.lits) (take i steps) (slice_index_or steps i d ∷ drop (suc i) steps)

pub clauses_more : (steps : List Step) (i : ℕ) (d : Step) → i < length steps → clauses_of (take (i + 1) steps) ≡ clauses_of (take i steps) ++ (slice_index_or steps i d).lits ∷ []
clauses_more steps i d h = ap clauses_of (take_more steps i d h) ∙ map-append (λ (s : Step). s.lits) (take i steps) (slice_index_or steps i d ∷ [])

-- a step's literals are of the variables
range_at : (n : ℕ) (steps : List Step) (i : ℕ) (d : Step) → i < length steps → IsInRange n (clauses_of steps) → All (λ l. l.var < n) (slice_index_or steps i d).lits
range_at n steps i d h r =
    subst (λ (c : List Lit). All (λ l. l.var < n) c) (get_or-map (λ (s : Step). s.lits) steps i d d.lits h) (r i d.lits (rw (length-map steps (λ (s : Step). s.lits)) h))

pub range_known : (f mid : Formula) (steps : List Step) (i : ℕ) (d : Step) (c : List Lit) (ends : Bool) → i < length steps → d ≡ slice_index_or steps i d → c ≡ d.lits → ChecksSoFar f mid (clauses_of (take i steps)) ends → IsInRange f.vars (clauses_of steps) → All (λ l. l.var < mid.vars) c
range_known f mid steps i d c ends h at e s r =
    let is : (slice_index_or steps i d).lits ≡ c = ap (λ (x : Step). x.lits) (sym at) ∙ sym e in
    subst (λ (n : ℕ). All (λ l. l.var < n) c) (sym s.vars) (subst (λ (x : List Lit). All (λ l. l.var < f.vars) x) is (range_at f.vars steps i d h r))

-- one more step follows
pub ChecksSoFar-step : (f mid now : Formula) (steps : List Step) (i : ℕ) (d : Step) (c : List Lit) (old ends : Bool) → i < length steps → d ≡ slice_index_or steps i d → c ≡ d.lits → ChecksSoFar f mid (clauses_of (take i steps)) old
    → FollowsByUnits mid.clauses c → now ≡ record mid { clauses = mid.clauses ++ c ∷ [] } → ends ≡ (length c == 0) → ChecksSoFar f now (clauses_of (take (i + 1) steps)) ends
ChecksSoFar-step f mid now steps i d c old ends h at e s follows g t =
    let is : (slice_index_or steps i d).lits ≡ c = ap (λ (x : Step). x.lits) (sym at) ∙ sym e in
    let more : clauses_of (take (i + 1) steps) ≡ clauses_of (take i steps) ++ c ∷ [] = clauses_more steps i d h ∙ ap (λ x. clauses_of (take i steps) ++ x ∷ []) is in
    subst (λ (u : List (List Lit)). ChecksSoFar f now u ends) (sym more) (ChecksSoFar-more f mid now (clauses_of (take i steps)) old ends c s follows g (empty_told c ends t))

-- a step does not follow
pub refuted_not : (f mid : Formula) (steps : List Step) (i : ℕ) (d : Step) (c : List Lit) (ends : Bool) → i < length steps → d ≡ slice_index_or steps i d → c ≡ d.lits → ChecksSoFar f mid (clauses_of (take i steps)) ends → (FollowsByUnits mid.clauses c → ⊥) → IsRefutation f.clauses (clauses_of steps) → ⊥
refuted_not f mid steps i d c ends h at e s fails r =
    let is : (slice_index_or steps i d).lits ≡ c = ap (λ (x : Step). x.lits) (sym at) ∙ sym e in
    fails (subst (λ (u : List (List Lit)). FollowsByUnits u c) (sym s.clauses)
    (r.derived.each (clauses_of (take i steps)) c (clauses_of (drop (suc i) steps)) (clauses_at steps i d h ∙ ap (λ x. clauses_of (take i steps) ++ x ∷ clauses_of (drop (suc i) steps)) is)))

-- all steps were gone through
pub refuted_all : (f now : Formula) (steps : List Step) (i : ℕ) (ends : Bool) → length steps ≤ i → ChecksSoFar f now (clauses_of (take i steps)) ends → (IsTrue ends ↔ IsRefutation f.clauses (clauses_of steps))
refuted_all f now steps i ends h s =
    let all : ChecksSoFar f now (clauses_of steps) ends = subst (λ (u : List Step). ChecksSoFar f now (clauses_of u) ends) (take_all i steps h) s in
    (λ y. record { derived = all.derived; ends = all.told.0 y }, λ r. all.told.1 r.ends)

pub unsatisfiable_told : (f now : Formula) (steps : List Step) (i : ℕ) (ends : Bool) → length steps ≤ i → ChecksSoFar f now (clauses_of (take i steps)) ends → OnTrue ends (IsUnsatisfiable f)
unsatisfiable_told f now steps i true h s = IsUnsatisfiable-refutation f (clauses_of steps) ((refuted_all f now steps i true h s).0 refl)
unsatisfiable_told f now steps i false h s = tt
