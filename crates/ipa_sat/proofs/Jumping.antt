-- Lemmas on the jump back: levels that leave a learned clause alone are cut off.
use Rattle.std.proofs.Common.{◌≡◌, ◌<◌, ◌≤◌, ◌-◌, ◌++◌, ◌||◌, ◌∙◌, ℕ, List, [], ◌∷◌, Bool, true, false, Option, Some, None, length, refl, sym, ap, subst, arith, inl, inr, append_assoc, length-append, take, drop, suc, zero, option_to_list}
use Rattle.std.proofs.lemmas.Bool.{false≢true, and_parts, and_from, or_cases, or_left, or_right}
use Rattle.std.proofs.lemmas.List.{append-nil, take-append-drop, take-append-le, take_all}
use Rattle.std.proofs.Math.Seq.{take-append_seam}
use Rattle.std.specs.List.{slice_get}
use Rattle.ipa_sat.specs.declared.cnf.Lit.{Lit}
use Rattle.ipa_sat.specs.declared.trail.Taken.{Taken}
use Rattle.ipa_sat.specs.declared.explain.Learned.{Learned}
use Rattle.ipa_sat.specs.Trail.{Course, known, EachStep, IsNew}
use Rattle.ipa_sat.specs.Refutation.{opposite, is_same, has}
use Rattle.ipa_sat.specs.Looking.{is_false, are_false, are_false_but}
use Rattle.ipa_sat.specs.Explaining.{Explains, IsLearned, touches, LeavesAlone, IsFree, CutsTo, Jumps}
use Rattle.ipa_sat.proofs.Literals.{same_lit, same_is, or_none}
use Rattle.ipa_sat.proofs.Steps.{EachStep-prefix, known_stays}
use Rattle.ipa_sat.proofs.Explained.{are_false-pop, false_below, longer}

-- a clause that the last step leaves alone stays as it was
pub forced_pop : (t : List Taken) (s : Taken) (l : Lit) (c : List Lit) → known t s.lit.var ≡ None → has c (opposite s.lit) ≡ false → are_false_but (t ++ s ∷ []) l c ≡ true → are_false_but t l c ≡ true
forced_pop t s l [] fresh h k = refl
forced_pop t s l (m ∷ c) fresh h k =
    let parts = and_parts (is_same l m || is_false (t ++ s ∷ []) m) (are_false_but (t ++ s ∷ []) l c) k in
    let none = or_none (is_same m (opposite s.lit)) (has c (opposite s.lit)) h in
    let first : (is_same l m || is_false t m) ≡ true = elim (or_cases (is_same l m) (is_false (t ++ s ∷ []) m) parts.0) [
      | inl e ↦ or_left (is_same l m) (is_false t m) e
      | inr f ↦ elim (or_cases (is_same (opposite s.lit) m) (is_false t m) (false_below t s m fresh f)) [
        | inl e ↦ absurd (false≢true (sym none.0 ∙ same_is m (opposite s.lit) (sym (same_lit (opposite s.lit) m e))))
        | inr g ↦ or_right (is_same l m) (is_false t m) g
      ]
    ] in
    and_from (is_same l m || is_false t m) (are_false_but t l c) first (forced_pop t s l c fresh none.1 parts.1)

pub forced_cut : (n : ℕ) (t rest : List Taken) (l : Lit) (c : List Lit) → EachStep (IsNew n) (t ++ rest) → touches c rest ≡ false → are_false_but (t ++ rest) l c ≡ true → are_false_but t l c ≡ true
forced_cut n t [] l c new h k = ap (λ (u : List Taken). are_false_but u l c) (sym (append-nil t)) ∙ k
forced_cut n t (s ∷ rest) l c new h k =
    let none = or_none (has c (opposite s.lit)) (touches c rest) h in
    let e : (t ++ s ∷ []) ++ rest ≡ t ++ s ∷ rest = append_assoc t (s ∷ []) rest in
    forced_pop t s l c (new.each t s rest refl).fresh none.0
    (forced_cut n (t ++ s ∷ []) rest l c (subst (λ (u : List Taken). EachStep (IsNew n) u) (sym e) new) none.1 (ap (λ (u : List Taken). are_false_but u l c) e ∙ k))

unknown_front : (t rest : List Taken) (v : ℕ) → known (t ++ rest) v ≡ None → known t v ≡ None
unknown_front t rest v h = go (known t v) refl
  where
    go : (o : Option Bool) → known t v ≡ o → known t v ≡ None
    go None e = e
    go (Some x) e = let none : Some x ≡ None = sym (known_stays t rest v x e) ∙ h in let no : ⊥ = cc in absurd no

-- a level that leaves the learned clause alone is cut off
pub IsLearned-cut : (cs : List (List Lit)) (old now new : Course) (learned : Learned) (d : Taken) (rest : List Taken) → IsLearned cs old now learned → d.decided ≡ true → touches learned.clause.items (d ∷ rest) ≡ false → new.vars ≡ now.vars → now.steps ≡ new.steps ++ d ∷ rest → IsLearned cs old new learned
IsLearned-cut cs old now new learned d rest l decided alone v e =
    let each : EachStep (IsNew now.vars) (new.steps ++ d ∷ rest) = subst (λ (t : List Taken). EachStep (IsNew now.vars) t) e l.new in record {
      vars = v ∙ l.vars;
      decision = d;
      rest = rest ++ l.decision ∷ l.rest;
      steps = l.steps ∙ ap (λ t. t ++ l.decision ∷ l.rest) e ∙ append_assoc new.steps (d ∷ rest) (l.decision ∷ l.rest);
      decided = decided;
      follows = l.follows;
      in_range = rw v l.in_range;
      unknown = unknown_front new.steps (d ∷ rest) learned.lit.var (ap (λ (t : List Taken). known t learned.lit.var) (sym e) ∙ l.unknown);
      forced = forced_cut now.vars new.steps (d ∷ rest) learned.lit learned.clause.items each alone (ap (λ (t : List Taken). are_false_but t learned.lit learned.clause.items) (sym e) ∙ l.forced);
      new = subst (λ (n : ℕ). EachStep (IsNew n) new.steps) (sym v) (EachStep-prefix (IsNew now.vars) new.steps (d ∷ rest) each);
    }

pub drop_get : {X : Type 0} → (t : List X) (k : ℕ) (s : X) → slice_get t k ≡ Some s → drop k t ≡ s ∷ drop (suc k) t
drop_get [] k s h = let none : ⊥ = cc in absurd none
drop_get (x ∷ t) zero s h = let e : x ≡ s = cc in ap (λ y. y ∷ t) e
drop_get (x ∷ t) (suc k) s h = drop_get t k s h

drop_before : (t : List Taken) (at : ℕ) (s : Taken) → 0 < at → slice_get t (at - 1) ≡ Some s → drop (at - 1) t ≡ s ∷ drop at t
drop_before t at s p h = let e : suc (at - 1) ≡ at = omega arith in drop_get t (at - 1) s h ∙ ap (λ (k : ℕ). s ∷ drop k t) e

touches_none : (c : List Lit) (s : Taken) (t : List Taken) → has c (opposite s.lit) ≡ false → touches c t ≡ false → touches c (s ∷ t) ≡ false
touches_none c s t h k = rw h k

pub LeavesAlone-step : (t : List Taken) (c : List Lit) (at : ℕ) (s : Taken) → 0 < at → LeavesAlone t c at → slice_get t (at - 1) ≡ Some s → has c (opposite s.lit) ≡ false → LeavesAlone t c (at - 1)
LeavesAlone-step t c at s p l e h = record {
  within = let w = l.within in omega arith;
  untouched = ap (touches c) (drop_before t at s p e) ∙ touches_none c s (drop at t) h l.untouched;
}

pub IsFree-step : (t : List Taken) (c : List Lit) (at : ℕ) (s : Taken) → 0 < at → LeavesAlone t c at → slice_get t (at - 1) ≡ Some s → has c (opposite s.lit) ≡ false → s.decided ≡ true → IsFree t c (at - 1)
IsFree-step t c at s p l e h d = record {
  front = take (at - 1) t;
  decision = s;
  rest = drop at t;
  parts = sym (take-append-drop (at - 1) t) ∙ ap (λ r. take (at - 1) t ++ r) (drop_before t at s p e);
  at = length_take (at - 1) t (let w = l.within in omega arith);
  decided = d;
  untouched = touches_none c s (drop at t) h l.untouched;
}
  where
    length_take : (k : ℕ) (u : List Taken) → k ≤ length u → length (take k u) ≡ k
    length_take zero u h = refl
    length_take (suc k) [] h = absurd (omega (arith, h))
    length_take (suc k) (x ∷ u) h = let e = length_take k u (omega (arith, h)) in omega arith

pub same_among : (c d : List Lit) (l m : Lit) (r : Bool) → r ≡ has c l → c ≡ d → l ≡ m → r ≡ false → has d m ≡ false
same_among c d l m r e f g h = ap (has d) (sym g) ∙ ap (λ (u : List Lit). has u l) (sym f) ∙ sym e ∙ h

short : (r : Option Taken) → length (option_to_list r) ≤ 1
short None = omega arith
short (Some s) = omega arith

pub CutsTo-pop : (place : ℕ) (old mid now : Course) (r : Option Taken) → CutsTo place old mid → now.vars ≡ mid.vars → mid.steps ≡ now.steps ++ option_to_list r → place < length mid.steps → CutsTo place old now
CutsTo-pop place old mid now r w v e h = record {
  vars = v ∙ w.vars;
  same =
      let k : length mid.steps ≡ length (now.steps ++ option_to_list r) = ap length e in
      let j = length-append now.steps (option_to_list r) in
      let one = short r in
      sym (take-append-le place now.steps (option_to_list r) (omega arith)) ∙ ap (take place) (sym e) ∙ w.same;
}

pub CutsTo-end : (place : ℕ) (old now : Course) → CutsTo place old now → length now.steps ≤ place → now.steps ≡ take place old.steps
CutsTo-end place old now w h = sym (take_all place now.steps h) ∙ w.same

cut_front : (t : List Taken) (c : List Lit) (place : ℕ) (u : List Taken) (f : IsFree t c place) → u ≡ take place t → u ≡ f.front
cut_front t c place u f e = e ∙ ap (take place) f.parts ∙ ap (λ k. take k (f.front ++ f.decision ∷ f.rest)) (sym f.at) ∙ take-append_seam f.front (f.decision ∷ f.rest)

pub Jumps-cut : (learned : Learned) (old mid now : Course) (place : ℕ) → Jumps learned old mid → IsFree mid.steps learned.clause.items place → now.vars ≡ mid.vars → now.steps ≡ take place mid.steps → Jumps learned old now
Jumps-cut learned old mid now place j f v e = record {
  kept = λ cs first l. IsLearned-cut cs first mid now learned f.decision f.rest (j.kept cs first l) f.decided f.untouched v (f.parts ∙ ap (λ t. t ++ f.decision ∷ f.rest) (sym (cut_front mid.steps learned.clause.items place now.steps f e)));
}

pub cut_shorter : (t : List Taken) (c : List Lit) (place : ℕ) (u : List Taken) → IsFree t c place → u ≡ take place t → length u < length t
cut_shorter t c place u f e =
    let k : length t ≡ length (f.front ++ f.decision ∷ f.rest) = ap length f.parts in
    let j = length-append f.front (f.decision ∷ f.rest) in
    let s : length u ≡ length f.front = ap length (cut_front t c place u f e) in
    omega arith

-- an only literal of the last level is refuted
pub IsLearned-uip : (cs : List (List Lit)) (old mid now new : Course) (s : Taken) (learned : Learned) (place : ℕ) → Explains cs old mid learned.clause.items → learned.lit ≡ opposite s.lit → now.vars ≡ mid.vars → mid.steps ≡ now.steps ++ s ∷ [] → IsNew now.vars now.steps s → EachStep (IsNew now.vars) now.steps → IsFree now.steps learned.clause.items place → new.vars ≡ now.vars → new.steps ≡ take place now.steps → IsLearned cs old new learned
IsLearned-uip cs old mid now new s learned place x l v e it all f w g =
    let front : now.steps ≡ new.steps ++ f.decision ∷ f.rest = f.parts ∙ ap (λ t. t ++ f.decision ∷ f.rest) (sym (cut_front now.steps learned.clause.items place new.steps f g)) in
    let each : EachStep (IsNew now.vars) (new.steps ++ f.decision ∷ f.rest) = subst (λ (t : List Taken). EachStep (IsNew now.vars) t) front all in
    let force : are_false_but now.steps learned.lit learned.clause.items ≡ true = rw l (are_false-pop now.steps s learned.clause.items it.fresh (ap (λ t. are_false t learned.clause.items) (sym e) ∙ x.is_broken)) in record {
      vars = w ∙ v ∙ x.vars;
      decision = f.decision;
      rest = f.rest ++ s ∷ x.rest;
      steps = longer old.steps mid.steps now.steps s x.rest x.steps e ∙ ap (λ t. t ++ s ∷ x.rest) front ∙ append_assoc new.steps (f.decision ∷ f.rest) (s ∷ x.rest);
      decided = f.decided;
      follows = x.follows;
      in_range = rw (l, w) it.in_range;
      unknown = unknown_front new.steps (f.decision ∷ f.rest) learned.lit.var (ap (λ (t : List Taken). known t learned.lit.var) (sym front) ∙ ap (λ (m : Lit). known now.steps m.var) l ∙ it.fresh);
      forced = forced_cut now.vars new.steps (f.decision ∷ f.rest) learned.lit learned.clause.items each f.untouched (ap (λ (t : List Taken). are_false_but t learned.lit learned.clause.items) (sym front) ∙ force);
      new = subst (λ (n : ℕ). EachStep (IsNew n) new.steps) (sym w) (EachStep-prefix (IsNew now.vars) new.steps (f.decision ∷ f.rest) each);
    }
