-- Lemmas on clauses that follow from clauses by units, and on formulas that grow by them.
use Rattle.std.proofs.Common.{◌≡◌, ◌<◌, ◌++◌, ◌∙◌, ℕ, List, [], ◌∷◌, Bool, true, Option, Some, None, length, refl, sym, ap, subst, arith, append_assoc, length-append, slice_index_or, drop, suc, zero, IfSome, IfNone}
use Rattle.std.proofs.lemmas.Bool.{false≢true}
use Rattle.std.proofs.lemmas.List.{append-nil, get_or_append_left}
use Rattle.std.proofs.lemmas.Option.{slice_get-get_or}
use Rattle.ipa_sat.specs.declared.refutation.Step.{Step}
use Rattle.ipa_sat.specs.Answers.{IsShown}
use Rattle.std.proofs.Math.Seq.{drop-append_seam}
use Rattle.std.specs.List.{slice_get}
use Rattle.ipa_sat.specs.declared.cnf.Lit.{Lit}
use Rattle.ipa_sat.specs.declared.trail.Taken.{Taken}
use Rattle.ipa_sat.specs.Formula.{Formula, Satisfies, IsLeast, IsUnsatisfiable, IsInRange, clause_true}
use Rattle.ipa_sat.specs.Trail.{Course, EachStep}
use Rattle.ipa_sat.specs.Refutation.{FollowsByUnits, AreDerived, IsRefutation, clauses_of}
use Rattle.ipa_sat.specs.Explaining.{IsReason, HasReason}
use Rattle.ipa_sat.specs.Search.{Entails, IsStep, IsSound, IsReasoned}
use Rattle.ipa_sat.specs.Learning.{GrowsTo, IsRefutedBy}
use Rattle.ipa_sat.proofs.Refuting.{FollowsByUnits-entailed}
use Rattle.ipa_sat.proofs.Soundness.{clause_at}

-- the clauses of a longer list
pub slice_get-front : {X : Type 0} → (xs ys : List X) (k : ℕ) (x : X) → slice_get xs k ≡ Some x → slice_get (xs ++ ys) k ≡ Some x
slice_get-front [] ys k x e = let none : ⊥ = cc in absurd none
slice_get-front (y ∷ xs) ys zero x e = e
slice_get-front (y ∷ xs) ys (suc k) x e = slice_get-front xs ys k x e

pub slice_get-last : {X : Type 0} → (xs : List X) (x : X) → slice_get (xs ++ x ∷ []) (length xs) ≡ Some x
slice_get-last [] x = refl
slice_get-last (y ∷ xs) x = slice_get-last xs x

-- clauses that an assignment makes true, each by its place
pub record AreTrue (b : List Bool) (cs : List (List Lit)) : Type 0 where
  pub each : (k : ℕ) (c : List Lit) → slice_get cs k ≡ Some c → clause_true b c ≡ true

AreTrue-push : (b : List Bool) (cs : List (List Lit)) (c : List Lit) → AreTrue b cs → clause_true b c ≡ true → AreTrue b (cs ++ c ∷ [])
AreTrue-push b cs c t h = record { each = go cs t.each }
  where
    go : (ds : List (List Lit)) → ((k : ℕ) (d : List Lit) → slice_get ds k ≡ Some d → clause_true b d ≡ true) → (k : ℕ) (d : List Lit) → slice_get (ds ++ c ∷ []) k ≡ Some d → clause_true b d ≡ true
    go [] u zero d e = let same : c ≡ d = cc in ap (clause_true b) (sym same) ∙ h
    go [] u (suc k) d e = let none : ⊥ = cc in absurd none
    go (x ∷ ds) u zero d e = u zero d e
    go (x ∷ ds) u (suc k) d e = go ds (λ j. u (suc j)) k d e

-- derived clauses: none, one more in front, and what that says of the first and the others
pub AreDerived-none : (cs : List (List Lit)) → AreDerived cs []
AreDerived-none cs = record { each = λ before x after e. elim before as (λ b. [] ≡ b ++ x ∷ after → FollowsByUnits (cs ++ b) x) [ [] ↦ λ h. let none : ⊥ = cc in absurd none | y ∷ ys ↦ λ h. let none : ⊥ = cc in absurd none ] e }

AreDerived-cons : (cs : List (List Lit)) (c : List Lit) (rest : List (List Lit)) → FollowsByUnits cs c → AreDerived (cs ++ c ∷ []) rest → AreDerived cs (c ∷ rest)
AreDerived-cons cs c rest h d = record { each = go }
  where
    go : (before : List (List Lit)) (x : List Lit) (after : List (List Lit)) → c ∷ rest ≡ before ++ x ∷ after → FollowsByUnits (cs ++ before) x
    go [] x after e =
        let same : c ≡ x = cc in
        subst (λ (y : List Lit). FollowsByUnits (cs ++ []) y) same (subst (λ (u : List (List Lit)). FollowsByUnits u c) (sym (append-nil cs)) h)
    go (y ∷ before) x after e =
        let head : c ≡ y = cc in
        let tail : rest ≡ before ++ x ∷ after = cc in
        subst (λ (z : List Lit). FollowsByUnits (cs ++ z ∷ before) x) head (subst (λ (u : List (List Lit)). FollowsByUnits u x) (append_assoc cs (c ∷ []) before) (d.each before x after tail))

AreDerived-head : (cs : List (List Lit)) (c : List Lit) (rest : List (List Lit)) → AreDerived cs (c ∷ rest) → FollowsByUnits cs c
AreDerived-head cs c rest d = subst (λ (u : List (List Lit)). FollowsByUnits u c) (append-nil cs) (d.each [] c rest refl)

AreDerived-tail : (cs : List (List Lit)) (c : List Lit) (rest : List (List Lit)) → AreDerived cs (c ∷ rest) → AreDerived (cs ++ c ∷ []) rest
AreDerived-tail cs c rest d = record {
  each = λ before x after e. subst (λ (u : List (List Lit)). FollowsByUnits u x) (sym (append_assoc cs (c ∷ []) before)) (d.each (c ∷ before) x after (ap (λ (u : List (List Lit)). c ∷ u) e));
}

-- a single one
pub AreDerived-one : (cs : List (List Lit)) (c : List Lit) → FollowsByUnits cs c → AreDerived cs (c ∷ [])
AreDerived-one cs c h = AreDerived-cons cs c [] h (AreDerived-none (cs ++ c ∷ []))

-- one list after another
pub AreDerived-append : (cs rs ss : List (List Lit)) → AreDerived cs rs → AreDerived (cs ++ rs) ss → AreDerived cs (rs ++ ss)
AreDerived-append cs [] ss d e = subst (λ (u : List (List Lit)). AreDerived u ss) (append-nil cs) e
AreDerived-append cs (c ∷ rs) ss d e =
    AreDerived-cons cs c (rs ++ ss) (AreDerived-head cs c rs d)
    (AreDerived-append (cs ++ c ∷ []) rs ss (AreDerived-tail cs c rs d) (subst (λ (u : List (List Lit)). AreDerived u ss) (sym (append_assoc cs (c ∷ []) rs)) e))

-- what makes the clauses true makes those that are derived true
AreTrue-derived : (b : List Bool) (cs ss : List (List Lit)) → AreTrue b cs → AreDerived cs ss → AreTrue b (cs ++ ss)
AreTrue-derived b cs [] t d = subst (λ (u : List (List Lit)). AreTrue b u) (sym (append-nil cs)) t
AreTrue-derived b cs (c ∷ ss) t d =
    subst (λ (u : List (List Lit)). AreTrue b u) (append_assoc cs (c ∷ []) ss)
    (AreTrue-derived b (cs ++ c ∷ []) ss (AreTrue-push b cs c t (FollowsByUnits-entailed cs b t.each c (AreDerived-head cs c ss d))) (AreDerived-tail cs c ss d))

AreTrue-satisfied : (f : Formula) (b : List Bool) → Satisfies f b → AreTrue b f.clauses
AreTrue-satisfied f b s = record { each = λ k c e. clause_at f b s k c e }

-- a refutation is sound
pub IsUnsatisfiable-refutation : (f : Formula) (steps : List (List Lit)) → IsRefutation f.clauses steps → IsUnsatisfiable f
IsUnsatisfiable-refutation f steps r = λ b s.
    let whole : AreTrue b (f.clauses ++ steps) = AreTrue-derived b f.clauses steps (AreTrue-satisfied f b s) r.derived in
    let ends : f.clauses ++ steps ≡ (f.clauses ++ r.ends.front) ++ [] ∷ [] = ap (λ u. f.clauses ++ u) r.ends.last ∙ sym (append_assoc f.clauses r.ends.front ([] ∷ [])) in
    false≢true (whole.each (length (f.clauses ++ r.ends.front)) [] (ap (λ u. slice_get u (length (f.clauses ++ r.ends.front))) ends ∙ slice_get-last (f.clauses ++ r.ends.front) []))

-- a formula grows by nothing, by one clause, or by one growth after another
pub GrowsTo-refl : (f : Formula) → GrowsTo f f
GrowsTo-refl f = record { learned = []; vars = refl; clauses = sym (append-nil f.clauses); derived = AreDerived-none f.clauses }

pub GrowsTo-one : (f g : Formula) (c : List Lit) → g ≡ record f { clauses = f.clauses ++ c ∷ [] } → FollowsByUnits f.clauses c → GrowsTo f g
GrowsTo-one f g c e h = record {
  learned = c ∷ [];
  vars = ap (λ (x : Formula). x.vars) e;
  clauses = ap (λ (x : Formula). x.clauses) e;
  derived = AreDerived-one f.clauses c h;
}

pub GrowsTo-trans : (f g h : Formula) → GrowsTo f g → GrowsTo g h → GrowsTo f h
GrowsTo-trans f g h p q = record {
  learned = p.learned ++ q.learned;
  vars = q.vars ∙ p.vars;
  clauses = q.clauses ∙ ap (λ u. u ++ q.learned) p.clauses ∙ append_assoc f.clauses p.learned q.learned;
  derived = AreDerived-append f.clauses p.learned q.learned p.derived (subst (λ (u : List (List Lit)). AreDerived u q.learned) p.clauses q.derived);
}

-- what satisfies the grown formula satisfies the formula
pub Satisfies-back : (f g : Formula) (b : List Bool) → GrowsTo f g → Satisfies g b → Satisfies f b
Satisfies-back f g b w s = record {
  total = s.total ∙ w.vars;
  clauses = λ k d h.
      let there : k < length g.clauses = let e = ap length w.clauses in let l = length-append f.clauses w.learned in omega arith in
      let same : slice_index_or g.clauses k d ≡ slice_index_or f.clauses k d = ap (λ (u : List (List Lit)). slice_index_or u k d) w.clauses ∙ get_or_append_left f.clauses w.learned d k h in
      ap (clause_true b) (sym same) ∙ s.clauses k d there;
}

-- and the other way round
pub Satisfies-grown : (f g : Formula) (b : List Bool) → GrowsTo f g → Satisfies f b → Satisfies g b
Satisfies-grown f g b w s =
    let all : AreTrue b g.clauses = subst (λ (u : List (List Lit)). AreTrue b u) (sym w.clauses) (AreTrue-derived b f.clauses w.learned (AreTrue-satisfied f b s) w.derived) in record {
      total = s.total ∙ sym w.vars;
      clauses = λ k x h. all.each k (slice_index_or g.clauses k x) (slice_get-get_or g.clauses k x h);
    }

-- the first assignment stays the first
pub IsLeast-back : (f g : Formula) (a : List Bool) → GrowsTo f g → IsLeast g a → IsLeast f a
IsLeast-back f g a w l = record { satisfies = Satisfies-back f g a w l.satisfies; none_before = λ b s first. l.none_before b (Satisfies-grown f g b w s) first }

-- what was entailed is
pub Entails-grown : (f g : Formula) (t : List Taken) (l : Lit) → GrowsTo f g → Entails f t l → Entails g t l
Entails-grown f g t l w e = record { holds = λ b s k. e.holds b (Satisfies-back f g b w s) k }

-- a sound course stays sound
pub IsSound-grown : (f g : Formula) (course : Course) → GrowsTo f g → IsSound f course → IsSound g course
IsSound-grown f g course w sound = record {
  vars = sound.vars ∙ sym w.vars;
  steps = record {
    each = λ before s after e. let step : IsStep f before s = sound.steps.each before s after e in record { choice = step.choice; entailed = λ d. Entails-grown f g before s.lit w (step.entailed d) };
  };
}

-- reasons stay reasons
pub reasons-grown : (f g : Formula) (t : List Taken) → GrowsTo f g → EachStep (HasReason f.clauses) t → EachStep (HasReason g.clauses) t
reasons-grown f g t w r = record {
  each = λ before s after e. record {
    reason = λ d. let old : IsReason f.clauses before s = (r.each before s after e).reason d in record {
      clause = old.clause;
      place = ap (λ (u : List (List Lit)). slice_get u s.reason) w.clauses ∙ slice_get-front f.clauses w.learned s.reason old.clause old.place;
      rest = old.rest;
    };
  };
}

pub IsReasoned-grown : (f g : Formula) (course : Course) → GrowsTo f g → IsReasoned f course → IsReasoned g course
IsReasoned-grown f g course w r = record { sound = IsSound-grown f g course w r.sound; reasons = reasons-grown f g course.steps w r.reasons }

-- what refutes the grown formula refutes the formula
pub IsRefutedBy-same : (f g : Formula) → g ≡ f → FollowsByUnits f.clauses [] → IsRefutedBy f g
IsRefutedBy-same f g e h = record { grows = subst (λ (x : Formula). GrowsTo f x) (sym e) (GrowsTo-refl f); refuted = subst (λ (x : Formula). FollowsByUnits x.clauses []) (sym e) h }

pub IsRefutedBy-trans : (f g h : Formula) → GrowsTo f g → IsRefutedBy g h → IsRefutedBy f h
IsRefutedBy-trans f g h w r = record { grows = GrowsTo-trans f g h w r.grows; refuted = r.refuted }

-- the clauses by which a formula has grown, and the empty one, refute it
pub IsRefutation-grown : (f g : Formula) (w : IsRefutedBy f g) → IsRefutation f.clauses (w.grows.learned ++ [] ∷ [])
IsRefutation-grown f g w = record {
  derived = AreDerived-append f.clauses w.grows.learned ([] ∷ []) w.grows.derived (AreDerived-one (f.clauses ++ w.grows.learned) [] (subst (λ (u : List (List Lit)). FollowsByUnits u []) w.grows.clauses w.refuted));
  ends = record { front = w.grows.learned; last = refl };
}

pub IsUnsatisfiable-grown : (f g : Formula) → IsRefutedBy f g → IsUnsatisfiable f
IsUnsatisfiable-grown f g w = IsUnsatisfiable-refutation f (w.grows.learned ++ [] ∷ []) (IsRefutation-grown f g w)

-- answers to the grown formula are answers to the formula
pub IfSome-grown : {X : Type 0} → (f g : Formula) → GrowsTo f g → (answer : Option X) (items : X → List Bool) → IfSome answer (λ a. IsLeast g (items a)) → IfSome answer (λ a. IsLeast f (items a))
IfSome-grown f g w None items h = h
IfSome-grown f g w (Some a) items h = IsLeast-back f g (items a) w h

pub IfNone-grown : {X : Type 0} → (f g h : Formula) → GrowsTo f g → (answer : Option X) → IfNone answer (IsRefutedBy g h) → IfNone answer (IsRefutedBy f h)
IfNone-grown f g h w None r = IsRefutedBy-trans f g h w r
IfNone-grown f g h w (Some a) r = r

pub IfNone-refuted : {X : Type 0} → (f copy g : Formula) → copy ≡ f → (answer : Option X) → IfNone answer (IsRefutedBy copy g) → IfNone answer (IsUnsatisfiable f)
IfNone-refuted f copy g e None r = IsUnsatisfiable-grown f g (subst (λ (x : Formula). IsRefutedBy x g) e r)
IfNone-refuted f copy g e (Some a) r = r

-- the steps are the clauses by which the formula has grown, and the empty one
pub IsShown-steps : (f copy g : Formula) (steps : List Step) (n : ℕ) → copy ≡ f → IsRefutedBy copy g → n ≡ length f.clauses → IsInRange g.vars (clauses_of steps) → clauses_of steps ≡ drop n g.clauses ++ [] ∷ [] → IsShown f steps
IsShown-steps f copy g steps n e r at range is =
    let w : IsRefutedBy f g = subst (λ (x : Formula). IsRefutedBy x g) e r in
    let rest : drop n g.clauses ≡ w.grows.learned = ap (λ (k : ℕ). drop k g.clauses) at ∙ ap (λ u. drop (length f.clauses) u) w.grows.clauses ∙ drop-append_seam f.clauses w.grows.learned in
    let same : w.grows.learned ++ [] ∷ [] ≡ clauses_of steps = sym (is ∙ ap (λ u. u ++ [] ∷ []) rest) in record {
      refutation = subst (λ (u : List (List Lit)). IsRefutation f.clauses u) same (IsRefutation-grown f g w);
      in_range = subst (λ (k : ℕ). IsInRange k (clauses_of steps)) w.grows.vars range;
      unsatisfiable = IsUnsatisfiable-grown f g w;
    }
