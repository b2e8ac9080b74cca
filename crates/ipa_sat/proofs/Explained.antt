-- Lemmas on the explanation of a conflict: resolvents follow, and stay false while steps are taken back.
use Rattle.std.proofs.Common.{◌≡◌, ◌++◌, ◌||◌, ◌∙◌, ℕ, List, [], ◌∷◌, Bool, true, false, not, Some, None, refl, sym, ap, inl, inr, append_assoc}
use Rattle.std.proofs.lemmas.Bool.{false≢true, and_parts, and_from, or_cases, or_left, or_right, eq-eqb, cases_eq}
use Rattle.std.proofs.Math.Dec.{eqb}
use Rattle.std.proofs.lemmas.List.Folds.{list_all-append}
use Rattle.std.specs.List.{list_all, slice_get}
use mathlib.Core.Bool.{beq}
use Rattle.ipa_sat.specs.declared.cnf.Lit.{Lit}
use Rattle.ipa_sat.specs.declared.trail.Taken.{Taken}
use Rattle.ipa_sat.specs.declared.explain.Learned.{Learned}
use Rattle.ipa_sat.specs.Trail.{Course, known, EachStep, IsNew}
use Rattle.ipa_sat.specs.Refutation.{opposite, is_same, has, is_denied, is_or_denied, broken, forced, denials, FollowsByUnits}
use Rattle.ipa_sat.specs.Looking.{falsifies, is_false, are_false, are_false_but}
use Rattle.ipa_sat.specs.Explaining.{IsReason, HasReason, Gathers, Resolves, Explains, IsLearned}
use Rattle.ipa_sat.proofs.Literals.{same_lit, is_same-refl, opposite_twice, same_is, all_weaker, or_none}
use Rattle.ipa_sat.proofs.Refuting.{Refutes-more}
use Rattle.ipa_sat.proofs.Steps.{known-push_same, known-push_other}

-- one gathering after another
pub Gathers-trans : (c d : List Lit) (but : Lit) (x y z : List Lit) → Gathers c but x y → Gathers d but y z → Gathers (c ++ d) but x z
Gathers-trans c d but x y z f g = record {
  kept = λ m h. g.kept m (f.kept m h);
  came = list_all-append (λ m. is_same but m || has z m) c d ∙ and_from (list_all (λ m. is_same but m || has z m) c) (list_all (λ m. is_same but m || has z m) d)
      (all_weaker (λ m. is_same but m || has y m) (λ m. is_same but m || has z m) c (λ m h. elim (or_cases (is_same but m) (has y m) h) [
        | inl e ↦ or_left (is_same but m) (has z m) e
        | inr k ↦ or_right (is_same but m) (has z m) (g.kept m k)
      ]) f.came) g.came;
  only = λ P all h.
      let parts = and_parts (list_all (λ m. is_same but m || P m) c) (list_all (λ m. is_same but m || P m) d) (sym (list_all-append (λ m. is_same but m || P m) c d) ∙ h) in
      g.only P (f.only P all parts.0) parts.1;
}

-- the resolvent, gathered
pub Resolves-gathered : (c r : List Lit) (l : Lit) (mid new : List Lit) → Gathers c (opposite l) [] mid → Gathers r l mid new → Resolves c r l new
Resolves-gathered c r l mid new f g = record {
  kept = all_weaker (λ m. is_same (opposite l) m || has mid m) (λ m. is_same (opposite l) m || has new m) c (λ m h. elim (or_cases (is_same (opposite l) m) (has mid m) h) [
    | inl e ↦ or_left (is_same (opposite l) m) (has new m) e
    | inr k ↦ or_right (is_same (opposite l) m) (has new m) (g.kept m k)
  ]) f.came;
  came = g.came;
  only = λ P h k. g.only P (f.only P refl h) k;
}

-- a literal of a clause is denied by its denial
pub has-denials : (c : List Lit) (m : Lit) → has c m ≡ true → has (denials c) (opposite m) ≡ true
has-denials [] m h = h
has-denials (x ∷ c) m h = elim (or_cases (is_same x m) (has c m) h) [
  | inl e ↦ or_left (is_same (opposite x) (opposite m)) (has (denials c) (opposite m)) (same_is (opposite x) (opposite m) (ap opposite (same_lit x m e)))
  | inr k ↦ or_right (is_same (opposite x) (opposite m)) (has (denials c) (opposite m)) (has-denials c m k)
]

within_denials : (B c : List Lit) → list_all (λ x. has B (opposite x)) c ≡ true → (m : Lit) → has (denials c) m ≡ true → has B m ≡ true
within_denials B [] h m k = absurd (false≢true k)
within_denials B (x ∷ c) h m k =
    let parts = and_parts (has B (opposite x)) (list_all (λ x. has B (opposite x)) c) h in
    elim (or_cases (is_same (opposite x) m) (has (denials c) m) k) [
      | inl e ↦ ap (has B) (sym (same_lit (opposite x) m e)) ∙ parts.0
      | inr j ↦ within_denials B c parts.1 m j
    ]

-- a resolvent of what follows with a clause follows
pub FollowsByUnits-resolved : (cs : List (List Lit)) (k : ℕ) (c r : List Lit) (l : Lit) (new : List Lit) → FollowsByUnits cs c → slice_get cs k ≡ Some r → Resolves c r l new → FollowsByUnits cs new
FollowsByUnits-resolved cs k c r l new rup e v =
    forced (denials new) k r l e
    (all_weaker (λ m. is_same l m || has new m) (is_or_denied (denials new) l) r (λ m h. elim (or_cases (is_same l m) (has new m) h) [
      | inl s ↦ or_left (is_same l m) (is_denied (denials new) m) s
      | inr x ↦ or_right (is_same l m) (is_denied (denials new) m) (has-denials new m x)
    ]) v.came)
    (Refutes-more cs (denials c) (l ∷ denials new) rup (record {
      all = within_denials (l ∷ denials new) c (all_weaker (λ m. is_same (opposite l) m || has new m) (λ x. has (l ∷ denials new) (opposite x)) c (λ m h. elim (or_cases (is_same (opposite l) m) (has new m) h) [
        | inl s ↦ or_left (is_same l (opposite m)) (has (denials new) (opposite m)) (same_is l (opposite m) (sym (opposite_twice l) ∙ ap opposite (same_lit (opposite l) m s)))
        | inr x ↦ or_right (is_same l (opposite m)) (has (denials new) (opposite m)) (has-denials new m x)
      ]) v.kept);
    }))

-- a clause of the formula follows
pub FollowsByUnits-clause : (cs : List (List Lit)) (k : ℕ) (c : List Lit) → slice_get cs k ≡ Some c → FollowsByUnits cs c
FollowsByUnits-clause cs k c e = broken (denials c) k c e (go c)
  where
    each : (x : List Lit) (m : Lit) → has x m ≡ true → is_denied (denials x) m ≡ true
    each x m h = has-denials x m h

    wider : (d : List Lit) (y : Lit) (x : List Lit) → list_all (is_denied (denials d)) x ≡ true → list_all (is_denied (denials (y ∷ d))) x ≡ true
    wider d y x h = all_weaker (is_denied (denials d)) (is_denied (denials (y ∷ d))) x (λ m k. or_right (is_same (opposite y) (opposite m)) (is_denied (denials d) m) k) h

    go : (x : List Lit) → list_all (is_denied (denials x)) x ≡ true
    go [] = refl
    go (y ∷ x) = and_from (is_denied (denials (y ∷ x)) y) (list_all (is_denied (denials (y ∷ x))) x) (or_left (is_same (opposite y) (opposite y)) (is_denied (denials x) y) (is_same-refl (opposite y))) (wider x y x (go x))

not_beq : (p q : Bool) → not (beq p q) ≡ true → beq (not p) q ≡ true
not_beq true true h = absurd (false≢true h)
not_beq true false h = refl
not_beq false true h = refl
not_beq false false h = absurd (false≢true h)

-- a literal that is false is the last step's opposite, or was false before
pub false_below : (t : List Taken) (s : Taken) (m : Lit) → known t s.lit.var ≡ None → is_false (t ++ s ∷ []) m ≡ true → (is_same (opposite s.lit) m || is_false t m) ≡ true
false_below t s m fresh h = elim (cases_eq m.var s.lit.var) [
  | inl e ↦
      let value : known (t ++ s ∷ []) m.var ≡ Some s.lit.positive = ap (known (t ++ s ∷ [])) e ∙ known-push_same t s fresh in
      or_left (is_same (opposite s.lit) m) (is_false t m) (and_from (eqb s.lit.var m.var) (beq (not s.lit.positive) m.positive) (eq-eqb s.lit.var m.var (sym e))
      (not_beq s.lit.positive m.positive (ap (λ o. falsifies o m.positive) (sym value) ∙ h)))
  | inr n ↦ or_right (is_same (opposite s.lit) m) (is_false t m) (ap (λ o. falsifies o m.positive) (sym (known-push_other t s m.var n)) ∙ h)
]

pub are_false-pop : (t : List Taken) (s : Taken) (c : List Lit) → known t s.lit.var ≡ None → are_false (t ++ s ∷ []) c ≡ true → are_false_but t (opposite s.lit) c ≡ true
are_false-pop t s c fresh h = all_weaker (is_false (t ++ s ∷ [])) (λ m. is_same (opposite s.lit) m || is_false t m) c (λ m k. false_below t s m fresh k) h

pub are_false-without : (t : List Taken) (l : Lit) (c : List Lit) → are_false_but t l c ≡ true → has c l ≡ false → are_false t c ≡ true
are_false-without t l [] h k = refl
are_false-without t l (m ∷ c) h k =
    let parts = and_parts (is_same l m || is_false t m) (are_false_but t l c) h in
    let none = or_none (is_same m l) (has c l) k in
    let first : is_false t m ≡ true = elim (or_cases (is_same l m) (is_false t m) parts.0) [
      | inl e ↦ absurd (false≢true (sym none.0 ∙ same_is m l (sym (same_lit l m e))))
      | inr f ↦ f
    ] in
    and_from (is_false t m) (are_false t c) first (are_false-without t l c parts.1 none.1)

pub longer : (old mid now : List Taken) (s : Taken) (rest : List Taken) → old ≡ mid ++ rest → mid ≡ now ++ s ∷ [] → old ≡ now ++ s ∷ rest
longer old mid now s rest e f = e ∙ ap (λ t. t ++ rest) f ∙ append_assoc now (s ∷ []) rest

-- a step of no concern is taken back
pub Explains-kept : (cs : List (List Lit)) (old mid now : Course) (s : Taken) (c : List Lit) → Explains cs old mid c → now.vars ≡ mid.vars → mid.steps ≡ now.steps ++ s ∷ [] → IsNew now.vars now.steps s → has c (opposite s.lit) ≡ false → Explains cs old now c
Explains-kept cs old mid now s c x v e new h = record {
  vars = v ∙ x.vars;
  rest = s ∷ x.rest;
  steps = longer old.steps mid.steps now.steps s x.rest x.steps e;
  follows = x.follows;
  is_broken = are_false-without now.steps (opposite s.lit) c (are_false-pop now.steps s c new.fresh (ap (λ t. are_false t c) (sym e) ∙ x.is_broken)) h;
}

-- a step that follows is taken back, and its reason put in its place
pub Explains-resolved : (cs : List (List Lit)) (old mid now : Course) (s : Taken) (c r next : List Lit) → Explains cs old mid c → now.vars ≡ mid.vars → mid.steps ≡ now.steps ++ s ∷ [] → IsNew now.vars now.steps s → EachStep (HasReason cs) old.steps → s.decided ≡ false → slice_get cs s.reason ≡ Some r → Resolves c r s.lit next → Explains cs old now next
Explains-resolved cs old mid now s c r next x v e new reasons d there res =
    let whole : old.steps ≡ now.steps ++ s ∷ x.rest = longer old.steps mid.steps now.steps s x.rest x.steps e in
    let reason : IsReason cs now.steps s = (reasons.each now.steps s x.rest whole).reason d in
    let same : Some r ≡ Some reason.clause = sym there ∙ reason.place in
    let is : r ≡ reason.clause = cc in record {
      vars = v ∙ x.vars;
      rest = s ∷ x.rest;
      steps = whole;
      follows = FollowsByUnits-resolved cs s.reason c r s.lit next x.follows there res;
      is_broken = res.only (is_false now.steps) (are_false-pop now.steps s c new.fresh (ap (λ t. are_false t c) (sym e) ∙ x.is_broken)) (ap (are_false_but now.steps s.lit) is ∙ reason.rest);
    }

-- a decision is refuted
pub IsLearned-decided : (cs : List (List Lit)) (old mid now : Course) (s : Taken) (learned : Learned) → Explains cs old mid learned.clause.items → learned.lit ≡ opposite s.lit → now.vars ≡ mid.vars → mid.steps ≡ now.steps ++ s ∷ [] → IsNew now.vars now.steps s → EachStep (IsNew now.vars) now.steps → s.decided ≡ true → IsLearned cs old now learned
IsLearned-decided cs old mid now s learned x l v e new all d = record {
  vars = v ∙ x.vars;
  decision = s;
  rest = x.rest;
  steps = longer old.steps mid.steps now.steps s x.rest x.steps e;
  decided = d;
  follows = x.follows;
  new = all;
  in_range = rw l new.in_range;
  unknown = rw l new.fresh;
  forced = rw l (are_false-pop now.steps s learned.clause.items new.fresh (ap (λ t. are_false t learned.clause.items) (sym e) ∙ x.is_broken));
}

-- under no steps only the clause without literals is false
pub no_literal : (c : List Lit) → are_false [] c ≡ true → c ≡ []
no_literal [] h = refl
no_literal (m ∷ c) h = absurd (false≢true h)
