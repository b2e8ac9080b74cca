-- Lemmas on the check of a refutation.
use Rattle.std.proofs.Common.{◌≡◌, ◌<◌, ◌≤◌, ◌-◌, ◌+◌, ◌++◌, ◌||◌, ◌∙◌, ◌↔◌, ℕ, List, [], ◌∷◌, Bool, true, false, not, cond, Option, Some, None, length, refl, sym, ap, subst, arith, inl, inr, length-append, min, slice_index_or, take, drop, suc, IsTrue}
use Rattle.std.proofs.lemmas.Bool.{false≢true, and_from, or_cases, or_left, or_right, eq-eqb, cases_lt, cases_eq}
use Rattle.std.proofs.lemmas.List.Folds.{list_any-append}
use Rattle.std.proofs.Math.Seq.{split_at}
use Rattle.std.proofs.lemmas.Option.{slice_get_within}
use Rattle.std.specs.List.{slice_get}
use Rattle.std.proofs.Math.Dec.{eqb}
use mathlib.Core.Bool.{beq}
use Rattle.std.specs.Bool.{OnTrue}
use Rattle.ipa_sat.specs.declared.cnf.Lit.{Lit}
use Rattle.ipa_sat.specs.declared.trail.Taken.{Taken}
use Rattle.ipa_sat.specs.Trail.{Course, implied, known, EachStep, IsNew}
use Rattle.ipa_sat.specs.Refutation.{opposite, is_same, has, is_denied, is_or_denied, Refutes, clash, broken, forced, denials, FollowsByUnits}
use Rattle.ipa_sat.specs.Looking.{falsifies, is_false, are_false, IsUnit, AtRest}
use Rattle.ipa_sat.specs.Checking.{lits, SameLiterals, Denies, DeniesMore, Clashes, HasClause, RestBetween, AreAtRest, FindsAmong, Finds, Spreads}
use Rattle.ipa_sat.specs.declared.check.Found.{Found}
use Rattle.ipa_sat.specs.declared.check.Found.TheVariants.{Empty, Takes, Rests}
use Rattle.ipa_sat.proofs.Literals.{beq_same, same_lit, is_same-refl, all_weaker, has_push, has_last}
use Rattle.ipa_sat.proofs.Refuting.{Refutes-more, Refutes-closed}
use Rattle.ipa_sat.proofs.Progressing.{none_rest, new_tail, length-le_new}
use Rattle.ipa_sat.proofs.Steps.{EachStep-push, Gives, known_given, choice_cases}
use Rattle.ipa_sat.proofs.Looking.{true_not_false}
use Rattle.std.proofs.lemmas.List.{map-append}

beq_eq : (p q : Bool) → p ≡ q → beq p q ≡ true
beq_eq p q e = ap (beq p) (sym e) ∙ beq_same p

-- the literals of the steps, and the values that they give
pub has_known : (t : List Taken) (l : Lit) → known t l.var ≡ Some l.positive → has (lits t) l ≡ true
has_known [] l h = let none : ⊥ = cc in absurd none
has_known (s ∷ t) l h = elim (choice_cases (eqb s.lit.var l.var) s.lit.positive l.positive (known t l.var) h) [
  | inl p ↦ or_left (is_same s.lit l) (has (lits t) l) (and_from (eqb s.lit.var l.var) (beq s.lit.positive l.positive) p.0 (beq_eq s.lit.positive l.positive p.1))
  | inr q ↦ or_right (is_same s.lit l) (has (lits t) l) (has_known t l q)
]

known_head : (s : Taken) (t : List Taken) → known (s ∷ t) s.lit.var ≡ Some s.lit.positive
known_head s t = ap (λ b. cond b (Some s.lit.positive) (known t s.lit.var)) (eq-eqb s.lit.var s.lit.var refl)

pub known_has : (n : ℕ) (t : List Taken) (l : Lit) → EachStep (IsNew n) t → has (lits t) l ≡ true → known t l.var ≡ Some l.positive
known_has n [] l new h = absurd (false≢true h)
known_has n (s ∷ t) l new h = elim (or_cases (is_same s.lit l) (has (lits t) l) h) [
  | inl e ↦ subst (λ (x : Lit). known (s ∷ t) x.var ≡ Some x.positive) (same_lit s.lit l e) (known_head s t)
  | inr k ↦
      let rest : known t l.var ≡ Some l.positive = known_has n t l (new_tail n s t new) k in
      let g : Gives t l.var l.positive = known_given t l.var l.positive rest in
      let other : eqb s.lit.var g.step.lit.var ≡ false = (none_rest (eqb s.lit.var g.step.lit.var) s.lit.positive (known g.before g.step.lit.var) (new.each (s ∷ g.before) g.step g.after (ap (λ r. s ∷ r) g.place)).fresh).0 in
      ap (λ b. cond b (Some s.lit.positive) (known t l.var)) (ap (eqb s.lit.var) (sym g.var) ∙ other) ∙ rest
]

pub denied_false : (t : List Taken) (m : Lit) → is_false t m ≡ true → is_denied (lits t) m ≡ true
denied_false t m h = go (known t m.var) refl h
  where
    flip : (x p : Bool) → not (beq x p) ≡ true → x ≡ not p
    flip true true h = absurd (false≢true h)
    flip true false h = refl
    flip false true h = refl
    flip false false h = absurd (false≢true h)

    go : (o : Option Bool) → known t m.var ≡ o → falsifies o m.positive ≡ true → is_denied (lits t) m ≡ true
    go None e k = absurd (false≢true k)
    go (Some x) e k = has_known t (opposite m) (e ∙ ap Some (flip x m.positive k))

pub false_denied : (n : ℕ) (t : List Taken) (m : Lit) → EachStep (IsNew n) t → is_denied (lits t) m ≡ true → is_false t m ≡ true
false_denied n t m new h = ap (λ o. falsifies o m.positive) (known_has n t (opposite m) new h) ∙ unlike m.positive
  where
    unlike : (p : Bool) → not (beq (not p) p) ≡ true
    unlike true = refl
    unlike false = refl

-- a false clause
pub Refutes-empty : (cs : List (List Lit)) (t : List Taken) → HasClause cs (λ c. are_false t c ≡ true) → Refutes cs (lits t)
Refutes-empty cs t h = broken (lits t) h.place h.clause h.at (all_weaker (is_false t) (is_denied (lits t)) h.clause (λ m k. denied_false t m k) h.holds)

-- all clauses are at rest
pub Refutes-rests : (cs : List (List Lit)) (n : ℕ) (t : List Taken) → EachStep (IsNew n) t → AreAtRest cs t → Refutes cs (lits t) → ⊥
Refutes-rests cs n t new rest r = Refutes-closed cs (lits t) (lits t) (record {
  no_clash = λ l h d. true_not_false t l (known_has n t l new h) (false_denied n t l new d);
  none_broken = λ k c e h. (rest.rests k c e).unbroken (all_weaker (is_denied (lits t)) (is_false t) c (λ m d. false_denied n t m new d) h);
  takes = λ k c l e h. has_known t l ((rest.rests k c e).forces l (all_weaker (is_or_denied (lits t) l) (λ m. is_same l m || is_false t m) c (λ m d. elim (or_cases (is_same l m) (is_denied (lits t) m) d) [
    | inl s ↦ or_left (is_same l m) (is_false t m) s
    | inr x ↦ or_right (is_same l m) (is_false t m) (false_denied n t m new x)
  ]) h));
}) r (record { all = λ l h. h })

has_lits_push : (t : List Taken) (s : Taken) (m : Lit) → has (lits (t ++ s ∷ [])) m ≡ true → (is_same s.lit m || has (lits t) m) ≡ true
has_lits_push [] s m h = h
has_lits_push (u ∷ t) s m h = elim (or_cases (is_same u.lit m) (has (lits (t ++ s ∷ [])) m) h) [
  | inl e ↦ or_right (is_same s.lit m) (is_same u.lit m || has (lits t) m) (or_left (is_same u.lit m) (has (lits t) m) e)
  | inr k ↦ elim (or_cases (is_same s.lit m) (has (lits t) m) (has_lits_push t s m k)) [
    | inl e ↦ or_left (is_same s.lit m) (is_same u.lit m || has (lits t) m) e
    | inr j ↦ or_right (is_same s.lit m) (is_same u.lit m || has (lits t) m) (or_right (is_same u.lit m) (has (lits t) m) j)
  ]
]

has_lits_kept : (t : List Taken) (s : Taken) (m : Lit) → has (lits t) m ≡ true → has (lits (t ++ s ∷ [])) m ≡ true
has_lits_kept [] s m h = absurd (false≢true h)
has_lits_kept (u ∷ t) s m h = elim (or_cases (is_same u.lit m) (has (lits t) m) h) [
  | inl e ↦ or_left (is_same u.lit m) (has (lits (t ++ s ∷ [])) m) e
  | inr k ↦ or_right (is_same u.lit m) (has (lits (t ++ s ∷ [])) m) (has_lits_kept t s m k)
]

-- a forced literal is taken
pub Spreads-takes : (cs : List (List Lit)) (n : ℕ) (old mid new : Course) (l : Lit) (k : ℕ) → Spreads cs old mid → HasClause cs (λ c. IsUnit n mid.steps c l) → new ≡ record mid { steps = mid.steps ++ implied l k ∷ [] } → Spreads cs old new
Spreads-takes cs n old mid new l k w h same =
    let e : new.steps ≡ mid.steps ++ implied l k ∷ [] = ap (λ (x : Course). x.steps) same in record {
      vars = ap (λ (x : Course). x.vars) same ∙ w.vars;
      back = λ r. w.back (forced (lits mid.steps) h.place h.clause l h.at
          (all_weaker (λ m. is_same l m || is_false mid.steps m) (is_or_denied (lits mid.steps) l) h.clause (λ m d. elim (or_cases (is_same l m) (is_false mid.steps m) d) [
            | inl s ↦ or_left (is_same l m) (is_denied (lits mid.steps) m) s
            | inr x ↦ or_right (is_same l m) (is_denied (lits mid.steps) m) (denied_false mid.steps m x)
          ]) h.holds.rest)
          (Refutes-more cs (lits (mid.steps ++ implied l k ∷ [])) (l ∷ lits mid.steps) (subst (λ (t : List Taken). Refutes cs (lits t)) e r) (record { all = λ m j. has_lits_push mid.steps (implied l k) m j })));
      on = λ m j. ap (λ (t : List Taken). has (lits t) m) e ∙ has_lits_kept mid.steps (implied l k) m (w.on m j);
    }

-- fewer variables are open
pub fewer_open : (old new : Course) (l : Lit) (k : ℕ) → EachStep (IsNew old.vars) old.steps → l.var < old.vars → known old.steps l.var ≡ None → new ≡ record old { steps = old.steps ++ implied l k ∷ [] } → new.vars - length new.steps < old.vars - length old.steps
fewer_open old new l k each r fresh e =
    let v : new.vars ≡ old.vars = ap (λ (x : Course). x.vars) e in
    let same : length new.steps ≡ length (old.steps ++ implied l k ∷ []) = ap (λ (x : Course). length x.steps) e in
    let le = length-le_new old.vars (old.steps ++ implied l k ∷ []) (EachStep-push (IsNew old.vars) old.steps (implied l k) each (record { in_range = r; fresh = fresh })) in
    let more = length-append old.steps (implied l k ∷ []) in
    omega arith

-- one more clause of a range is at rest
pub RestBetween-more : (cs : List (List Lit)) (t : List Taken) (from k : ℕ) (c : List Lit) → RestBetween cs t from k → slice_get cs k ≡ Some c → AtRest t c → RestBetween cs t from (k + 1)
RestBetween-more cs t from k c below e r = record {
  rests = λ j d low h f. elim (cases_eq j k) [
    | inl same ↦ let one : Some c ≡ Some d = sym e ∙ ap (slice_get cs) (sym same) ∙ f in let is : c ≡ d = cc in subst (λ (x : List Lit). AtRest t x) is r
    | inr n ↦ below.rests j d low (omega arith) f
  ];
}

pub RestBetween-none : (cs : List (List Lit)) (t : List Taken) (from to : ℕ) → to ≤ from → RestBetween cs t from to
RestBetween-none cs t from to le = record { rests = λ j d low h f. absurd (omega arith) }

pub RestBetween-less : (cs : List (List Lit)) (t : List Taken) (from k to : ℕ) → to ≤ k → RestBetween cs t from k → RestBetween cs t from to
RestBetween-less cs t from k to le r = record { rests = λ j d low h f. r.rests j d low (omega arith) f }

-- all clauses are at rest, those from a place on and those before
pub AreAtRest-both : (cs : List (List Lit)) (t : List Taken) (from n front : ℕ) → n ≡ length cs → front ≡ min from n → RestBetween cs t from n → RestBetween cs t 0 front → AreAtRest cs t
AreAtRest-both cs t from n front e g high low = record {
  rests = λ j d f.
      let within = slice_get_within cs j d f in elim (cases_lt j from) [
        | inl below ↦ low.rests j d (omega arith) (omega arith) f
        | inr above ↦ high.rests j d above (omega arith) f
      ];
}

-- what was found among the clauses before a place is what is found at all, where those after it are at rest
pub Finds-after : (cs : List (List Lit)) (vars : ℕ) (t : List Taken) (from n front : ℕ) (found : Found) → n ≡ length cs → front ≡ min from n → RestBetween cs t from n → FindsAmong cs vars t 0 front found → Finds cs vars t found
Finds-after cs vars t from n front Empty e g high low = low
Finds-after cs vars t from n front (Takes l k) e g high low = low
Finds-after cs vars t from n front Rests e g high low = AreAtRest-both cs t from n front e g high low

-- the literals of a list with one more at its end
has_push-cases : (A : List Lit) (x m : Lit) → has (A ++ x ∷ []) m ≡ true → (has A m || is_same x m) ≡ true
has_push-cases [] x m h = elim (or_cases (is_same x m) false h) [ inl e ↦ e | inr k ↦ absurd (false≢true k) ]
has_push-cases (y ∷ A) x m h = elim (or_cases (is_same y m) (has (A ++ x ∷ []) m) h) [
  | inl e ↦ or_left (is_same y m || has A m) (is_same x m) (or_left (is_same y m) (has A m) e)
  | inr k ↦ elim (or_cases (has A m) (is_same x m) (has_push-cases A x m k)) [
    | inl e ↦ or_left (is_same y m || has A m) (is_same x m) (or_right (is_same y m) (has A m) e)
    | inr j ↦ or_right (is_same y m || has A m) (is_same x m) j
  ]
]

has_push-to : (A B : List Lit) (x m : Lit) → (has A m ≡ true → has B m ≡ true) → has (A ++ x ∷ []) m ≡ true → has (B ++ x ∷ []) m ≡ true
has_push-to A B x m w h = elim (or_cases (has A m) (is_same x m) (has_push-cases A x m h)) [
  | inl e ↦ has_push B x m (w e)
  | inr s ↦ ap (has (B ++ x ∷ [])) (sym (same_lit x m s)) ∙ has_last B x
]

-- the denials of the part of a clause that was seen are what the trail takes
pub Denies-none : (old : Course) → old.steps ≡ [] → Denies old old []
Denies-none old e = record { vars = refl; same = rw e (record { to = λ l h. h; from = λ l h. h }) }

pub DeniesMore-taken : (mid now : Course) (l : Lit) (k : ℕ) → now ≡ record mid { steps = mid.steps ++ implied (opposite l) k ∷ [] } → DeniesMore mid now l
DeniesMore-taken mid now l k e = record {
  more = λ first seen d.
      let left : lits now.steps ≡ lits mid.steps ++ opposite l ∷ [] = ap (λ (x : Course). lits x.steps) e ∙ map-append (λ (s : Taken). s.lit) mid.steps (implied (opposite l) k ∷ []) in
      let right : denials (seen ++ l ∷ []) ≡ denials seen ++ opposite l ∷ [] = map-append opposite seen (l ∷ []) in record {
        vars = ap (λ (x : Course). x.vars) e ∙ d.vars;
        same = rw (left, right) (record {
          to = λ m h. has_push-to (lits mid.steps) (denials seen) (opposite l) m (d.same.to m) h;
          from = λ m h. has_push-to (denials seen) (lits mid.steps) (opposite l) m (d.same.from m) h;
        });
      };
}

-- a value that is not the sign of a literal is that of its opposite
other_sign : (x p : Bool) → beq x p ≡ false → x ≡ not p
other_sign true true h = absurd (false≢true (sym h))
other_sign true false h = refl
other_sign false true h = refl
other_sign false false h = absurd (false≢true (sym h))

DeniesMore-again : (now : Course) (l : Lit) (x : Bool) → Some x ≡ known now.steps l.var → beq x l.positive ≡ false → DeniesMore now now l
DeniesMore-again now l x e h = record {
  more = λ first seen d.
      let right : denials (seen ++ l ∷ []) ≡ denials seen ++ opposite l ∷ [] = map-append opposite seen (l ∷ []) in
      let there : has (lits now.steps) (opposite l) ≡ true = has_known now.steps (opposite l) (sym e ∙ ap Some (other_sign x l.positive h)) in record {
        vars = d.vars;
        same = rw right (record {
          to = λ m k. has_push (denials seen) (opposite l) m (d.same.to m k);
          from = λ m k. elim (or_cases (has (denials seen) m) (is_same (opposite l) m) (has_push-cases (denials seen) (opposite l) m k)) [
            | inl j ↦ d.same.from m j
            | inr s ↦ ap (has (lits now.steps)) (sym (same_lit (opposite l) m s)) ∙ there
          ];
        });
      };
}

pub DeniesMore-known : (now : Course) (l : Lit) (x : Bool) → Some x ≡ known now.steps l.var → OnTrue (not (beq x l.positive)) (DeniesMore now now l)
DeniesMore-known now l x e = go (beq x l.positive) refl
  where
    go : (b : Bool) → beq x l.positive ≡ b → OnTrue (not b) (DeniesMore now now l)
    go true h = tt
    go false h = DeniesMore-again now l x e h

has_append-left : (A B : List Lit) (m : Lit) → has A m ≡ true → has (A ++ B) m ≡ true
has_append-left A B m h = list_any-append (λ x. is_same x m) A B ∙ or_left (has A m) (has B m) h

has_append-right : (A B : List Lit) (m : Lit) → has B m ≡ true → has (A ++ B) m ≡ true
has_append-right A B m h = list_any-append (λ x. is_same x m) A B ∙ or_right (has A m) (has B m) h

-- a clause with a literal whose opposite was seen
pub Clashes-seen : (old now : Course) (c : List Lit) (i : ℕ) (l : Lit) → Denies old now (take i c) → i < length c → l ≡ slice_index_or c i (record { var = 0; positive = false }) → known now.steps l.var ≡ Some l.positive → Clashes (denials c)
Clashes-seen old now c i l d h at e =
    let whole : denials c ≡ denials (take i c) ++ opposite l ∷ denials (drop (suc i) c) =
    ap denials (split_at c i (record { var = 0; positive = false }) h)
    ∙ map-append opposite (take i c) (slice_index_or c i (record { var = 0; positive = false }) ∷ drop (suc i) c)
    ∙ ap (λ (x : Lit). denials (take i c) ++ opposite x ∷ denials (drop (suc i) c)) (sym at) in record {
      lit = l;
      there = rw whole (has_append-left (denials (take i c)) (opposite l ∷ denials (drop (suc i) c)) l (d.same.to l (has_known now.steps l e)));
      denied = rw whole (has_append-right (denials (take i c)) (opposite l ∷ denials (drop (suc i) c)) (opposite l) (or_left (is_same (opposite l) (opposite l)) (has (denials (drop (suc i) c)) (opposite l)) (is_same-refl (opposite l))));
    }

-- the trail that denies a clause refutes where the clause follows by units
pub follows_denied : (cs : List (List Lit)) (t : List Taken) (c : List Lit) (shown : Bool) → SameLiterals (lits t) (denials c) → (IsTrue shown ↔ Refutes cs (lits t)) → (IsTrue shown ↔ FollowsByUnits cs c)
follows_denied cs t c shown s r = (λ h. Refutes-more cs (lits t) (denials c) (r.0 h) (record { all = s.to }), λ f. r.1 (Refutes-more cs (denials c) (lits t) f (record { all = s.from })))

pub follows_clash : (cs : List (List Lit)) (c : List Lit) → Clashes (denials c) → FollowsByUnits cs c
follows_clash cs c h = clash (denials c) h.lit h.there h.denied
