-- Lemmas on the plain program, which tries every assignment that begins with given values.
use Rattle.std.proofs.Common.{◌≡◌, ◌<◌, ◌++◌, ◌∙◌, ℕ, List, [], ◌∷◌, Bool, true, false, IsTrue, ◌↔◌, All, length, refl, sym, ap, subst, arith, inl, inr, length-append}
use Rattle.std.proofs.lemmas.Bool.{false≢true, cases_lt, cases_eq}
use Rattle.std.proofs.lemmas.List.{same_lists, get_or_default, get_or_append_left}
use Rattle.std.proofs.Math.Seq.{get_or-append_seam}
use Rattle.std.specs.Bool.{OnTrue, OnFalse}
use Rattle.ipa_sat.specs.Formula.{Formula, Satisfies, IsBefore, IsLeast, IsUnsatisfiable, value, clause_true}
use Rattle.ipa_sat_tests.specs.Plain.{StartsWith, IsFirstWith, HasNoneWith}

-- a list and one more value
push_value : (front : List Bool) (x : Bool) → value (front ++ x ∷ []) (length front) ≡ x
push_value front x = get_or-append_seam front x [] false

push_same : (front : List Bool) (x : Bool) (v : ℕ) → v < length front → value (front ++ x ∷ []) v ≡ value front v
push_same front x v h = get_or_append_left front (x ∷ []) false v h

-- one more value that an assignment begins with, and one less
pub StartsWith-push : (front b : List Bool) (x : Bool) → StartsWith front b → value b (length front) ≡ x → StartsWith (front ++ x ∷ []) b
StartsWith-push front b x s e = record {
  same = λ v h. elim (cases_lt v (length front)) [
    | inl below ↦ s.same v below ∙ sym (push_same front x v below)
    | inr above ↦ let last : v ≡ length front = let k = length-append front (x ∷ []) in omega arith in rw last (e ∙ sym (push_value front x))
  ];
}

pub StartsWith-pop : (front b : List Bool) (x : Bool) → StartsWith (front ++ x ∷ []) b → StartsWith front b
StartsWith-pop front b x s = record { same = λ v h. s.same v (let k = length-append front (x ∷ []) in omega arith) ∙ push_same front x v h }

pub StartsWith-last : (front b : List Bool) (x : Bool) → StartsWith (front ++ x ∷ []) b → value b (length front) ≡ x
StartsWith-last front b x s = s.same (length front) (let k = length-append front (x ∷ []) in omega arith) ∙ push_value front x

-- an assignment of all variables that begins with as many values is these values
whole : (f : Formula) (front b : List Bool) → length front ≡ f.vars → Satisfies f b → StartsWith front b → b ≡ front
whole f front b e s w = same_lists b front (s.total ∙ sym e) (λ v d h.
    let there : v < length front = let k = s.total in omega arith in
    get_or_default b v d false h ∙ w.same v there ∙ get_or_default front v false d there)

-- all values are given, and they satisfy the formula
pub IsFirstWith-whole : (f : Formula) (front : List Bool) → length front ≡ f.vars → All (λ c. clause_true front c ≡ true) f.clauses → IsFirstWith f front front
IsFirstWith-whole f front e all = record {
  satisfies = record { total = e; clauses = all };
  starts = record { same = λ v h. refl };
  none_before = λ b s w first. false≢true (sym first.less ∙ ap (λ (u : List Bool). value u first.place) (whole f front b e s w) ∙ first.more);
}

-- all values are given, and they do not
pub HasNoneWith-whole : (f : Formula) (front : List Bool) → length front ≡ f.vars → (All (λ c. clause_true front c ≡ true) f.clauses → ⊥) → HasNoneWith f front
HasNoneWith-whole f front e fails = record { none = λ b s w. fails (subst (λ (u : List Bool). All (λ c. clause_true u c ≡ true) f.clauses) (whole f front b e s w) s.clauses) }

-- all values are given, and a test says whether they satisfy the formula
pub OnTrue-whole : (f : Formula) (front : List Bool) (r : Bool) → length front ≡ f.vars → (IsTrue r ↔ All (λ c. clause_true front c ≡ true) f.clauses) → OnTrue r (IsFirstWith f front front)
OnTrue-whole f front true e t = IsFirstWith-whole f front e (t.0 refl)
OnTrue-whole f front false e t = tt

pub OnFalse-whole : (f : Formula) (front : List Bool) (r : Bool) → length front ≡ f.vars → (IsTrue r ↔ All (λ c. clause_true front c ≡ true) f.clauses) → OnFalse r (HasNoneWith f front)
OnFalse-whole f front true e t = tt
OnFalse-whole f front false e t = HasNoneWith-whole f front e (λ all. false≢true (t.1 all))

-- the first with false next is the first
pub IsFirstWith-false : (f : Formula) (front a : List Bool) → IsFirstWith f (front ++ false ∷ []) a → IsFirstWith f front a
IsFirstWith-false f front a h = record {
  satisfies = h.satisfies;
  starts = StartsWith-pop front a false h.starts;
  none_before = λ b s w first. go b s w first (value b (length front)) refl;
}
  where
    low : value a (length front) ≡ false
    low = StartsWith-last front a false h.starts

    mine : StartsWith front a
    mine = StartsWith-pop front a false h.starts

    go : (b : List Bool) → Satisfies f b → StartsWith front b → IsBefore b a → (x : Bool) → value b (length front) ≡ x → ⊥
    go b s w first false e = h.none_before b s (StartsWith-push front b false w e) first
    go b s w first true e = elim (cases_lt first.place (length front)) [
      | inl before ↦ false≢true (sym first.less ∙ w.same first.place before ∙ sym (mine.same first.place before) ∙ first.more)
      | inr after ↦ elim (cases_eq first.place (length front)) [
        | inl here ↦ false≢true (sym first.less ∙ ap (value b) here ∙ e)
        | inr n ↦ false≢true (sym low ∙ sym (first.same (length front) (omega arith)) ∙ e)
      ]
    ]

-- the first with true next is the first where none has false next
pub IsFirstWith-true : (f : Formula) (front a : List Bool) → HasNoneWith f (front ++ false ∷ []) → IsFirstWith f (front ++ true ∷ []) a → IsFirstWith f front a
IsFirstWith-true f front a none h = record {
  satisfies = h.satisfies;
  starts = StartsWith-pop front a true h.starts;
  none_before = λ b s w first. go b s w first (value b (length front)) refl;
}
  where
    go : (b : List Bool) → Satisfies f b → StartsWith front b → IsBefore b a → (x : Bool) → value b (length front) ≡ x → ⊥
    go b s w first false e = none.none b s (StartsWith-push front b false w e)
    go b s w first true e = h.none_before b s (StartsWith-push front b true w e) first

-- neither value is next in any
pub HasNoneWith-both : (f : Formula) (front : List Bool) → HasNoneWith f (front ++ false ∷ []) → HasNoneWith f (front ++ true ∷ []) → HasNoneWith f front
HasNoneWith-both f front p q = record { none = λ b s w. go b s w (value b (length front)) refl }
  where
    go : (b : List Bool) → Satisfies f b → StartsWith front b → (x : Bool) → value b (length front) ≡ x → ⊥
    go b s w false e = p.none b s (StartsWith-push front b false w e)
    go b s w true e = q.none b s (StartsWith-push front b true w e)

-- every assignment begins with no values
starts_any : (b : List Bool) → StartsWith [] b
starts_any b = record { same = λ v h. absurd (omega arith) }

pub IsLeast-first : (f : Formula) (a : List Bool) → IsFirstWith f [] a → IsLeast f a
IsLeast-first f a h = record { satisfies = h.satisfies; none_before = λ b s first. h.none_before b s (starts_any b) first }

pub IsUnsatisfiable-none : (f : Formula) → HasNoneWith f [] → IsUnsatisfiable f
IsUnsatisfiable-none f h = λ b s. h.none b s (starts_any b)
