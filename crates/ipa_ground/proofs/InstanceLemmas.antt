-- Values that are filled variable by variable, and clauses that are kept one after the other.
use Rattle.std.proofs.Common.{◌≡◌, ℕ, zero, suc, ◌+◌, ◌<◌, ◌≤◌, ◌≢◌, Bool, true, List, [], ◌∷◌, length, map, take, drop, Some, refl, sym, ap, ◌∙◌, subst, arith, inl, inr, slice_get, set}
use Rattle.std.specs.List.{slice_index}
use Rattle.std.proofs.lemmas.Bool.{cases_lt}
use Rattle.std.proofs.lemmas.List.{get_or-set_other, get_or-set_same, length-set, length-map, length-take-le, drop_all, drop_more, get_or-take}
use Rattle.std.proofs.lemmas.List.Elements.{length_all_zip}
use Rattle.std.proofs.lemmas.Grind.{same_number_lists}
use Rattle.std.proofs.lemmas.Option.{slice_get_within, get_or_from_slice_get, same_Some}
use Rattle.ipa_spec.specs.declared.predicates.Var.{Var}
use Rattle.ipa_spec.specs.Actions.{sorts_of_vars}
use Rattle.ipa_spec.specs.declared.specification.Specification.{Specification}
use Rattle.ipa_spec.specs.declared.clauses.Clause.{Clause}
use Rattle.ipa_logic.specs.ClauseLaws.{KeepBelow, keep-none, keep-next, keep-all}
use Rattle.ipa_logic.specs.Facts.{Universe, size_of}
use Rattle.ipa_logic.specs.Truth.{IsOver, instance_true, KeepsClause}
use Rattle.ipa_sat.specs.Formula.{Formula, Satisfies}
use Rattle.ipa_ground.specs.Enumeration.{facts_over, IsTuple}
use Rattle.ipa_ground.specs.Instances.{filled, IsRest, FillsOver, PassesFrom, PassesBelow}
use Rattle.ipa_ground.specs.ListLaws.{replicate-zero}
use Rattle.ipa_spec.specs.Fits.{IsFit}
use Rattle.ipa_ground.proofs.FormulaLemmas.{narrows-same, narrows-further}
use Rattle.ipa_ground.specs.Grounding.{test_of, Narrows, Grounds}
use Rattle.ipa_ground.specs.GroundingSteps.{GroundsFrom, GroundsInstance}

-- filling leaves what stands before and behind
length-filled : (at : ℕ) (values rest : List ℕ) → length (filled at values rest) ≡ length values
length-filled at values [] = refl
length-filled at values (x ∷ rest) = length-filled (at + 1) (set values at x) rest ∙ length-set values at x

filled-before : (at : ℕ) (values rest : List ℕ) (k : ℕ) → k < at → slice_index (filled at values rest) k ≡ slice_index values k
filled-before at values [] k l = refl
filled-before at values (x ∷ rest) k l = filled-before (at + 1) (set values at x) rest k (omega arith) ∙ (let other : k ≢ at = omega arith in get_or-set_other values at k x 0 other)

filled-past : (at : ℕ) (values rest : List ℕ) (k : ℕ) → at + length rest ≤ k → slice_index (filled at values rest) k ≡ slice_index values k
filled-past at values [] k l = refl
filled-past at values (x ∷ rest) k l = filled-past (at + 1) (set values at x) rest k (omega arith) ∙ (let other : k ≢ at = omega arith in get_or-set_other values at k x 0 other)

-- and puts the elements between
filled-in : (at : ℕ) (values rest : List ℕ) (j : ℕ) → j < length rest → at + length rest ≤ length values → slice_index (filled at values rest) (at + j) ≡ slice_index rest j
filled-in at values [] j l w = absurd (omega arith)
filled-in at values (x ∷ rest) zero l w =
    ap (slice_index (filled (at + 1) (set values at x) rest)) (omega arith)
    ∙ (filled-before (at + 1) (set values at x) rest at (omega arith) ∙ get_or-set_same values at x 0 (omega arith))
filled-in at values (x ∷ rest) (suc j) l w =
    ap (slice_index (filled (at + 1) (set values at x) rest)) (omega arith)
    ∙ filled-in (at + 1) (set values at x) rest j (omega arith) (omega (arith, length-set values at x))

module _ (universe : Universe) (sorts : List ℕ) where
  abbrev sizes_from : ℕ → List ℕ
  sizes_from at = map (size_of universe) (drop at sorts)

  -- the sizes from a variable on
  sizes-next : (at sort : ℕ) → slice_get sorts at ≡ Some sort → sizes_from at ≡ size_of universe sort ∷ sizes_from (at + 1)
  sizes-next at sort e =
      ap (map (size_of universe)) (drop_more sorts at 0 (slice_get_within sorts at sort e)) ∙ ap (λ s. size_of universe s ∷ sizes_from (at + 1)) (get_or_from_slice_get sorts at sort 0 e)

  sizes-done : (at : ℕ) → length sorts ≤ at → sizes_from at ≡ []
  sizes-done at l = ap (map (size_of universe)) (drop_all at sorts l)

  rest-next : (at sort x : ℕ) (rest : List ℕ) → slice_get sorts at ≡ Some sort → x < size_of universe sort → IsRest universe sorts (at + 1) rest → IsRest universe sorts at (x ∷ rest)
  rest-next at sort x rest e l r = subst (λ sizes. IsTuple sizes (x ∷ rest)) (sym (sizes-next at sort e)) (l, r)

  rest-parts : (at sort x : ℕ) (rest : List ℕ) → slice_get sorts at ≡ Some sort → IsRest universe sorts at (x ∷ rest) → (x < size_of universe sort) × IsRest universe sorts (at + 1) rest
  rest-parts at sort x rest e r = let parts : IsTuple (size_of universe sort ∷ sizes_from (at + 1)) (x ∷ rest) = subst (λ sizes. IsTuple sizes (x ∷ rest)) (sizes-next at sort e) r in (parts.0, parts.1)

  -- one more variable has an element
  pub fills-next : (at sort x : ℕ) (values : List ℕ) → slice_get sorts at ≡ Some sort → x < size_of universe sort → FillsOver universe sorts at values → FillsOver universe sorts (at + 1) (set values at x)
  fills-next at sort x values e l h = record { over = λ rest r. h.over (x ∷ rest) (rest-next at sort x rest e l r) }

  -- all have one
  pub fills-done : (at : ℕ) (values : List ℕ) → length sorts ≤ at → FillsOver universe sorts at values → IsOver universe sorts values
  fills-done at values l h = h.over [] (subst (λ sizes. IsTuple sizes []) (sym (sizes-done at l)) tt)

  -- four values, all open
  pub fills-none : length sorts ≤ 4 → FillsOver universe sorts 0 (0 ∷ 0 ∷ 0 ∷ 0 ∷ [])
  fills-none short = record {
    over = λ rest r.
        let long : length rest ≡ length sorts = sym (length_all_zip (λ size x. x < size) (sizes_from 0) rest r) ∙ length-map sorts (size_of universe) in
        record {
          elements = λ v sort e. let inside = slice_get_within sorts v sort e in
              subst (λ x. x < size_of universe sort) (sym (ap (slice_index (filled 0 (0 ∷ 0 ∷ 0 ∷ 0 ∷ []) rest)) (omega arith) ∙ filled-in 0 (0 ∷ 0 ∷ 0 ∷ 0 ∷ []) rest v (omega arith) (omega arith)))
              (below sorts rest v sort e r);
          unused = λ v past. filled-past 0 (0 ∷ 0 ∷ 0 ∷ 0 ∷ []) rest v (omega arith) ∙ replicate-zero 4 v;
          width = length-filled 0 (0 ∷ 0 ∷ 0 ∷ 0 ∷ []) rest;
        };
  }
    where
      below : (sorts rest : List ℕ) (v sort : ℕ) → slice_get sorts v ≡ Some sort → IsTuple (map (size_of universe) sorts) rest → slice_index rest v < size_of universe sort
      below [] rest v sort e r = cc
      below (s ∷ sorts) [] v sort e r = absurd r
      below (s ∷ sorts) (x ∷ rest) zero sort e r = subst (λ (q : ℕ). x < size_of universe q) (same_Some s sort e) r.0
      below (s ∷ sorts) (x ∷ rest) (suc v) sort e r = below sorts rest v sort e r.1

  -- values over the universe are these four, filled
  pub over-filled : (values : List ℕ) → length sorts ≤ 4 → IsOver universe sorts values → (IsRest universe sorts 0 (take (length sorts) values)) × (filled 0 (0 ∷ 0 ∷ 0 ∷ 0 ∷ []) (take (length sorts) values) ≡ values)
  over-filled values short o =
      let count : length (take (length sorts) values) ≡ length sorts = length-take-le (length sorts) values (omega (arith, o.width)) in (
        rest sorts values (λ v sort e. o.elements v sort e) (omega (arith, o.width)),
        same_number_lists (filled 0 (0 ∷ 0 ∷ 0 ∷ 0 ∷ []) (take (length sorts) values)) values (length-filled 0 (0 ∷ 0 ∷ 0 ∷ 0 ∷ []) (take (length sorts) values) ∙ sym o.width) (λ k l. elim (cases_lt k (length sorts)) [
          | inl used ↦ (ap (slice_index (filled 0 (0 ∷ 0 ∷ 0 ∷ 0 ∷ []) (take (length sorts) values))) (omega arith)
              ∙ (filled-in 0 (0 ∷ 0 ∷ 0 ∷ 0 ∷ []) (take (length sorts) values) k (omega arith) (omega arith) ∙ get_or-take (length sorts) values k 0 used))
          | inr past ↦ (filled-past 0 (0 ∷ 0 ∷ 0 ∷ 0 ∷ []) (take (length sorts) values) k (omega arith) ∙ (replicate-zero 4 k ∙ sym (o.unused k past)))
        ]),
      )
    where
      rest : (sorts values : List ℕ) → ((v sort : ℕ) → slice_get sorts v ≡ Some sort → slice_index values v < size_of universe sort) → length sorts ≤ length values → IsTuple (map (size_of universe) sorts) (take (length sorts) values)
      rest [] values h l = tt
      rest (s ∷ sorts) [] h l = absurd (omega arith)
      rest (s ∷ sorts) (x ∷ values) h l = (h 0 s refl, rest sorts values (λ v sort e. h (suc v) sort e) (omega arith))

  module _ (p : List ℕ → Bool) where
    pub passes-done : (at : ℕ) (values : List ℕ) → length sorts ≤ at → p values ≡ true → PassesFrom p universe sorts at values
    passes-done at values l t = record { passes = λ rest r. alone rest (subst (λ sizes. IsTuple sizes rest) (sizes-done at l) r) }
      where
        alone : (rest : List ℕ) → IsTuple [] rest → p (filled at values rest) ≡ true
        alone [] r = t
        alone (x ∷ rest) r = absurd r

    pub below-none : (at : ℕ) (values : List ℕ) → PassesBelow p universe sorts at values 0
    below-none at values = record { passes = λ x rest l r. absurd (omega arith) }

    pub below-next : (at sort bound : ℕ) (values : List ℕ) → slice_get sorts at ≡ Some sort → PassesBelow p universe sorts at values bound
        → PassesFrom p universe sorts (at + 1) (set values at bound) → PassesBelow p universe sorts at values (bound + 1)
    below-next at sort bound values e b f = record {
      passes = λ x rest l r. elim (cases_lt x bound) [
        | inl lt ↦ b.passes x rest lt r
        | inr ge ↦ (let same : bound ≡ x = omega arith in
            let parts = rest-parts at sort x rest e r in
            subst (λ (y : ℕ). p (filled (at + 1) (set values at y) rest) ≡ true) same (f.passes rest parts.1))
      ];
    }

    pub passes-all : (at sort bound : ℕ) (values : List ℕ) → slice_get sorts at ≡ Some sort → size_of universe sort ≤ bound → PassesBelow p universe sorts at values bound → PassesFrom p universe sorts at values
    passes-all at sort bound values e l b = record { passes = some }
      where
        some : (rest : List ℕ) → IsRest universe sorts at rest → p (filled at values rest) ≡ true
        some [] r = let none : IsTuple (size_of universe sort ∷ sizes_from (at + 1)) [] = subst (λ sizes. IsTuple sizes []) (sizes-next at sort e) r in absurd none
        some (x ∷ rest) r = let parts = rest-parts at sort x rest e r in b.passes x rest (omega (arith, parts.0)) r

module _ (s : Specification) (universe : Universe) (first : ℕ) (c : Clause) where
  -- the truth of the clause's instances in the state of an assignment
  abbrev pub truth : List Bool → List ℕ → Bool
  truth a v = instance_true s (test_of first a (facts_over s.predicates universe)) v c

  -- the formula has grown from an older one, and its instances with lesser elements at the place are true
  pub record GroundsBelow (at : ℕ) (values : List ℕ) (old new : Formula) (bound : ℕ) : Type 0 where
    pub narrows : Narrows s universe first old new
    pub passes : (a : List Bool) → Satisfies new a → PassesBelow (truth a) universe (sorts_of_vars c.vars) at values bound

  pub grounds-none : (at : ℕ) (values : List ℕ) (f : Formula) → GroundsBelow at values f f 0
  grounds-none at values f = record { narrows = narrows-same s universe first f; passes = λ a t. below-none universe (sorts_of_vars c.vars) (truth a) at values }

  pub grounds-next : (at sort bound : ℕ) (values : List ℕ) (old f new : Formula) → slice_get (sorts_of_vars c.vars) at ≡ Some sort → GroundsBelow at values old f bound → Narrows s universe first f new
      → GroundsFrom s universe first c (at + 1) (set values at bound) new → GroundsBelow at values old new (bound + 1)
  grounds-next at sort bound values old f new e b n g = record {
    narrows = narrows-further s universe first old f new b.narrows n;
    passes = λ a t. below-next universe (sorts_of_vars c.vars) (truth a) at sort bound values e (b.passes a (n.older a t)) (g.passes a t);
  }

  pub grounds-all : (at sort bound : ℕ) (values : List ℕ) (old new : Formula) → slice_get (sorts_of_vars c.vars) at ≡ Some sort → size_of universe sort ≤ bound → GroundsBelow at values old new bound → GroundsFrom s universe first c at values new
  grounds-all at sort bound values old new e l b = record { passes = λ a t. passes-all universe (sorts_of_vars c.vars) (truth a) at sort bound values e l (b.passes a t) }

  pub grounds-done : (at : ℕ) (values : List ℕ) (f : Formula) → length (sorts_of_vars c.vars) ≤ at → GroundsInstance s universe first c values f → GroundsFrom s universe first c at values f
  grounds-done at values f l g = record { passes = λ a t. passes-done universe (sorts_of_vars c.vars) (truth a) at values l (g.holds a t) }

-- a clause whose instances are true from the first variable on is kept
pub grounds-clause : (s : Specification) (universe : Universe) (first : ℕ) (c : Clause) (f : Formula) (a : List Bool) → length c.vars ≤ 4 → GroundsFrom s universe first c 0 (0 ∷ 0 ∷ 0 ∷ 0 ∷ []) f
    → Satisfies f a → KeepsClause s universe (test_of first a (facts_over s.predicates universe)) c
grounds-clause s universe first c f a short g t = record {
  instances = λ v o.
      let whole = over-filled universe (sorts_of_vars c.vars) v (omega (arith, length-map c.vars (λ (w : Var). w.sort))) o in
      subst (λ (w : List ℕ). instance_true s (test_of first a (facts_over s.predicates universe)) w c ≡ true) whole.1 ((g.passes a t).passes (take (length (sorts_of_vars c.vars)) v) whole.0);
}

-- the clauses before a number are kept
module _ (s : Specification) (universe : Universe) (first : ℕ) where
  pub record KeepsBelow (old new : Formula) (n : ℕ) : Type 0 where
    pub narrows : Narrows s universe first old new
    pub clauses : (a : List Bool) → Satisfies new a → KeepBelow s universe (test_of first a (facts_over s.predicates universe)) n

  pub keeps-none : (f : Formula) → KeepsBelow f f 0
  keeps-none f = record { narrows = narrows-same s universe first f; clauses = λ a t. keep-none s universe (test_of first a (facts_over s.predicates universe)) }

  pub keeps-next : (old f new : Formula) (n : ℕ) (c : Clause) → slice_get s.clauses n ≡ Some c → length c.vars ≤ 4 → KeepsBelow old f n → Narrows s universe first f new
      → GroundsFrom s universe first c 0 (0 ∷ 0 ∷ 0 ∷ 0 ∷ []) new → KeepsBelow old new (n + 1)
  keeps-next old f new n c e short b m g = record {
    narrows = narrows-further s universe first old f new b.narrows m;
    clauses = λ a t. keep-next s universe (test_of first a (facts_over s.predicates universe)) n c e (b.clauses a (m.older a t)) (grounds-clause s universe first c new a short g t);
  }

  pub keeps-all : (old new : Formula) (n : ℕ) → length s.clauses ≤ n → KeepsBelow old new n → Grounds s universe first old new
  keeps-all old new n l b = record {
    vars = b.narrows.vars;
    satisfied = λ a. (
      (λ t. (b.narrows.older a t, keep-all s universe (test_of first a (facts_over s.predicates universe)) n l (b.clauses a t))),
      (λ h. b.narrows.kept a h.0 h.1),
    );
  }

-- the four values of a clause of a specification are open
pub fills-clause : (s : Specification) (universe : Universe) (k : ℕ) (c : Clause) → IsFit s → slice_get s.clauses k ≡ Some c → FillsOver universe (sorts_of_vars c.vars) 0 (0 ∷ 0 ∷ 0 ∷ 0 ∷ [])
fills-clause s universe k c h e = fills-none universe (sorts_of_vars c.vars) (omega (arith, h.variable_count k c e, length-map c.vars (λ (w : Var). w.sort)))
